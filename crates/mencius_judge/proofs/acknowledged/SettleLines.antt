-- A judge is right about a server that is said to be settled.
use Rattle.std.proofs.Common.{◌≡◌, ℕ, ◌<◌, ◌≤◌, ◌∷◌, Some, None, length, slice_get, refl}
use Rattle.std.specs.Ordering.{nat_cmp}
use Rattle.std.specs.BTreeMap.{get}
use Rattle.mencius_base.specs.Numbers.{ServerId}
use Rattle.mencius_base.specs.declared.command.CommandId.{CommandId}
use Rattle.mencius_judge.specs.declared.judge.Judge.{Judge}
use Rattle.mencius_judge.specs.declared.judge.SettledCommands.{SettledCommands}
use Rattle.mencius_log.specs.declared.observation.Observation.TheVariants.{Settle}
use Rattle.mencius_judge.specs.declared.violation.Violation.TheVariants as violation
use Rattle.mencius_judge.specs.Judged.{Breaks, HasSeen}
use Rattle.mencius_judge.specs.Quotes.{NumberedLog, log_of}
use Rattle.mencius_judge.specs.Rows.{count_of}
use Rattle.mencius_judge.specs.Tables.{AreSettled, identity_key}
use Rattle.mencius_judge.proofs.acknowledged.SettledCounts.{has_all, highest_within, lacks_highest, lacks_unsettled, not_settled}
use Rattle.mencius_judge.proofs.observations.Quiet.{floors_same, histories_same}
use Rattle.mencius_judge.proofs.observations.QuietSteps.{seen_quiet}
use Rattle.mencius_judge.proofs.sources.After.{sources_quiet}

-- the judge with another count of settled commands
abbrev pub with_settled : Judge → SettledCommands → Judge
with_settled j settled = record j { settled = settled }

-- a judge may count the settled commands at any time
pub seen_settled : (j : Judge) (n : NumberedLog) (settled : SettledCommands) → HasSeen j n
    → AreSettled j.acknowledged.items j.executions settled.count settled.highest → HasSeen (with_settled j settled) n
seen_settled j n settled h facts = record {
  log = record {
    one_command = h.log.one_command;
    were_submitted = h.log.were_submitted;
    one_reply = h.log.one_reply;
    were_settled = h.log.were_settled;
    were_restored = h.log.were_restored;
    submissions = h.log.submissions;
    histories = h.log.histories;
    order = h.log.order;
    replies = h.log.replies;
    executions = h.log.executions;
    settled = facts;
    timelines = h.log.timelines;
    floors = h.log.floors;
    commands = h.log.commands;
    replied = h.log.replied;
    lookups = h.log.lookups;
  };
  sources = h.sources;
}

module _ (j : Judge) (n : NumberedLog) (h : HasSeen j n) (p : ServerId) where
  -- the first acknowledged command that is in no history
  pub settle_missing : (count : ℕ) (id : CommandId) → slice_get j.acknowledged.items count ≡ Some id
      → get nat_cmp j.executions (identity_key id) ≡ None → Breaks (log_of n) (Settle p) (violation.Settled p id)
  settle_missing count id there none =
      let r = lacks_unsettled (log_of n) j.histories.order.items j.histories.places j.histories.rows.items j.replies
      j.acknowledged.items j.executions h.log.histories h.log.order h.log.replies h.log.executions p count id there none in
      ((refl, r.0, r.1), not_settled (log_of n) p id r.0 r.1)

  module _ (settled : SettledCommands) (facts : AreSettled j.acknowledged.items j.executions settled.count settled.highest) where
    -- the acknowledged command with the highest place
    pub settle_behind : 0 < settled.count → count_of j.histories.places j.histories.rows.items p ≤ settled.highest
        → (id : CommandId) → slice_get j.histories.order.items settled.highest ≡ Some id
        → Breaks (log_of n) (Settle p) (violation.Settled p id)
    settle_behind some past id at =
        let r = lacks_highest (log_of n) j.histories.order.items j.histories.places j.histories.rows.items j.replies
        j.acknowledged.items j.executions h.log.histories h.log.order h.log.replies h.log.executions p settled.count settled.highest
        facts some past id at in
        ((refl, r.0, r.1), not_settled (log_of n) p id r.0 r.1)

    pub settle_within : 0 < settled.count → settled.highest < length j.histories.order.items
    settle_within some =
        highest_within (log_of n) j.histories.order.items j.histories.places j.histories.rows.items j.replies
        j.acknowledged.items j.executions h.log.histories h.log.order h.log.replies h.log.executions settled.count settled.highest
        facts some

    -- a server that has all acknowledged commands
    pub settle_kept : (line : ℕ) → length j.acknowledged.items ≤ settled.count
        → (0 < settled.count → settled.highest < count_of j.histories.places j.histories.rows.items p)
        → HasSeen (with_settled j settled) (record { number = line; observation = Settle p } ∷ n)
    settle_kept line all most =
        let w = log_of n in
        let order = j.histories.order.items in
        let places = j.histories.places in
        let rows = j.histories.rows.items in
        record {
          log = seen_quiet j w (Settle p) tt h.log h.log.were_submitted (
            has_all w order places rows j.replies j.acknowledged.items j.executions h.log.histories h.log.order h.log.replies
                h.log.executions p settled.count settled.highest facts all most,
            h.log.were_settled,
          )
              h.log.were_restored j.histories refl (histories_same w (Settle p) tt order places rows h.log.histories) settled facts
              j.floors (floors_same w (Settle p) tt j.floors h.log.floors) j.lookups h.log.lookups;
          sources = sources_quiet n order j.histories.leads.items places rows j.submissions j.replies h.sources
              (record { number = line; observation = Settle p });
        }
