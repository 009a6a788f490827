-- A judge has seen an observation that is no submission and no reply, if the few things that it changes are right.
use Rattle.std.proofs.Common.{◌≡◌, ℕ, ◌∷◌, sym, subst}
use Rattle.std.specs.BTreeMap.{BTreeMap}
use Rattle.mencius_judge.specs.declared.histories.Histories.{Histories}
use Rattle.mencius_judge.specs.declared.judge.Judge.{Judge}
use Rattle.mencius_judge.specs.declared.judge.SettledCommands.{SettledCommands}
use Rattle.mencius_log.specs.declared.observation.Observation.{Observation}
use Rattle.mencius_log.specs.declared.observation.Observation.TheVariants.{Submit, Reply}
use Rattle.mencius_judge.specs.Counts.{lookup_count}
use Rattle.mencius_judge.specs.Judged.{HasSeenLog}
use Rattle.mencius_judge.specs.Log.{Log, commands_of}
use Rattle.mencius_judge.specs.Promises.{WereRestored, WereSettled, WereSubmitted}
use Rattle.mencius_judge.specs.Tables.{AreExecutions, AreFloors, AreHistories, AreSettled, IsOrder}
use Rattle.mencius_judge.specs.Timelines.{AreTimelines}
use Rattle.mencius_judge.proofs.observations.Quiet.{IsQuiet, executions_quiet, one_quiet, order_quiet, replies_quiet, submissions_quiet, table_quiet}

pub seen_quiet : (j : Judge) (w : Log) (o : Observation) → IsQuiet o → HasSeenLog j w → WereSubmitted (o ∷ w)
    → WereSettled (o ∷ w) → WereRestored (o ∷ w)
    → (histories : Histories) → histories.order.items ≡ j.histories.order.items
    → AreHistories (o ∷ w) j.histories.order.items histories.places histories.rows.items
    → (settled : SettledCommands) → AreSettled j.acknowledged.items j.executions settled.count settled.highest
    → (floors : BTreeMap ℕ ℕ) → AreFloors (o ∷ w) floors → (lookups : ℕ) → lookups ≡ lookup_count (o ∷ w)
    → HasSeenLog (record j { histories = histories; settled = settled; floors = floors; lookups = lookups }) (o ∷ w)
seen_quiet j w (Submit c) quiet h were_submitted were_settled were_restored histories same histories_are settled settled_are floors floors_are lookups lookups_are =
    absurd quiet
seen_quiet j w (Reply id x) quiet h were_submitted were_settled were_restored histories same histories_are settled settled_are floors floors_are lookups lookups_are =
    absurd quiet
seen_quiet j w o quiet h were_submitted were_settled were_restored histories same histories_are settled settled_are floors floors_are lookups lookups_are =
    let order = j.histories.order.items in
    record {
      one_command = one_quiet w o quiet h.one_command;
      were_submitted = were_submitted;
      one_reply = replies_quiet w o quiet h.one_reply;
      were_settled = were_settled;
      were_restored = were_restored;
      submissions = submissions_quiet w o quiet j.submissions h.submissions;
      histories = subst (λ ids. AreHistories (o ∷ w) ids histories.places histories.rows.items) (sym same) histories_are;
      order = subst (IsOrder (o ∷ w)) (sym same) (order_quiet w o quiet order h.order);
      replies = table_quiet w o quiet j.replies j.acknowledged.items h.replies;
      executions =
          subst (λ ids. AreExecutions (o ∷ w) ids j.executions) (sym same)
          (executions_quiet w o quiet order j.executions h.executions);
      settled = settled_are;
      timelines = subst (λ ids. AreTimelines (commands_of (o ∷ w) ids) j.timelines.by_key) (sym same) h.timelines;
      floors = floors_are;
      commands = h.commands;
      replied = h.replied;
      lookups = lookups_are;
    }
