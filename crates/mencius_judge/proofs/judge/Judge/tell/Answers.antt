use Rattle.std.proofs.Common.{◌≡◌, Some, arith, length, max, refl, subst}
use Rattle.std.specs.BTreeMap.{Updates}
use Rattle.std.specs.Ordering.{nat_cmp}
use Rattle.mencius_log.specs.declared.observation.Observation.TheVariants.{Tell}
use Rattle.mencius_judge.specs.Log.{history}
use Rattle.mencius_judge.specs.Quotes.{log_of}
use Rattle.mencius_judge.specs.Tables.{floor_of}
use Rattle.mencius_judge.proofs.promises.Floors.{floors_tell}
use Rattle.mencius_judge.proofs.observations.HistorySteps.{size_is}
use Rattle.mencius_judge.proofs.observations.Quiet.{histories_same}
use Rattle.mencius_judge.proofs.observations.QuietSteps.{seen_quiet}
use Rattle.mencius_judge.proofs.sources.After.{sources_quiet}
use Rattle.mencius_judge.proofs.judge.Judge.tell.Goals as goal

pub returns : goal.returns
returns c n line seen =
    let j = c.args.self.now in
    let h = seen.log in
    let w = log_of n in
    let r = c.args.reader in
    let p = c.args.server in
    let most = c.max-floor.result in
    let order = j.histories.order.items in
    let places = j.histories.places in
    let rows = j.histories.rows.items in
    let is : most ≡ max (floor_of j.floors r) (length (history w p)) =
    omega (arith, c.max-floor.ensures, c.floor_of.ensures, c.count.ensures, size_is w order places rows h.histories p) in
    let updates : Updates nat_cmp j.floors c.put.new.map r (Some most) =
    subst (λ number. Updates nat_cmp j.floors c.put.new.map number (Some most)) c.from.ensures c.in_ok-put.ensures in
    record {
      log = seen_quiet j w (Tell r p) tt h h.were_submitted h.were_settled h.were_restored
          j.histories refl (histories_same w (Tell r p) tt order places rows h.histories) j.settled h.settled
          c.put.new.map (floors_tell w r p j.floors c.put.new.map most h.floors is updates) j.lookups h.lookups;
      sources =
          sources_quiet n order j.histories.leads.items places rows j.submissions j.replies seen.sources
          (record { number = line; observation = Tell r p });
    }
