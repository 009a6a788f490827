use Rattle.std.proofs.Common.{Global, Vec, ◌≡◌, ◌≢◌, ◌<◌, ◌≤◌, [], Some, ap, arith, inl, inr, length, refl, sym, ◌∙◌}
use Rattle.mencius_judge.specs.declared.histories.Row.{Row}
use Rattle.mencius_log.specs.declared.observation.Observation.{Observation}
use Rattle.mencius_log.specs.declared.observation.Observation.TheVariants.{Restore}
use Rattle.mencius_judge.specs.Log.{history}
use Rattle.mencius_judge.specs.Quotes.{log_of}
use Rattle.mencius_judge.specs.Rows.{count_of}
use Rattle.mencius_judge.proofs.observations.HistorySteps.{none_in, restores, size_is}
use Rattle.mencius_judge.proofs.observations.Quiet.{floors_same}
use Rattle.mencius_judge.proofs.observations.QuietSteps.{seen_quiet}
use Rattle.mencius_judge.proofs.sources.After.{sources_after_restore}
use Rattle.mencius_judge.proofs.judge.Judge.restore.Goals.{then-count-gt0-via-then-count-gt0, then-count-gt0-via-else-count-gt0+then-count}
use Rattle.mencius_judge.proofs.judge.Judge.restore.Goals as goal

pub returns-then-count-gt0 : goal.returns-then-count-gt0
returns-then-count-gt0 c n seen =
    let j = c.args.self.now in
    let w = log_of n in
    let p = c.args.server in
    let q = c.args.source in
    let size = size_is w j.histories.order.items j.histories.places j.histories.rows.items seen.log.histories in
    elim c.then-count-gt0.branch [
      | then-count-gt0-via-then-count-gt0 b ↦
          let some : history w p ≢ [] =
          λ e. (let none = ap length e in omega (arith, size p, c.count.ensures, b.if-count-gt0.true, none)) in
          (((refl, inl some), (λ h. some h.0)), seen)
      | then-count-gt0-via-else-count-gt0+then-count b ↦
          let less : length (history w q) < c.args.count =
          omega (arith, size q, b.count-else-count-gt0.ensures, b.if-count.true) in
          (((refl, inr less), (λ h. omega (arith, less, h.1))), seen)
    ]

pub returns : goal.returns
returns c n seen =
    let j = c.args.self.now in
    let h = seen.log in
    let w = log_of n in
    let p = c.args.server in
    let q = c.args.source in
    let count = c.args.count in
    let order = j.histories.order.items in
    let leads = j.histories.leads.items in
    let places = j.histories.places in
    let rows = j.histories.rows.items in
    let new = c.restore.new.self in
    let o : Observation = Restore p q count in
    let size = size_is w order places rows h.histories in
    let none : count_of places rows p ≡ 0 = omega (arith, c.count.ensures, c.if-count-gt0.false) in
    let few : count ≤ count_of places rows q = omega (arith, c.count-else-count-gt0.ensures, c.if-count.false) in
    let empty : history w p ≡ [] = none_in (history w p) (sym (size p) ∙ none) in
    let enough : count ≤ length (history w q) = omega (arith, few, size q) in
    let kept : count ≡ 0 → (new.places ≡ places) × (new.rows.items ≡ rows) =
    λ z. (let same = c.restore.ensures.none z in (same.0, ap (λ (v : Vec Row Global). v.items) same.1)) in
    record {
      log = seen_quiet j w o tt h h.were_submitted h.were_settled (empty, enough, h.were_restored)
          new c.restore.ensures.order
          (restores w order places rows h.histories p q count empty
          (Some (record { line = c.args.line; source = q; count = count })) new.places new.rows.items h.were_restored enough
          kept c.in_ok-restore.ensures.some)
          j.settled h.settled j.floors (floors_same w o tt j.floors h.floors) j.lookups h.lookups;
      sources =
          rw (c.restore.ensures.order, c.restore.ensures.leads)
          (sources_after_restore n order leads places rows j.submissions j.replies seen.sources h.histories
          c.args.line p q count new.places new.rows.items none few
          kept c.in_ok-restore.ensures.some);
    }
