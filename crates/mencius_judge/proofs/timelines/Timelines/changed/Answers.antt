use Rattle.std.proofs.Common.{arith, length, sym, subst}
use Rattle.mencius_judge.specs.Timelines.{IsTimelineOf, held_by}
use Rattle.mencius_judge.proofs.keys.Periods.{never_began, present_began}
use Rattle.mencius_judge.proofs.timelines.Timelines.changed.Goals as goal

pub returns-in-Some : goal.returns-in-Some
returns-in-Some c cs h =
    let key = c.args.key.now in
    present_began (held_by cs key) (length cs) c.in-Some.timeline.now
    (subst (λ o. IsTimelineOf (held_by cs key) (length cs) o) (sym c.in-Some.ensures.value) (h key))

pub returns-in-None : goal.returns-in-None
returns-in-None c cs h =
    let key = c.args.key.now in
    never_began (held_by cs key) (length cs) (length cs)
    (subst (λ o. IsTimelineOf (held_by cs key) (length cs) o) (sym c.in-None.ensures.value) (h key)) (omega arith)
