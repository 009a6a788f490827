use Rattle.std.proofs.Common.{length, sym, subst}
use Rattle.mencius_judge.specs.Timelines.{IsTimelineOf, held_by}
use Rattle.mencius_judge.proofs.keys.Periods.{never_began}
use Rattle.mencius_judge.proofs.timelines.Timelines.began.Goals as goal

pub returns-in-Some : goal.returns-in-Some
returns-in-Some c cs h fits is =
    let key = c.args.key.now in
    c.began.ensures (held_by cs key) (length cs)
    (subst (λ o. IsTimelineOf (held_by cs key) (length cs) o) (sym c.in-Some.ensures.value) (h key)) fits is

pub returns-in-None : goal.returns-in-None
returns-in-None c cs h fits is =
    let key = c.args.key.now in
    never_began (held_by cs key) (length cs) c.args.count
    (subst (λ o. IsTimelineOf (held_by cs key) (length cs) o) (sym c.in-None.ensures.value) (h key)) fits
