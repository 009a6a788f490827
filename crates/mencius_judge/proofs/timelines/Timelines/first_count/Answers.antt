use Rattle.std.proofs.Common.{sym, subst}
use Rattle.std.specs.BTreeMap.{get_by_text}
use Rattle.mencius_judge.specs.Timelines.{IsTimelineOf, held_by}
use Rattle.mencius_judge.proofs.timelines.Timelines.first_count.Goals as goal

pub returns-in-Some : goal.returns-in-Some
returns-in-Some c cs h size =
    let key = c.args.key.now in
    c.first_count.ensures (held_by cs key)
    (subst (λ o. IsTimelineOf (held_by cs key) c.args.to o) (sym c.in-Some.ensures.value)
    (subst (λ n. IsTimelineOf (held_by cs key) n (get_by_text c.args.self.now.by_key key)) size (h key)))

pub returns-in-None : goal.returns-in-None
returns-in-None c cs h size =
    let key = c.args.key.now in
    c.first_absence.ensures (held_by cs key)
    (subst (λ o. IsTimelineOf (held_by cs key) c.args.to o) (sym c.in-None.ensures.value)
    (subst (λ n. IsTimelineOf (held_by cs key) n (get_by_text c.args.self.now.by_key key)) size (h key)))
