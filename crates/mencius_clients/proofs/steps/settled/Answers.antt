use Rattle.std.proofs.Common.{Global, List, Vec, ◌≡◌, ◌≤◌, ◌+◌, ℕ, Some, length, slice_get, sym, subst, ap, ◌∙◌}
use Rattle.mencius_clients.specs.Configurations.{AreSettled, HasLess, IsOneOf, waiting}
use Rattle.mencius_clients.specs.States.{HasManyIn}
use Rattle.mencius_clients.specs.declared.configuration.Configuration.{Configuration}
use Rattle.mencius_clients.specs.declared.steps.Step.{Step}
use Rattle.mencius_clients.specs.declared.work.Work.{Work}
use Rattle.mencius_clients.proofs.Growing.{settled_all, settled_best, settled_freed, settled_longer, settled_none}
use Rattle.mencius_clients.proofs.SoundSteps.{SoSettled, freed_more, none_one, settled_later, trail_more, within_later}
use Rattle.mencius_clients.proofs.steps.settled.Goals as goal
use Rattle.mencius_clients.proofs.steps.settled.Goals.{then-has+in_ok-push_freed, else-has+in_ok-push_steps}

pub loop-place-init : goal.loop-place-init
loop-place-init c =
    let log = c.args.log.now in
    let work = c.in_ok-work.work.configurations.items in (
      subst (λ next. AreSettled log c.args.slots.now c.args.configurations.now c.args.slot 0 work next) (sym c.new-next.ensures)
          (settled_none log c.args.slots.now c.args.configurations.now work c.args.slot c.in_ok-work.ensures.begins),
      (
        c.in_ok-work.ensures.trail_longer,
        λ within. (
          c.in_ok-work.ensures.sound within,
          λ d one. none_one c.new-next.result.configurations.items d c.new-next.ensures one,
        ),
      ),
    )

pub returns-in_default-clause-settled : goal.returns-in_default-clause-settled
returns-in_default-clause-settled c =
    let log = c.args.log.now in
    let slots = c.args.slots.now in
    let next = c.loop-place.next.configurations.items in
    settled_best log slots c.args.configurations.now next c.in_ok-best.best.items c.args.slot
    (settled_all log slots c.args.configurations.now c.loop-place.work.configurations.items next c.args.slot
    c.loop-place.place c.loop-place.invariant.0
    (subst (λ xs. length xs ≤ c.loop-place.place) c.as_slice-in-loop-place.ensures.value c.in_default.ensures))
    (subst (λ xs. (d : Configuration) → IsOneOf xs d → HasLess log (waiting log slots) c.in_ok-best.best.items d)
    c.as_slice-in_default.ensures.value
    (c.in_ok-best.ensures.best (waiting log slots) c.lost_slots-lost.ensures))

pub returns-in_default-clause-sound : goal.returns-in_default-clause-sound
returns-in_default-clause-sound c within d one =
    let next : List Configuration = c.loop-place.next.configurations.items in
    let there : IsOneOf next d =
    subst (λ xs. IsOneOf xs d) c.as_slice-in_default.ensures.value (c.in_ok-best.ensures.within d one) in
    (c.loop-place.invariant.1.1 within).1 d there

pub loop-place-preserved : goal.loop-place-preserved
loop-place-preserved c =
    let log = c.args.log.now in
    let slots = c.args.slots.now in
    let cs = c.args.configurations.now in
    let work = c.loop-place.work.configurations.items in
    let next = c.loop-place.next.configurations.items in
    let old : List Step = c.args.trail.now.items in
    let trail = c.loop-place.trail.items in
    let slot : ℕ = c.args.slot in
    let h = c.loop-place.invariant.0 in
    let s : SoSettled log slots cs slot old trail work next = c.loop-place.invariant.1 in
    let at : slice_get work c.loop-place.place ≡ Some c.in-Some.from =
    ap (λ xs. slice_get xs c.loop-place.place) (sym c.as_slice-in-loop-place.ensures.value) ∙ c.in-Some.ensures in
    let place : ℕ = c.loop-place.place in
    elim c.if-has.branch [
      | then-has+in_ok-push_freed w ↦
          let e = w.in_ok-push_freed.ensures in
          let new = w.push_freed.new.next.configurations.items in
          let took = sym c.has.ensures ∙ w.if-has.true in
          let more : AreSettled log slots cs slot (place + 1) work new =
          settled_freed log slots cs work next new slot place c.in-Some.from h at took e.longer
          (e.there (waiting log slots) c.lost_slots-lost.ensures) in
          let sound : SoSettled log slots cs slot old trail work new = (
            s.0,
            λ within. (
              (s.1 within).0,
              freed_more log slots trail cs work next new slot c.in-Some.from (place, at) (e.sound took) (s.1 within).0
                  (s.1 within).1,
            ),
          ) in (
            subst (λ (v : Work). AreSettled log slots cs slot (place + 1) v.configurations.items c.if-has.next.configurations.items)
                (sym w.work-is)
                (subst (λ (v : Work). AreSettled log slots cs slot (place + 1) work v.configurations.items) (sym w.next-is) more),
            subst (λ (v : Vec Step Global). SoSettled log slots cs slot old v.items c.if-has.work.configurations.items
                c.if-has.next.configurations.items) (sym w.trail-is)
                (subst (λ (v : Work). SoSettled log slots cs slot old trail v.configurations.items c.if-has.next.configurations.items)
                (sym w.work-is)
                (subst (λ (v : Work). SoSettled log slots cs slot old trail work v.configurations.items) (sym w.next-is) sound)),
          )
      | else-has+in_ok-push_steps w ↦
          let e = w.in_ok-push_steps.ensures in
          let new = w.push_steps.new.work.configurations.items in
          let longer = w.push_steps.new.trail.items in
          let more : AreSettled log slots cs slot (place + 1) new next =
          settled_longer log slots cs work new next slot place c.in-Some.from h at (sym c.has.ensures ∙ w.if-has.false)
          e.longer e.follow in
          let sound : SoSettled log slots cs slot old longer new next = (
            trail_more old trail longer s.0 e.trail_longer,
            λ within. (
              e.sound cs (within_later old trail cs s.0 within) ((s.1 within).0 c.in-Some.from (place, at)) (s.1 within).0,
              settled_later log slots trail longer cs next slot e.trail_longer (s.1 within).1,
            ),
          ) in (
            subst (λ (v : Work). AreSettled log slots cs slot (place + 1) v.configurations.items c.if-has.next.configurations.items)
                (sym w.work-is)
                (subst (λ (v : Work). AreSettled log slots cs slot (place + 1) new v.configurations.items) (sym w.next-is) more),
            subst (λ (v : Vec Step Global). SoSettled log slots cs slot old v.items c.if-has.work.configurations.items
                c.if-has.next.configurations.items) (sym w.trail-is)
                (subst (λ (v : Work). SoSettled log slots cs slot old longer v.configurations.items c.if-has.next.configurations.items)
                (sym w.work-is)
                (subst (λ (v : Work). SoSettled log slots cs slot old longer new v.configurations.items) (sym w.next-is) sound)),
          )
    ]

pub returns-then-branch-clause-many : goal.returns-then-branch-clause-many
returns-then-branch-clause-many c none within =
    let m : HasManyIn c.args.log.now c.as_slice.result.now c.args.limit = c.in_ok-is_given_up.ensures c.if-branch.true in
    record {
      some = m.some;
      many = m.many;
      rising = m.rising;
      reached = λ d one. (c.loop-place.invariant.1.1 within).0 d
          (subst (λ xs. IsOneOf xs d) c.as_slice.ensures.value (m.within d one));
    }
