use Rattle.std.proofs.Common.{Global, Vec, sym, subst}
use Rattle.mencius_clients.specs.declared.configuration.Configuration.{Configuration}
use Rattle.mencius_clients.specs.declared.steps.Step.{Step}
use Rattle.mencius_clients.specs.Configurations.{waiting}
use Rattle.mencius_clients.proofs.Growing.{read_step}
use Rattle.mencius_clients.proofs.SoundSteps.{SoRead, trail_more, within_later}
use Rattle.mencius_clients.proofs.steps.with_read_steps.Goals as goal
use Rattle.mencius_clients.proofs.steps.with_read_steps.Goals.{then-has+in_ok-new, else-has}

pub loop-slot-preserved : goal.loop-slot-preserved
loop-slot-preserved c =
    let log = c.args.log.now in
    let slots = c.args.slots.now in
    let from : Configuration = c.args.from.now in
    let old = c.args.trail.now.items in
    let trail = c.loop-slot.trail.items in
    let h = c.loop-slot.invariant in
    elim c.if-has.branch [
      | then-has+in_ok-new w ↦
          let e = w.in_ok-new.ensures in
          let more = w.with_read_step.new.trail.items in
          let next : SoRead log slots from old more w.in_ok-new.new = (
            read_step log (waiting log slots) from c.loop-slot.new w.in_ok-new.new c.loop-slot.slot h.0 e.read,
            trail_more old trail more h.1 e.trail_longer,
            λ cs within r. e.sound cs (within_later old trail cs h.1 within) (h.2 cs within r),
          ) in
          subst (λ (v : Vec Step Global). SoRead log slots from old v.items c.if-has.new) (sym w.trail-is)
          (subst (SoRead log slots from old more) (sym w.new-is) next)
      | else-has w ↦
          subst (λ (v : Vec Step Global). SoRead log slots from old v.items c.if-has.new) (sym w.trail-is)
          (subst (SoRead log slots from old trail) (sym w.new-is) h)
    ]
