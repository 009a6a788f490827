use Rattle.std.proofs.Common.{sym, subst}
use Rattle.mencius_clients.specs.Configurations.{AreLost, waiting}
use Rattle.mencius_clients.proofs.Fewer.{more_lost, none_lost}
use Rattle.mencius_clients.proofs.steps.lost_slots.Goals as goal
use Rattle.mencius_clients.proofs.steps.lost_slots.Goals.{then-is_lost, else-is_lost}

pub loop-slot-init : goal.loop-slot-init
loop-slot-init c =
    let calls = waiting c.args.log.now c.args.slots.now in
    subst (AreLost c.args.log.now calls) (sym c.new-lost.ensures) (none_lost c.args.log.now calls)

pub loop-slot-preserved : goal.loop-slot-preserved
loop-slot-preserved c =
    let log = c.args.log.now in
    let slots = c.args.slots.now in
    elim c.if-is_lost.branch [
      | then-is_lost w ↦
          subst (AreLost log (waiting log slots)) (sym w.lost-is)
          (more_lost log (waiting log slots) c.loop-slot.lost w.with-lost.result c.loop-slot.slot
          c.loop-slot.invariant (c.is_lost.ensures w.if-is_lost.true) w.with-lost.ensures.elsewhere)
      | else-is_lost w ↦ subst (AreLost log (waiting log slots)) (sym w.lost-is) c.loop-slot.invariant
    ]
