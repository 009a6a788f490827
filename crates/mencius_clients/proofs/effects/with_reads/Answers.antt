use Rattle.mencius_clients.specs.Configurations.{waiting}
use Rattle.mencius_clients.proofs.Growing.{read_step}
use Rattle.mencius_clients.proofs.effects.with_reads.Goals as goal

pub loop-slot-preserved : goal.loop-slot-preserved
loop-slot-preserved c =
    read_step c.args.log.now (waiting c.args.log.now c.args.slots.now) c.args.from.now c.loop-slot.new c.with_read-new.result
    c.loop-slot.slot c.loop-slot.invariant c.with_read-new.ensures.read
