use borrow.Author.Count.{below_more}
use Rattle.std.proofs.Common.{◌≡◌, Some, arith}
use Rattle.mencius_base.specs.declared.command.Command.{Command}
use Rattle.mencius_clients.specs.Configurations.{waiting}
use Rattle.mencius_clients.proofs.slots.free_slot.Goals as goal

pub loop-slot-preserved : goal.loop-slot-preserved
loop-slot-preserved c =
    below_more (λ t. (d : Command) × (waiting c.args.log.now c.args.slots.now t ≡ Some d)) c.loop-slot.slot
    c.loop-slot.invariant c.if-is_free.ensures

pub returns : goal.returns
returns c t less = let all = c.loop-slot-test.false in c.loop-slot.invariant t (omega arith)
