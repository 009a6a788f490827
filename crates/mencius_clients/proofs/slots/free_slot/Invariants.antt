use Rattle.std.proofs.Common.{◌≡◌, ℕ, ◌<◌, Some}
use Rattle.mencius_base.specs.declared.command.Command.{Command}
use Rattle.mencius_clients.specs.Configurations.{waiting}
use Rattle.mencius_clients.proofs.slots.free_slot.Given as goal

abbrev pub invariant-loop-slot : goal.invariant-loop-slot
invariant-loop-slot l = (t : ℕ) → t < l.slot → (c : Command) × (waiting l.log l.slots t ≡ Some c)
