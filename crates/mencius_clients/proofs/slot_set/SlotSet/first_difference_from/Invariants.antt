use Rattle.std.proofs.Common.{◌≡◌, ℕ, ◌<◌}
use Rattle.mencius_clients.specs.Configurations.{has_slot}
use Rattle.mencius_clients.proofs.slot_set.SlotSet.first_difference_from.Given as goal

abbrev pub invariant-loop-slot : goal.invariant-loop-slot
invariant-loop-slot l = (t : ℕ) → t < l.slot → has_slot l.self t ≡ has_slot l.other t
