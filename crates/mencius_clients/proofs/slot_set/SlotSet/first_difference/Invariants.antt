use Rattle.std.proofs.Common.{◌≡◌, ℕ, ◌*◌, ◌<◌}
use Rattle.mencius_clients.specs.Configurations.{has_slot}
use Rattle.mencius_clients.proofs.slot_set.SlotSet.first_difference.Given as goal

abbrev pub invariant-loop-word : goal.invariant-loop-word
invariant-loop-word l = (t : ℕ) → t < 64 * l.word → has_slot l.self t ≡ has_slot l.other t
