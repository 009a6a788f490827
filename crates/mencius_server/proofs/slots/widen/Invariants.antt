use Rattle.std.proofs.Common.{◌≡◌, ◌-◌, ◌≤◌, ℕ, vec_len, vec_capacity}
use Rattle.mencius_server.specs.Slots.{stored_at}
use Rattle.mencius_server.proofs.slots.widen.Given as goal

abbrev pub invariant-loop-slots : goal.invariant-loop-slots
invariant-loop-slots l = record {
  within : vec_len l.slots ≤ l.wider;
  room : l.wider ≤ vec_capacity l.slots;
  same : (j : ℕ) → stored_at l.slots.items j ≡ stored_at l.initial.slots.items j;
}

abbrev pub decreases-loop-slots : goal.decreases-loop-slots
decreases-loop-slots l = l.wider - vec_len l.slots
