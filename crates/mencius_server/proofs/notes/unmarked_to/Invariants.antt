use Rattle.std.proofs.Common.{◌≡◌, ℕ, ◌-◌, ◌≤◌, false, get_or, vec_len, vec_capacity}
use Rattle.mencius_server.proofs.notes.unmarked_to.Given as goal

abbrev pub invariant-loop-suggested_again : goal.invariant-loop-suggested_again
invariant-loop-suggested_again l = record {
  within : vec_len l.suggested_again ≤ l.wanted;
  room : l.wanted ≤ vec_capacity l.suggested_again;
  same : (j : ℕ) → get_or l.suggested_again.items j false ≡ get_or l.initial.suggested_again.items j false;
}

abbrev pub decreases-loop-suggested_again : goal.decreases-loop-suggested_again
decreases-loop-suggested_again l = l.wanted - vec_len l.suggested_again
