use Rattle.std.proofs.Common.{◌≡◌, ◌≤◌, ◌-◌, ℕ, [], get_or, vec_len}
use Rattle.mencius_server.proofs.skipped_intervals.SkippedIntervals.none_of_each.Given as goal

abbrev pub invariant-loop-alloc : goal.invariant-loop-alloc
invariant-loop-alloc l = record {
  few : vec_len l.skipped ≤ l.count;
  none : (q : ℕ) → get_or l.skipped.items q [] ≡ [];
}

abbrev pub decreases-loop-alloc : goal.decreases-loop-alloc
decreases-loop-alloc l = l.count - vec_len l.skipped
