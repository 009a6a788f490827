use Rattle.std.proofs.Common.{◌≡◌, ℕ, None, get_or, vec_len}
use Rattle.mencius_trace.proofs.votes.no_ballots.Given as goal

abbrev pub invariant-loop-inst : goal.invariant-loop-inst
invariant-loop-inst l = record {
  len : vec_len l.ballots ≡ l._inst;
  none : (i : ℕ) → get_or l.ballots.items i None ≡ None;
}
