use Rattle.std.proofs.Common.{◌≤◌, vec_len}
use Rattle.mencius_clients.proofs.fitting_answers.written_answers.Given as goal

abbrev pub invariant-loop-observation : goal.invariant-loop-observation
invariant-loop-observation l = vec_len l.answers ≤ 16
