use Rattle.std.proofs.Common.{◌≡◌}
use Rattle.mencius_judge.specs.Tables.{AreSettled}
use Rattle.mencius_judge.proofs.settled.count_settled.Given as goal

abbrev pub invariant-loop-count : goal.invariant-loop-count
invariant-loop-count l = record {
  count : l.settled.count ≡ l.count;
  facts : AreSettled l.acknowledged l.executions l.fn.start.count l.fn.start.highest
      → AreSettled l.acknowledged l.executions l.settled.count l.settled.highest;
}
