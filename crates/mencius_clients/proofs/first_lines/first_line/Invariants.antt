use Rattle.std.proofs.Common.{◌-◌}
use Rattle.mencius_clients.specs.Explained.{IsBetween}
use Rattle.mencius_clients.proofs.first_lines.first_line.Given as goal

abbrev pub decreases-loop-high : goal.decreases-loop-high
decreases-loop-high l = l.high - l.low

abbrev pub invariant-loop-high : goal.invariant-loop-high
invariant-loop-high l = IsBetween l.log l.low l.high
