use Rattle.std.proofs.Common.{◌≡◌, drop}
use Rattle.mencius_board.specs.Runs.{first_end}
use Rattle.mencius_board.proofs.run.first_end.Given as goal

abbrev pub invariant-loop-way : goal.invariant-loop-way
invariant-loop-way l = first_end l.turns l.ways ≡ first_end l.turns (drop l.way-index l.ways)
