use Rattle.std.proofs.Common.{◌<◌}
use Rattle.mencius_draw.proofs.drawing.greatest_reach.Given as goal

abbrev pub invariant-loop-shape : goal.invariant-loop-shape
invariant-loop-shape l = l.reach < 10000
