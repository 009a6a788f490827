use Rattle.std.proofs.Common.{length}
use Rattle.mencius_draw.specs.Layout.{lines_of}
use Rattle.mencius_draw.proofs.ShapeLists.{IsPassed}
use Rattle.mencius_draw.proofs.layout.end_of.Given as goal

abbrev pub invariant-loop-after : goal.invariant-loop-after
invariant-loop-after l = IsPassed l.options (lines_of l.trace) (length l.yielded) l.pen l.line
