use Rattle.std.proofs.Common.{◌≡◌}
use Rattle.mencius_draw.specs.Words.{rest}
use Rattle.mencius_draw.proofs.words.rest.Given as goal

abbrev pub invariant-loop-passed : goal.invariant-loop-passed
invariant-loop-passed l = l.left ≡ rest l._passed l.line
