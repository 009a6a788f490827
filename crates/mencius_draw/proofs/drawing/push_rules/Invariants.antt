use Rattle.std.proofs.Common.{string_bytes}
use Rattle.mencius_draw.specs.Svg.{Keeps}
use Rattle.mencius_draw.proofs.drawing.push_rules.Given as goal

abbrev pub invariant-loop-shape : goal.invariant-loop-shape
invariant-loop-shape l = Keeps (string_bytes l.initial.text) (string_bytes l.text)
