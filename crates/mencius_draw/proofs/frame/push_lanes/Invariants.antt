use Rattle.std.proofs.Common.{string_bytes}
use Rattle.mencius_draw.specs.Svg.{Keeps}
use Rattle.mencius_draw.proofs.frame.push_lanes.Given as goal

abbrev pub invariant-loop-server : goal.invariant-loop-server
invariant-loop-server l = Keeps (string_bytes l.initial.text) (string_bytes l.text)
