use Rattle.std.proofs.Common.{string_bytes}
use Rattle.mencius_draw.specs.Layout.{outline}
use Rattle.mencius_draw.specs.Picture.{arrow_by}
use Rattle.mencius_draw.proofs.Passes.{Passes}
use Rattle.mencius_draw.proofs.drawing.push_ways.Given as goal

abbrev pub invariant-loop-shape : goal.invariant-loop-shape
invariant-loop-shape l =
    Passes (arrow_by l.servers l.sents) outline l.shapes l.shape-index (string_bytes l.initial.text) (string_bytes l.text)
