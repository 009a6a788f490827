use Rattle.std.proofs.Common.{◌≡◌, ◌++◌, drop, filter_map, map}
use Rattle.mencius_draw.specs.Layout.{outline, sent_here, sents_of}
use Rattle.mencius_draw.proofs.layout.sents_of.Given as goal

abbrev pub invariant-loop-shape : goal.invariant-loop-shape
invariant-loop-shape l =
    l.sents.items ++ filter_map sent_here (map outline (drop l.shape-index l.shapes))
    ≡ sents_of (map outline l.shapes)
