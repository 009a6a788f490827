use Rattle.std.proofs.Common.{◌++◌, ◌∙◌, ap, append-nil, filter_map, map, sym}
use Rattle.std.proofs.lemmas.List.{drop_all}
use Rattle.mencius_draw.specs.Layout.{outline, sent_here}
use Rattle.mencius_draw.proofs.ShapeLists.{sents_further}
use Rattle.mencius_draw.proofs.layout.sents_of.Goals as goal

pub loop-shape-preserved : goal.loop-shape-preserved
loop-shape-preserved c =
    sents_further c.args.shapes.now c.loop-shape.shape-index _ _ _ _ c.loop-shape-test.true c.loop-shape.invariant
    c.in_ok-push_sent_here.ensures

pub loop-shape-init : goal.loop-shape-init
loop-shape-init c = ap (λ items. items ++ filter_map sent_here (map outline c.args.shapes.now)) c.new-sents.ensures.items

pub returns : goal.returns
returns c =
    sym (append-nil c.loop-shape.sents.items)
    ∙ ap (λ shapes. c.loop-shape.sents.items ++ filter_map sent_here (map outline shapes))
    (sym (drop_all c.loop-shape.shape-index c.args.shapes.now c.loop-shape-test.false))
    ∙ c.loop-shape.invariant
