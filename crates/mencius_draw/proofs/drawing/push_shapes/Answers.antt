use Rattle.mencius_draw.specs.Layout.{outline}
use Rattle.mencius_draw.specs.Picture.{groups_by}
use Rattle.mencius_draw.proofs.Passes.{passes_all, passes_none, passes_one}
use Rattle.mencius_draw.proofs.drawing.push_shapes.Goals as goal

pub loop-shape-init : goal.loop-shape-init
loop-shape-init c = passes_none (groups_by c.args.servers) outline c.args.shapes.now _

pub loop-shape-preserved : goal.loop-shape-preserved
loop-shape-preserved c =
    passes_one (groups_by c.args.servers) outline c.args.shapes.now c.loop-shape.shape-index _ _ _ _ c.loop-shape-test.true
    c.loop-shape.invariant c.in_ok-push_shape.ensures

pub returns : goal.returns
returns c =
    passes_all (groups_by c.args.servers) outline c.args.shapes.now c.loop-shape.shape-index _ _ c.loop-shape-test.false
    c.loop-shape.invariant
