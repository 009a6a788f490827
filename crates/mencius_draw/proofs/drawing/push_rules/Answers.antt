use Rattle.std.proofs.Common.{[], refl}
use Rattle.mencius_draw.proofs.Passes.{adds_none}
use Rattle.mencius_draw.proofs.drawing.push_rules.Goals as goal

pub loop-shape-init : goal.loop-shape-init
loop-shape-init c = adds_none _ [] refl

pub loop-shape-preserved : goal.loop-shape-preserved
loop-shape-preserved c = record {
  run = λ tags es h.
      c.in_ok-push_rule.ensures.run _ _ (c.loop-shape.invariant.run _ _ h);
}
