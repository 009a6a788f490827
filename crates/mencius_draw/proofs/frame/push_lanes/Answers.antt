use Rattle.std.proofs.Common.{[], refl}
use Rattle.mencius_draw.proofs.Passes.{adds_none}
use Rattle.mencius_draw.proofs.frame.push_lanes.Goals as goal

pub loop-server-init : goal.loop-server-init
loop-server-init c = adds_none _ [] refl

pub loop-server-preserved : goal.loop-server-preserved
loop-server-preserved c = record {
  run = λ tags es h.
      c.in_ok-push_lane.ensures.run _ _ (c.loop-server.invariant.run _ _ h);
}
