use Rattle.std.proofs.Common.{◌∙◌, map}
use Rattle.mencius_draw.specs.Layout.{outline}
use Rattle.mencius_draw.proofs.Needed.{with_sents}
use Rattle.mencius_draw.proofs.drawing.inner_text.Goals as goal

pub returns : goal.returns
returns c =
    with_sents c.args.servers (map outline c.args.shapes.now) _ (c.as_slice.ensures.value ∙ c.in_ok-sents.ensures)
    (c.in_ok-push_key.ensures.run _ _ (c.in_ok-push_feet.ensures.run _ _ (c.in_ok-push_shapes.ensures.run _ _ (c.in_ok-push_ways.ensures.run _ _ (c.in_ok-push_lanes.ensures.run _ _ (c.in_ok-push_rules.ensures.run _ _ c.in_ok-text.ensures))))))
