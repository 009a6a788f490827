use Rattle.std.proofs.Common.{◌≡◌, ◌∙◌, ap, arith, map}
use Rattle.mencius_draw.specs.declared.layout.Spot.{Spot}
use Rattle.mencius_draw.specs.Layout.{lines_of, outline}
use Rattle.mencius_draw.specs.Picture.{levels_of}
use Rattle.mencius_draw.proofs.Needed.{is_picture}
use Rattle.mencius_draw.proofs.drawing.picture.Goals as goal

pub returns : goal.returns
returns c =
    let end : c.end_of-end.result.next ≡ levels_of c.args.options.now (lines_of c.args.trace.now) =
    ap (λ (s : Spot). s.next) c.end_of-end.ensures in (
      omega (arith, end),
      is_picture c.args.options.now c.args.trace.now _ c.servers_of-servers.result _ c.servers_of-servers.ensures
          (ap (map outline) c.as_slice.ensures.value ∙ c.in_ok-shapes.ensures) c.in_ok-picture_text.ensures,
    )
