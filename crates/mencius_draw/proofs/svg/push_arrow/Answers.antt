use Rattle.std.proofs.Common.{string_bytes}
use Rattle.mencius_draw.proofs.Escapes.{all_harmless}
use Rattle.mencius_draw.proofs.LastCalls.{last_str}
use Rattle.mencius_draw.proofs.Passes.{same, then}
use Rattle.mencius_draw.specs.Svg.{arrow}
use Rattle.mencius_draw.proofs.svg.push_arrow.Goals as goal

pub returns : goal.returns
returns c =
    last_str c.push_str-2.result _ _ _ c.push_str-2.ensures.bytes (λ last. record {
      run = λ tags es h.
          let old = string_bytes c.args.text.now in
          let kind = then old _ _ _ _ (then old _ _ _ _ c.in_ok-push_str.ensures.bytes c.in_ok-push_fate.ensures) c.in_ok-push_plain.ensures in
          let message = then old _ _ _ _ (then old _ _ _ _ (then old _ _ _ _ kind c.in_ok-push_owner.ensures) c.in_ok-push_event.ensures) c.in_ok-push_number.ensures in
          let path = then old _ _ _ _ (then old _ _ _ _ (then old _ _ _ _ message c.in_ok-push_point.ensures) c.in_ok-push_plain-2.ensures) c.in_ok-push_point-2.ensures in
          same (then old _ _ _ _ (then old _ _ _ _ path c.in_ok-push_path_end.ensures) last)
          (arrow c.args.arrow _ _ _ (all_harmless c.as_bytes.result.now) (all_harmless c.as_bytes-2.result.now)
          (all_harmless c.as_bytes-3.result.now) h);
    })
