use Rattle.std.proofs.Common.{string_bytes}
use Rattle.mencius_draw.proofs.LastCalls.{last_str}
use Rattle.mencius_draw.proofs.Passes.{same, then}
use Rattle.mencius_draw.specs.Svg.{place}
use Rattle.mencius_draw.proofs.svg.push_moved.Goals as goal

pub returns : goal.returns
returns c =
    last_str c.push_str-2.result _ _ _ c.push_str-2.ensures.bytes (λ last. record {
      run = λ tags es h.
          let old = string_bytes c.args.text.now in
          same (then old _ _ _ _ (then old _ _ _ _ (c.in_ok-push_str.ensures.bytes) c.in_ok-push_place.ensures) last)
          (place c.args.place h);
    })
