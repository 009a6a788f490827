use Rattle.std.proofs.Common.{string_bytes}
use Rattle.mencius_draw.proofs.LastCalls.{last_str}
use Rattle.mencius_draw.proofs.Passes.{then}
use Rattle.mencius_draw.proofs.svg.push_place.Goals as goal

pub returns : goal.returns
returns c =
    let old = string_bytes c.args.text.now in
    last_str c.push_str-2.result _ _ _ c.push_str-2.ensures.bytes
    (λ last. then old _ _ _ _ (then old _ _ _ _ c.in_ok-push_str.ensures.bytes c.in_ok-push_point.ensures) last)
