use Rattle.std.proofs.Common.{string_bytes}
use Rattle.mencius_draw.proofs.LastCalls.{last_str}
use Rattle.mencius_draw.proofs.Passes.{then}
use Rattle.mencius_draw.proofs.svg.push_path_end.Goals as goal

pub returns : goal.returns
returns c =
    let old = string_bytes c.args.text.now in
    rw c.if-is_lost.false
    (last_str c.push_str-3.result _ _ _ c.push_str-3.ensures.bytes (λ last. then old _ _ _ _ (then old _ _ _ _ (then old _ _ _ _ c.in_ok-push_str.ensures.bytes c.in_ok-push_plain.ensures) c.in_ok-write.ensures.bytes)
    last))
