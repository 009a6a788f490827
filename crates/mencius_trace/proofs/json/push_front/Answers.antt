use Rattle.std.proofs.Common.{string_bytes}
use Rattle.mencius_trace.proofs.GrownTexts.{with_piece}
use Rattle.mencius_trace.proofs.json.push_front.Goals as goal

pub returns : goal.returns
returns c =
    with_piece _ (string_bytes c.args.text.now) _ _ _ _ c.in_ok-push_str.ensures.bytes c.push_place.ensures
