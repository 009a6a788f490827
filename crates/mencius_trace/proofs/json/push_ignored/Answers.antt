use Rattle.std.proofs.Common.{string_bytes}
use Rattle.mencius_trace.proofs.GrownTexts.{with_piece}
use Rattle.mencius_trace.proofs.json.push_ignored.Goals as goal

pub returns : goal.returns
returns c =
    with_piece _ (string_bytes c.args.text.now) _ _ _ _ c.in_ok-push_str.ensures.bytes
    (with_piece _ (string_bytes c.push_str.new.self) _ _ _ _ c.in_ok-push_place_of.ensures
    (with_piece _ (string_bytes c.push_place_of.new.text) _ _ _ _ c.in_ok-push_kind.ensures c.push_reason.ensures))
