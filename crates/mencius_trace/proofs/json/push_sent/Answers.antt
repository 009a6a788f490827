use Rattle.std.proofs.Common.{string_bytes}
use Rattle.mencius_trace.proofs.GrownTexts.{with_piece}
use Rattle.mencius_trace.proofs.json.push_sent.Goals as goal

pub returns : goal.returns
returns c =
    with_piece _ (string_bytes c.args.text.now) _ _ _ _ c.in_ok-write.ensures.bytes
    (with_piece _ (string_bytes c.write.new.self) _ _ _ _ c.in_ok-push_kind.ensures
    (with_piece _ (string_bytes c.push_kind.new.text) _ _ _ _ c.in_ok-push_way.ensures c.push_content.ensures))
