use Rattle.std.proofs.Common.{string_bytes}
use Rattle.mencius_trace.proofs.GrownTexts.{with_piece}
use Rattle.mencius_trace.proofs.json.push_unheard.Goals as goal

pub returns : goal.returns
returns c =
    with_piece _ (string_bytes c.args.text.now) _ _ _ _ c.in_ok-write.ensures.bytes
    (with_piece _ (string_bytes c.write.new.self) _ _ _ _ c.in_ok-push_kind.ensures c.push_place_of.ensures)
