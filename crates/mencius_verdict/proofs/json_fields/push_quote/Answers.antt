use Rattle.std.proofs.Common.{string_bytes}
use Rattle.mencius_verdict.proofs.GrownTexts.{last_piece, with_piece}
use Rattle.mencius_verdict.proofs.json_fields.push_quote.Goals as goal

pub returns : goal.returns
returns c =
    with_piece _ (string_bytes c.args.text.now) _ _ _ _ c.in_ok-write.ensures.bytes
    (with_piece _ (string_bytes c.write.new.self) _ _ _ _ c.in_ok-push_str.ensures.bytes
    (with_piece _ (string_bytes c.push_str.new.self) _ _ _ _ c.in_ok-push_observation.ensures
    (last_piece c.push_str-2.result (string_bytes c.push_observation.new.text) _ _ c.push_str-2.ensures.bytes)))
