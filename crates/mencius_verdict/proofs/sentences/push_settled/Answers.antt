use Rattle.std.proofs.Common.{string_bytes}
use Rattle.mencius_verdict.proofs.GrownTexts.{last_piece, with_piece}
use Rattle.mencius_verdict.proofs.sentences.push_settled.Goals as goal

pub returns : goal.returns
returns c =
    with_piece _ (string_bytes c.args.text.now) _ _ _ _ c.in_ok-write.ensures.bytes
    (with_piece _ (string_bytes c.write.new.self) _ _ _ _ c.in_ok-push_named.ensures
    (with_piece _ (string_bytes c.push_named.new.text) _ _ _ _ c.in_ok-push_named-2.ensures
    (last_piece c.push_str.result (string_bytes c.push_named-2.new.text) _ _ c.push_str.ensures.bytes)))
