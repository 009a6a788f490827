use Rattle.std.proofs.Common.{string_bytes}
use Rattle.mencius_verdict.proofs.GrownTexts.{last_piece, with_piece}
use Rattle.mencius_verdict.proofs.sentences.push_restore.Goals as goal

pub returns : goal.returns
returns c =
    with_piece _ (string_bytes c.args.text.now) _ _ _ _ c.in_ok-write.ensures.bytes
    (with_piece _ (string_bytes c.write.new.self) _ _ _ _ c.in_ok-write-2.ensures.bytes
    (with_piece _ (string_bytes c.write-2.new.self) _ _ _ _ c.in_ok-write-3.ensures.bytes
    (with_piece _ (string_bytes c.write-3.new.self) _ _ _ _ c.in_ok-write-4.ensures.bytes
    (last_piece c.push_str.result (string_bytes c.write-4.new.self) _ _ c.push_str.ensures.bytes))))
