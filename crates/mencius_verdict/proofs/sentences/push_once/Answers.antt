use Rattle.std.proofs.Common.{string_bytes}
use Rattle.mencius_verdict.proofs.GrownTexts.{with_piece}
use Rattle.mencius_verdict.proofs.sentences.push_once.Goals as goal

pub returns : goal.returns
returns c =
    with_piece _ (string_bytes c.args.text.now) _ _ _ _ c.in_ok-write.ensures.bytes
    (with_piece _ (string_bytes c.write.new.self) _ _ _ _ c.in_ok-write-2.ensures.bytes
    c.push_about.ensures)
