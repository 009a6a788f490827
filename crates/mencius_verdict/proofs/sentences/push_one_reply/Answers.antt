use Rattle.std.proofs.Common.{string_bytes}
use Rattle.mencius_verdict.proofs.GrownTexts.{last_piece, with_piece}
use Rattle.mencius_verdict.proofs.sentences.push_one_reply.Goals as goal

pub returns : goal.returns
returns c =
    with_piece _ (string_bytes c.args.text.now) _ _ _ _ c.in_ok-push_about.ensures
    (with_piece _ (string_bytes c.push_about.new.text) _ _ _ _ c.in_ok-push_answer.ensures
    (last_piece c.push_str.result (string_bytes c.push_answer.new.text) _ _ c.push_str.ensures.bytes))
