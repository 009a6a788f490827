use Rattle.std.proofs.Common.{string_bytes}
use Rattle.mencius_verdict.proofs.GrownTexts.{last_piece, with_piece}
use Rattle.mencius_clients.proofs.client_lines.push_named.Goals as goal

pub returns : goal.returns
returns c =
    with_piece _ (string_bytes c.args.text.now) _ _ _ _ c.in_ok-push_str.ensures.bytes
    (with_piece _ (string_bytes c.push_str.new.self) _ _ _ _ c.in_ok-push_answer.ensures
    (with_piece _ (string_bytes c.push_answer.new.text) _ _ _ _ c.in_ok-push_other_answers.ensures
    (last_piece c.push_str-2.result (string_bytes c.push_other_answers.new.text) _ _ c.push_str-2.ensures.bytes)))
