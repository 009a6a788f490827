use Rattle.std.proofs.Common.{string_bytes}
use Rattle.mencius_verdict.proofs.GrownTexts.{last_piece, with_piece}
use Rattle.mencius_clients.proofs.client_json.push_without.Goals as goal

pub returns : goal.returns
returns c =
    with_piece _ (string_bytes c.args.text.now) _ _ _ _ c.in_ok-push_verdict_field.ensures
    (with_piece _ (string_bytes c.push_verdict_field.new.text) _ _ _ _ c.in_ok-push_str.ensures.bytes
    (with_piece _ (string_bytes c.push_str.new.self) _ _ _ _ c.in_ok-push_number_field.ensures
    (with_piece _ (string_bytes c.push_number_field.new.text) _ _ _ _ c.in_ok-push_key_field.ensures
    (with_piece _ (string_bytes c.push_key_field.new.text) _ _ _ _ c.in_ok-push_lines_field.ensures
    (with_piece _ (string_bytes c.push_lines_field.new.text) _ _ _ _ c.in_ok-push_fitting_field.ensures
    (with_piece _ (string_bytes c.push_fitting_field.new.text) _ _ _ _ c.in_ok-push_sentence_field.ensures
    (last_piece c.push_str-2.result (string_bytes c.push_sentence_field.new.text) _ _ c.push_str-2.ensures.bytes)))))))
