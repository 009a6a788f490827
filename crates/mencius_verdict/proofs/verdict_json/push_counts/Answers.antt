use Rattle.std.proofs.Common.{string_bytes}
use Rattle.mencius_verdict.proofs.GrownTexts.{last_piece, with_piece}
use Rattle.mencius_verdict.proofs.verdict_json.push_counts.Goals as goal

pub returns : goal.returns
returns c =
    with_piece _ (string_bytes c.args.text.now) _ _ _ _ c.in_ok-push_verdict_field.ensures
    (with_piece _ (string_bytes c.push_verdict_field.new.text) _ _ _ _ c.in_ok-push_size_field.ensures
    (with_piece _ (string_bytes c.push_size_field.new.text) _ _ _ _ c.in_ok-push_number_field.ensures
    (with_piece _ (string_bytes c.push_number_field.new.text) _ _ _ _ c.in_ok-push_size_field-2.ensures
    (with_piece _ (string_bytes c.push_size_field-2.new.text) _ _ _ _ c.in_ok-push_number_field-2.ensures
    (with_piece _ (string_bytes c.push_number_field-2.new.text) _ _ _ _ c.in_ok-push_size_field-3.ensures
    (with_piece _ (string_bytes c.push_size_field-3.new.text) _ _ _ _ c.in_ok-push_number_field-3.ensures
    (with_piece _ (string_bytes c.push_number_field-3.new.text) _ _ _ _ c.in_ok-push_size_field-4.ensures
    (last_piece c.push_str.result (string_bytes c.push_size_field-4.new.text) _ _ c.push_str.ensures.bytes))))))))
