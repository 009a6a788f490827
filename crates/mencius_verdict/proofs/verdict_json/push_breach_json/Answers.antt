use Rattle.std.proofs.Common.{string_bytes}
use Rattle.mencius_verdict.proofs.GrownTexts.{last_piece, with_piece}
use Rattle.mencius_verdict.proofs.verdict_json.push_breach_json.Goals as goal

pub returns : goal.returns
returns c =
    with_piece _ (string_bytes c.args.text.now) _ _ _ _ c.in_ok-push_verdict_field.ensures
    (with_piece _ (string_bytes c.push_verdict_field.new.text) _ _ _ _ c.in_ok-push_promise.ensures
    (with_piece _ (string_bytes c.push_promise.new.text) _ _ _ _ c.in_ok-push_number_field.ensures
    (with_piece _ (string_bytes c.push_number_field.new.text) _ _ _ _ c.in_ok-push_figures.ensures
    (with_piece _ (string_bytes c.push_figures.new.text) _ _ _ _ c.in_ok-push_lines_field.ensures
    (with_piece _ (string_bytes c.push_lines_field.new.text) _ _ _ _ c.in_ok-push_said.ensures
    (last_piece c.push_str.result (string_bytes c.push_said.new.text) _ _ c.push_str.ensures.bytes))))))
