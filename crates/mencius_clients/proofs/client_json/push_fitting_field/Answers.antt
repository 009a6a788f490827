use Rattle.std.proofs.Common.{arith, string_bytes}
use Rattle.mencius_verdict.proofs.GrownTexts.{last_char, with_piece}
use Rattle.mencius_clients.proofs.client_json.push_fitting_field.Goals as goal

pub returns : goal.returns
returns c =
    with_piece _ (string_bytes c.args.text.now) _ _ _ _ c.in_ok-push_str.ensures.bytes
    (with_piece _ (string_bytes c.push_str.new.self) _ _ _ _ c.in_ok-push_answers.ensures
    (last_char c.push.result (string_bytes c.push_answers.new.text) _ _ _ (c.push.ensures.ascii (omega arith))
    c.push.ensures.bytes))
