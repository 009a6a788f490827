use Rattle.std.proofs.Common.{◌++◌, ◌∙◌, ap, string_bytes}
use Rattle.std.specs.Prelude.{decimal}
use Rattle.mencius_trace.proofs.GrownTexts.{last_piece, with_piece}
use Rattle.mencius_trace.proofs.json.push_some_vote.Goals as goal

pub returns : goal.returns
returns c =
    with_piece _ (string_bytes c.args.text.now) _ _ _ _ c.in_ok-push_str.ensures.bytes
    (with_piece _ (string_bytes c.push_str.new.self) _ _ _ _
    (c.in_ok-write.ensures.bytes ∙ ap (λ n. string_bytes c.push_str.new.self ++ decimal n) c.number-ballot.ensures.number)
    (with_piece _ (string_bytes c.write.new.self) _ _ _ _ c.in_ok-push_value_field.ensures
    (last_piece c.push_str-2.result (string_bytes c.push_value_field.new.text) _ _ c.push_str-2.ensures.bytes)))
