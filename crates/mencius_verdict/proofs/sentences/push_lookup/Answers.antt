use Rattle.std.proofs.Common.{◌≡◌, ◌++◌, ◌∙◌, ap, string_bytes}
use Rattle.mencius_verdict.proofs.GrownTexts.{last_piece, with_piece}
use Rattle.mencius_verdict.proofs.sentences.push_lookup.Goals as goal

pub returns : goal.returns
returns c =
    let key : string_bytes c.push_str-2.new.self ≡ string_bytes c.push_str.new.self ++ c.args.key.now =
    c.in_ok-push_str-2.ensures.bytes ∙ ap (λ k. string_bytes c.push_str.new.self ++ k) c.as_str.ensures in
    with_piece _ (string_bytes c.args.text.now) _ _ _ _ c.in_ok-write.ensures.bytes
    (with_piece _ (string_bytes c.write.new.self) _ _ _ _ c.in_ok-push_str.ensures.bytes
    (with_piece _ (string_bytes c.push_str.new.self) _ _ _ _ key
    (with_piece _ (string_bytes c.push_str-2.new.self) _ _ _ _ c.in_ok-push_str-3.ensures.bytes
    (with_piece _ (string_bytes c.push_str-3.new.self) _ _ _ _ c.in_ok-push_range.ensures
    (with_piece _ (string_bytes c.push_range.new.text) _ _ _ _ c.in_ok-push_str-4.ensures.bytes
    (with_piece _ (string_bytes c.push_str-4.new.self) _ _ _ _ c.in_ok-push_floor.ensures
    (last_piece c.push_str-5.result (string_bytes c.push_floor.new.text) _ _ c.push_str-5.ensures.bytes)))))))
