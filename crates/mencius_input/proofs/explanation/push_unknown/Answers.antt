use Rattle.std.proofs.Common.{◌≡◌, ◌++◌, ◌∙◌, List, ℕ, ap, codes, drop, refl, string_bytes, append_assoc, arith}
use Rattle.std.proofs.lemmas.Grind.{common_steps}
use Rattle.mencius_input.specs.FieldsOf.{field_name, list_field, whole_fields}
use Rattle.mencius_input.specs.Explanations.{further_names, kind_name, unknown_words}
use Rattle.mencius_input.proofs.explanation.push_unknown.Goals as goal

-- six texts that are appended one after another are appended together
one_text : (w u v x y z all a k b f e l : List ℕ) → u ≡ w ++ a → v ≡ u ++ k → x ≡ v ++ b → y ≡ x ++ f → z ≡ y ++ e
    → all ≡ z ++ l → all ≡ w ++ (a ++ k ++ b ++ f ++ e ++ l)
one_text w u v x y z all a k b f e l h i j m n o = rw (o, n, m, j, i, h) (simp append_assoc refl)

pub returns : goal.returns
unfolding unknown_words
returns c =
    let kind = c.args.kind in
    let names : string_bytes c.loop-field.words
    ≡ string_bytes c.push_str-3.new.self ++ further_names (drop 1 (whole_fields kind)) = grind (arith, common_steps) in
    one_text (string_bytes c.args.words.now) (string_bytes c.push_str.new.self) (string_bytes c.push_str-2.new.self)
    (string_bytes c.push_str-3.new.self) (string_bytes c.loop-field.words) (string_bytes c.push_str-4.new.self)
    (string_bytes c.push_str-5.new.self)
    (codes " is no field: a scenario of ") (kind_name kind) (codes " has version")
    (further_names (drop 1 (whole_fields kind))) (codes " and ") (field_name (list_field kind))
    c.in_ok-push_str.ensures.bytes
    (c.in_ok-push_str-2.ensures.bytes ∙ ap (λ text. string_bytes c.push_str.new.self ++ text) c.kind_name.ensures)
    c.in_ok-push_str-3.ensures.bytes names c.in_ok-push_str-6.ensures.bytes
    (c.in_ok-push_str-7.ensures.bytes
    ∙ ap (λ text. string_bytes c.push_str-4.new.self ++ text) (c.name-2.ensures ∙ ap field_name c.list_field.ensures))
