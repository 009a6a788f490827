use Rattle.std.proofs.Common.{◌++◌, ◌∙◌, List, ℕ, ap, codes, string_bytes}
use Rattle.mencius_draw.specs.Svg.{root}
use Rattle.mencius_draw.specs.Words.{tag_text}
use Rattle.mencius_draw.proofs.Escapes.{all_in_tag}
use Rattle.mencius_draw.proofs.Passes.{same, then}
use Rattle.mencius_draw.proofs.svg.begun.Goals as goal

pub returns : goal.returns
returns c =
    let old = string_bytes c.new-text.result in
    let rest = tag_text c.as_bytes.result.now in
    same (then old _ _ _ _ (then old _ _ _ _ c.in_ok-push_str.ensures.bytes c.in_ok-push_rest.ensures) c.in_ok-push_str-2.ensures.bytes
    ∙ ap (λ (text : List ℕ). text ++ (codes "<svg xmlns='http://www.w3.org/2000/svg'" ++ rest ++ codes ">")) c.new-text.ensures.bytes)
    (root rest (all_in_tag c.as_bytes.result.now))
