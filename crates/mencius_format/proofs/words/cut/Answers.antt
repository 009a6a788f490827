use Rattle.std.proofs.Common.{◌≡◌, ◌-◌, ◌∙◌, ℕ, List, ap, arith, refl, sym, take}
use Rattle.std.proofs.lemmas.Str.{IsCharBoundary-after_ascii, IsCharBoundary-before_ascii}
use Rattle.mencius_format.proofs.CutWords.{found_byte, found_parts, lacking_parts}
use Rattle.mencius_format.proofs.words.cut.Goals as goal

pub range-requires-clause-end_boundary : goal.range-requires-clause-end_boundary
range-requires-clause-end_boundary c =
    let found = found_byte c.args.at c.args.text.now c.in-Some.place (sym c.in-Some.ensures) in
    IsCharBoundary-before_ascii c.args.text.now c.in-Some.place found.0 (rw found.1 c.requires)

pub range_from-requires : goal.range_from-requires
range_from-requires c _ =
    let found = found_byte c.args.at c.args.text.now c.in-Some.place (sym c.in-Some.ensures) in
    IsCharBoundary-after_ascii c.args.text.now c.in-Some.place c.utf8.text found.0 (rw found.1 c.requires)

pub returns-in-Some : goal.returns-in-Some
returns-in-Some c =
    let text : List ℕ = c.args.text.now in
    let whole : c.in-Some.place - 0 ≡ c.in-Some.place = omega arith in
    let first : c.range.result.now ≡ take c.in-Some.place text =
    c.range.ensures.value ∙ ap (λ (n : ℕ). take n text) whole in
    rw (first, c.range_from.ensures.value) (found_parts c.args.at text c.in-Some.place (sym c.in-Some.ensures))

pub returns-in-None : goal.returns-in-None
returns-in-None c = (refl, lacking_parts c.args.at c.args.text.now (sym c.in-None.ensures))
