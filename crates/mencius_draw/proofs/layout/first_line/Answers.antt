use Rattle.std.proofs.Common.{◌==◌, ◌∙◌, [], ℕ, refl, rules, tests}
use Rattle.std.proofs.lemmas.Iterator.Consumers.{YieldsList-turn}
use Rattle.std.proofs.lemmas.Iterator.Splits.{YieldsList-from_slice_split}
use Rattle.mencius_draw.specs.Layout.{lines_of}
use Rattle.mencius_draw.proofs.ShapeLists.{first_of}
use Rattle.mencius_draw.proofs.layout.first_line.Goals as goal

pub returns-in-Some : goal.returns-in-Some
returns-in-Some c =
    let turn = YieldsList-turn (YieldsList-from_slice_split _ (λ (b : ℕ). b == 10) c.args.trace.now
    (c.split.ensures.rest ∙ c.as_bytes.ensures.value) c.split.ensures.done c.split.ensures.closure
    (λ x r q k. search (rules, tests)))
    [] _ refl _ c.next.new.self c.in-Some.line c.in-Some.is c.next.ensures.steps in
    turn.1 ∙ first_of (lines_of c.args.trace.now) _ turn.0
