use Rattle.std.proofs.Common.{Some, None, ◌∙◌, ap, arith, cond, sym}
use Rattle.serde_json.specs.Find.{as_str}
use Rattle.serde_json.specs.View.{view}
use Rattle.mencius_input.specs.Places.{fault_at}
use Rattle.mencius_input.proofs.mistakes.FaultPlaces.{first_found, first_none, first_passed}
use Rattle.mencius_input.proofs.faulty_items.first_item.Goals as goal

pub returns-then-branch : goal.returns-then-branch
returns-then-branch c =
    let item = c.index-items-index.result in
    let n = c.loop-index.index in
    sym (c.loop-index.invariant
    ∙ first_found (fault_at c.args.kind c.args.fault c.args.version) c.args.items.now n item _
    c.index-items-index.is (omega arith)
    (ap (λ bit. cond bit (Some (n, as_str (view item))) None) (sym c.in_ok-has_fault.ensures ∙ c.if-branch.true)
    ∙ ap (λ text. Some (n, text)) (sym c.in_ok-text.ensures)))

pub loop-index-preserved : goal.loop-index-preserved
loop-index-preserved c =
    let item = c.index-items-index.result in
    let n = c.loop-index.index in
    c.loop-index.invariant
    ∙ first_passed (fault_at c.args.kind c.args.fault c.args.version) c.args.items.now n item
    c.index-items-index.is (omega arith)
    (ap (λ bit. cond bit (Some (n, as_str (view item))) None) (sym c.in_ok-has_fault.ensures ∙ c.if-branch.false))

pub returns : goal.returns
returns c =
    sym (c.loop-index.invariant
    ∙ first_none (fault_at c.args.kind c.args.fault c.args.version) c.args.items.now c.loop-index.index (omega arith))
