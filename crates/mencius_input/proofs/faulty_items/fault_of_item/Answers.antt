use Rattle.std.proofs.Common.{IfOk, Some, ap, cond, subst, sym, ◌≡◌, ◌∙◌}
use Rattle.serde_json.specs.View.{view}
use Rattle.mencius_io.specs.declared.fault.IoFault.TheVariants.{BadShape}
use Rattle.mencius_format.specs.Grammar.{newest_version}
use Rattle.mencius_input.specs.Places.{item_fault}
use Rattle.mencius_input.proofs.mistakes.FaultPlaces.{item_fault_in}
use Rattle.mencius_input.proofs.faulty_items.fault_of_item.Goals as goal

pub returns-then-is_too_new : goal.returns-then-is_too_new
returns-then-is_too_new c =
    let d = view c.args.item.now in
    sym (ap (λ bit. cond bit (Some BadShape) (item_fault c.args.kind newest_version d))
    (sym c.is_too_new.ensures ∙ c.if-is_too_new.true))
    ∙ item_fault_in c.args.kind c.args.version d

pub returns : goal.returns
returns c =
    let d = view c.args.item.now in
    let same : item_fault c.args.kind newest_version d ≡ item_fault c.args.kind c.args.version d =
    sym (ap (λ bit. cond bit (Some BadShape) (item_fault c.args.kind newest_version d))
    (sym c.is_too_new.ensures ∙ c.if-is_too_new.false))
    ∙ item_fault_in c.args.kind c.args.version d in
    subst (λ fault. IfOk c.newest_fault_of_item.result (λ o. o ≡ fault)) same c.newest_fault_of_item.ensures
