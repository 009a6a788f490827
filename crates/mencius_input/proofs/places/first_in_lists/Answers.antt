use Rattle.std.proofs.Common.{◌∙◌, arith, rules, sym}
use Rattle.mencius_input.specs.Places.{list_place}
use Rattle.mencius_input.proofs.mistakes.FaultPlaces.{first_none, first_step, place_behind, place_first}
use Rattle.mencius_input.proofs.places.first_in_lists.Goals as goal

pub returns-then-is_some : goal.returns-then-is_some
returns-then-is_some c =
    let value = c.index-lists-list.result in
    place_first c.in_ok-place.place _ _ (search rules) c.in_ok-place.ensures
    ∙ sym (c.loop-list.invariant
    ∙ first_step (list_place c.args.fault c.args.version) c.args.lists.now c.loop-list.list value
    c.index-lists-list.is (omega arith))

pub loop-list-preserved : goal.loop-list-preserved
loop-list-preserved c =
    let value = c.index-lists-list.result in
    c.loop-list.invariant
    ∙ first_step (list_place c.args.fault c.args.version) c.args.lists.now c.loop-list.list value
    c.index-lists-list.is (omega arith)
    ∙ place_behind c.in_ok-place.place _ _ (search rules) c.in_ok-place.ensures

pub returns : goal.returns
returns c =
    sym (c.loop-list.invariant
    ∙ first_none (list_place c.args.fault c.args.version) c.args.lists.now c.loop-list.list (omega arith))
