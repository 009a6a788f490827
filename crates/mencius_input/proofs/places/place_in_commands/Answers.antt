use Rattle.std.proofs.Common.{◌∙◌, ap, rules, sym}
use Rattle.serde_json.specs.View.{items_view, view}
use Rattle.serde_json.proofs.Views.{items_len-items_view}
use Rattle.mencius_input.specs.declared.field.Field.TheVariants.{Servers}
use Rattle.mencius_input.specs.FieldsOf.{field_number}
use Rattle.mencius_input.specs.Places.{count_place, first_of, list_place}
use Rattle.mencius_input.proofs.mistakes.FaultPlaces.{place_behind}
use Rattle.mencius_input.proofs.places.place_in_commands.Goals as goal

pub returns : goal.returns
returns c =
    let lists = items_view c.args.lists.now in
    c.lists_amiss.ensures
    ∙ ap (λ count. count_place c.args.fault count (field_number Servers (view c.args.scenario.now)))
    (sym (items_len-items_view c.args.lists.now))
    ∙ sym (place_behind c.in_ok-place.place _ _ (search rules)
    (c.in_ok-place.ensures ∙ ap (λ version. first_of (list_place c.args.fault version) 0 lists) c.version_in.ensures))
