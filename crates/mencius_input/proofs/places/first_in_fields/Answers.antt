use Rattle.std.proofs.Common.{◌≡◌, ◌∙◌, Ok, Some, ap, arith, option_map, refl, rules, sym}
use Rattle.json.specs.Json.{read_key}
use Rattle.serde_json.specs.Data.{Data}
use Rattle.serde_json.specs.View.{view}
use Rattle.mencius_json.specs.Next.{next_value}
use Rattle.mencius_input.specs.Places.{names_in, place_state}
use Rattle.mencius_input.proofs.mistakes.FaultPlaces.{no_place, place_behind, place_first}
use Rattle.mencius_input.proofs.objects.NameOrder.{first_named, first_over, names_further, names_over, names_read_on, names_start}
use Rattle.mencius_input.proofs.places.first_in_fields.Goals as goal
use Rattle.mencius_input.proofs.places.first_in_fields.Goals.{in-Ok+in-None-1, in-Err-1}

pub fields-init : goal.fields-init
fields-init c = (
  c.in_ok-in_list.ensures,
  names_in c.args.text.now,
  names_start c.args.text.now (view c.args.scenario.now) c.in_ok-reader.reader c.next-brace.new.self
      c.next-brace.result (search rules) c.next-brace.ensures.value c.requires.of c.requires.object,
  refl,
)

pub returns-then-is_some : goal.returns-then-is_some
returns-then-is_some c =
    let l = c.fields in
    let name = c.in-Ok-Some.name.now in
    let s = c.next_key.new.self in
    let named : read_key l.reader ≡ Some (Some name, s) = grind arith in
    let more = names_further l.invariant.1 l.reader l.invariant.2 name s named in
    place_first c.in_ok-place.place _ _ (search rules) c.in_ok-place.ensures.place
    ∙ sym (l.invariant.3
    ∙ first_named c.args.kind c.args.fault (view c.args.scenario.now) l.invariant.1 name more.others more.same)

pub returns-then-is_err : goal.returns-then-is_err
returns-then-is_err c =
    let l = c.fields in
    let name = c.in-Ok-Some.name.now in
    let s = c.next_key.new.self in
    let named : read_key l.reader ≡ Some (Some name, s) = grind arith in
    let more = names_further l.invariant.1 l.reader l.invariant.2 name s named in
    absurd (more.there (search rules))

pub fields-preserved : goal.fields-preserved
fields-preserved c =
    let l = c.fields in
    let name = c.in-Ok-Some.name.now in
    let s = c.next_key.new.self in
    let named : read_key l.reader ≡ Some (Some name, s) = grind arith in
    let more = names_further l.invariant.1 l.reader l.invariant.2 name s named in
    let passed : (d : Data) × (next_value 126 s ≡ Some (d, c.pass.new.reader)) = search rules in (
      ap (option_map place_state) (c.in_ok-place.ensures.kept (ap Ok (no_place c.in_ok-place.place (search rules))))
          ∙ l.invariant.0,
      more.others,
      more.ahead passed.0 c.pass.new.reader passed.1,
      l.invariant.3
          ∙ first_named c.args.kind c.args.fault (view c.args.scenario.now) l.invariant.1 name more.others more.same
          ∙ place_behind c.in_ok-place.place _ _ (search rules) c.in_ok-place.ensures.place,
    )

pub returns : goal.returns
returns c =
    let l = c.fields in
    elim c.match-next_key.branch [
      | in-Ok+in-None-1 w ↦
          sym (l.invariant.3
          ∙ first_over c.args.kind c.args.fault (view c.args.scenario.now) l.invariant.1
          (names_over l.invariant.1 l.reader l.invariant.2 c.next_key.new.self (grind arith)))
      | in-Err-1 w ↦ absurd (names_read_on l.invariant.1 l.reader l.invariant.2 (grind arith))
    ]
