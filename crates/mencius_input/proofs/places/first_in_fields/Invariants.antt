use Rattle.std.proofs.Common.{◌≡◌, List, ℕ, length, option_map}
use Rattle.serde_json.specs.View.{view}
use Rattle.mencius_input.specs.Places.{first_in, list_field_place, names_in, place_state}
use Rattle.mencius_input.proofs.objects.NameOrder.{AreAhead}
use Rattle.mencius_input.proofs.places.first_in_fields.Given as goal

abbrev pub invariant-fields : goal.invariant-fields
invariant-fields l =
    (option_map place_state l.in_list ≡ list_field_place l.kind l.fault (view l.scenario))
    × (names : List (List ℕ)) × AreAhead names l.reader
    × (first_in l.kind l.fault (view l.scenario) (names_in l.text) ≡ first_in l.kind l.fault (view l.scenario) names)

abbrev pub decreases-fields : goal.decreases-fields
decreases-fields l = length l.reader
