use Rattle.std.proofs.Common.{◌≡◌, drop}
use Rattle.serde_json.specs.View.{items_view}
use Rattle.mencius_input.specs.Places.{first_of, list_place}
use Rattle.mencius_input.proofs.places.first_in_lists.Given as goal

abbrev pub invariant-loop-list : goal.invariant-loop-list
invariant-loop-list l =
    first_of (list_place l.fault l.version) 0 (items_view l.lists)
    ≡ first_of (list_place l.fault l.version) l.list (items_view (drop l.list l.lists))
