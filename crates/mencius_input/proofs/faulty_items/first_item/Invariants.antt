use Rattle.std.proofs.Common.{◌≡◌, drop}
use Rattle.serde_json.specs.View.{items_view}
use Rattle.mencius_input.specs.Places.{fault_at, first_item, first_of}
use Rattle.mencius_input.proofs.faulty_items.first_item.Given as goal

abbrev pub invariant-loop-index : goal.invariant-loop-index
invariant-loop-index l =
    first_item l.kind l.fault l.version (items_view l.items)
    ≡ first_of (fault_at l.kind l.fault l.version) l.index (items_view (drop l.index l.items))
