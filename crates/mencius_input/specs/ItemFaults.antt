-- The result for the items of a list, built one item at a time. Only private clauses use these definitions.
use Rattle.std.specs.Prelude.{Bool, true, false, List, [], ◌∷◌, ◌++◌, Option, Some, None, Result, Ok, Err}
use Rattle.serde_json.specs.Data.{Data}
use Rattle.mencius_base.specs.declared.event.Event.{Event}
use Rattle.mencius_io.specs.declared.fault.IoFault.{IoFault}
use Rattle.mencius_io.specs.declared.fault.IoFault.TheVariants.{BadLimit}
use Rattle.mencius_format.specs.Grammar.{event_of, newest_version}
use Rattle.mencius_format.specs.ValuesOrFaults.{both_or_fault, map_ok}
use Rattle.mencius_input.specs.Scenario.{all_in, said_by}

-- the items that were kept, or the fault that was recorded
abbrev pub items_or_fault : {X : Type 0} → List X → Option IoFault → Result (List X) IoFault
items_or_fault kept None = Ok kept
items_or_fault kept (Some fault) = Err fault

-- the fault to record after another fault was found. The first fault counts, except that any later fault replaces
-- `BadLimit`
abbrev pub graver_fault : Option IoFault → IoFault → IoFault
graver_fault None found = found
graver_fault (Some BadLimit) found = found
graver_fault (Some fault) found = fault

-- the result for some items with another item at their end
abbrev pub with_one : {X : Type 0} → Result (List X) IoFault → Result X IoFault → Result (List X) IoFault
with_one all one = map_ok (λ pair. pair.0 ++ pair.1 ∷ []) (both_or_fault all one)

-- an item, except that an item without a fault becomes `BadLimit` if it has no room
abbrev pub where_room : {X : Type 0} → Bool → Result X IoFault → Result X IoFault
where_room true item = item
where_room false (Ok x) = Err BadLimit
where_room false (Err fault) = Err fault

-- the events of a value in the newest version
abbrev pub list_in : Data → Option (List Event)
list_in d = all_in (said_by (event_of newest_version)) d
