-- The place of a fault in the value of a scenario, which is the first place in the order of its text.
use Rattle.std.specs.Prelude.{ℕ, ◌+◌, ◌==◌, ◌&&◌, List, [], ◌∷◌, Bool, true, false, not, Option, Some, None, find, is_some, option_and_then, option_map, string_bytes, unwrap_or, if◌then◌else◌}
use Rattle.std.specs.Float.{two_to}
use Rattle.std.specs.Float.Ieee.{le}
use Rattle.std.specs.Option.{option_or}
use Rattle.std.specs.Result.{result_err}
use Rattle.std.specs.Str.{bytes_eq}
use Rattle.json.specs.Token.{Token}
use Rattle.json.specs.Lex.{tokens}
use Rattle.json.specs.Json as json
use Rattle.serde_json.specs.Data.{Data, Items, Num, no_items, item}
use Rattle.serde_json.specs.Events.{items_len}
use Rattle.serde_json.specs.Find.{as_array, as_number, as_object, as_str, as_u64, get, to_float}
use Rattle.serde_json.specs.Read.{max_depth}
use Rattle.mencius_io.specs.declared.fault.IoFault.{IoFault}
use Rattle.mencius_io.specs.declared.fault.IoFault.TheVariants.{BadLimit, BadShape}
use Rattle.mencius_format.specs.Grammar.{newest_version}
use Rattle.mencius_input.specs.declared.field.Field.{Field}
use Rattle.mencius_input.specs.declared.field.Field.TheVariants.{Version, Servers}
use Rattle.mencius_input.specs.declared.kind.Kind.{Kind}
use Rattle.mencius_input.specs.declared.kind.Kind.TheVariants.{Replay, Run}
use Rattle.mencius_input.specs.declared.places.Place.{Place}
use Rattle.mencius_input.specs.declared.places.Place.TheVariants as place
use Rattle.mencius_input.specs.FieldsOf.{default_of, field_name, field_number, is_field_within, fields, list_field, whole_fields, whole_in}
use Rattle.mencius_input.specs.Newest.{command_item_version, event_item_version}
use Rattle.mencius_input.specs.Plan.{command_said}
use Rattle.mencius_input.specs.Scenario.{item_said, json_of}

-- ---- a place

-- a place, as definitions see it. Each text is a list of bytes
pub data PlaceState : Type 0 where
  no_object : PlaceState
  unknown_field : List ℕ → PlaceState
  missing_field : Field → PlaceState
  bad_number : Field → PlaceState
  great_number : Field → PlaceState
  no_list : Field → PlaceState
  event_item : ℕ → ℕ → Option (List ℕ) → PlaceState
  no_sublist : ℕ → PlaceState
  command_item : ℕ → ℕ → ℕ → Option (List ℕ) → PlaceState
  list_count : ℕ → ℕ → PlaceState

-- the record of a place of the code
abbrev pub place_state : Place → PlaceState
place_state place.NoObject = no_object
place_state (place.Unknown name) = unknown_field (string_bytes name)
place_state (place.Missing field) = missing_field field
place_state (place.Number field) = bad_number field
place_state (place.GreatNumber field) = great_number field
place_state (place.NoList field) = no_list field
place_state (place.Event index version text) = event_item index version (option_map string_bytes text)
place_state (place.NoSublist at) = no_sublist at
place_state (place.Command at index version text) = command_item at index version (option_map string_bytes text)
place_state (place.Lists count servers) = list_count count servers

-- ---- the requested fault

-- whether a fault is `BadShape`
abbrev pub is_shape : IoFault → Bool
is_shape BadShape = true
is_shape fault = false

-- whether a fault is `BadLimit`
abbrev pub is_limit : IoFault → Bool
is_limit BadLimit = true
is_limit fault = false

-- whether the fault that was found is the requested fault, which is `BadShape` or `BadLimit`
abbrev pub is_fault : IoFault → Option IoFault → Bool
is_fault fault None = false
is_fault fault (Some BadShape) = is_shape fault
is_fault fault (Some BadLimit) = is_limit fault
is_fault fault (Some found) = false

-- ---- items, which are events of a schedule or commands of a run

-- the version that items are judged by. It is the version of the scenario, or the newest version if the scenario has no
-- whole number as its version
abbrev pub version_in : Data → ℕ
version_in d = unwrap_or (field_number Version d) newest_version

-- the fault of an item in a version, if it has one
abbrev pub item_fault : Kind → ℕ → Data → Option IoFault
item_fault Replay version d = result_err (item_said version d)
item_fault Run version d = result_err (command_said version d)

-- the lowest version that an item needs
abbrev pub item_version : Kind → Data → ℕ
item_version Replay d = event_item_version d
item_version Run d = command_item_version d

-- the first result that `ask` gives for some items. It gets each item with its index, and the first index is `n`
unfoldable pub first_of : {X : Type 0} → (ℕ → Data → Option X) → ℕ → Items → Option X
first_of ask n no_items = None
first_of ask n (item d ds) = option_or (ask n d) (first_of ask (n + 1) ds)

-- the index and the text of an item, if the item has the fault
abbrev pub fault_at : Kind → IoFault → ℕ → ℕ → Data → Option (ℕ × Option (List ℕ))
fault_at kind fault version n d =
    if is_fault fault (item_fault kind version d) then Some (n, as_str d) else None

-- the index and the text of the first item that has the fault
abbrev pub first_item : Kind → IoFault → ℕ → Items → Option (ℕ × Option (List ℕ))
first_item kind fault version items = first_of (fault_at kind fault version) 0 items

-- ---- the field that is a list

-- the place of the fault in the events of a schedule
abbrev pub events_place : IoFault → ℕ → Items → Option PlaceState
events_place fault version items = option_map (λ x. event_item x.0 version x.1) (first_item Replay fault version items)

-- the place of the fault in one list of the commands of a run. A value that is not a list is the place of a `BadShape`
abbrev pub commands_place : IoFault → ℕ → ℕ → Option Items → Option PlaceState
commands_place fault version at None = if is_shape fault then Some (no_sublist at) else None
commands_place fault version at (Some items) = option_map (λ x. command_item at x.0 version x.1) (first_item Run fault version items)

-- the place of the fault in a value that should be one list of the commands of a run
abbrev pub list_place : IoFault → ℕ → ℕ → Data → Option PlaceState
list_place fault version at d = commands_place fault version at (as_array d)

-- the commands as the place of a `BadLimit`, if the number of servers is within its limits and is not the number of
-- lists
abbrev pub count_place : IoFault → ℕ → Option ℕ → Option PlaceState
count_place fault count None = None
count_place fault count (Some servers) =
    if is_limit fault && is_field_within Servers servers && not (count == servers) then Some (list_count count servers) else None

-- the place of the fault in the items of the list of a scenario
abbrev pub items_place : Kind → IoFault → Data → Items → Option PlaceState
items_place Replay fault d items = events_place fault (version_in d) items
items_place Run fault d items =
    option_or (first_of (list_place fault (version_in d)) 0 items)
    (count_place fault (items_len items) (field_number Servers d))

-- the place of the fault in the list of a scenario. A value that is not a list is the place of a `BadShape`
abbrev pub course_place : Kind → IoFault → Data → Option Items → Option PlaceState
course_place kind fault d None = if is_shape fault then Some (no_list (list_field kind)) else None
course_place kind fault d (Some items) = items_place kind fault d items

-- the place of the fault in the field of a scenario that should be a list
abbrev pub list_field_place : Kind → IoFault → Data → Option PlaceState
list_field_place kind fault d = option_and_then (λ value. course_place kind fault d (as_array value)) (get (field_name (list_field kind)) d)

-- ---- the fields that are whole numbers

-- whether a number is not a `u64`, and is at least 2 to the 64th as a float
abbrev pub is_great_number : Option Num → Bool
is_great_number None = false
is_great_number (Some n) = not (is_some (as_u64 n)) && le (two_to 64) (to_float n)

-- the place of a field that is not a whole number
abbrev pub not_whole : Field → Data → PlaceState
not_whole field value = if is_great_number (as_number value) then great_number field else bad_number field

-- the place of the fault in a field, from its value, and from this value as a whole number
abbrev pub whole_place : IoFault → Field → Data → Option ℕ → Option PlaceState
whole_place fault field value None = if is_shape fault then Some (not_whole field value) else None
whole_place fault field value (Some n) = if is_limit fault && not (is_field_within field n) then Some (bad_number field) else None

-- the place of the fault in a field that should be a whole number
abbrev pub number_place : IoFault → Field → Data → Option PlaceState
number_place fault field d = option_and_then (λ value. whole_place fault field value (whole_in value)) (get (field_name field) d)

-- ---- all fields

-- the field of a kind that is a whole number and has this name
abbrev pub field_named : Kind → List ℕ → Option Field
field_named kind name = find (λ field. bytes_eq name (field_name field)) (whole_fields kind)

-- the place of the fault in a field that the scenario has, from its name and the number field with this name
abbrev pub named_place : Kind → IoFault → Data → List ℕ → Option Field → Option PlaceState
named_place kind fault d name (Some field) = number_place fault field d
named_place kind fault d name None =
    if bytes_eq name (field_name (list_field kind)) then list_field_place kind fault d
    else if is_shape fault then Some (unknown_field name) else None

-- the place of the fault in the field with this name
abbrev pub field_place : Kind → IoFault → Data → List ℕ → Option PlaceState
field_place kind fault d name = named_place kind fault d name (field_named kind name)

-- the first place of the fault in the fields with these names
unfoldable pub first_in : Kind → IoFault → Data → List (List ℕ) → Option PlaceState
first_in kind fault d [] = None
first_in kind fault d (name ∷ names) = option_or (field_place kind fault d name) (first_in kind fault d names)

-- the names of an object's fields, in the order of its text
abbrev pub names_of : json.Members → List (List ℕ)
names_of json.no_members = []
names_of (json.member name value ms) = name ∷ names_of ms

-- the names of an object's fields, or no names if the value is not an object
abbrev pub names_read : Option (json.Json × List Token) → List (List ℕ)
names_read (Some (json.object ms, rest)) = names_of ms
names_read _ = []

-- the names of the fields of the object in a text, in the order of the text
unfoldable pub names_in : List ℕ → List (List ℕ)
names_in text = names_read (json.value max_depth (tokens text))

-- whether a field must be present, but is missing
abbrev pub is_lacking : Data → Field → Bool
is_lacking d field = not (is_some (default_of field)) && not (is_some (get (field_name field) d))

-- the first missing field, as the place of a `BadShape`
abbrev pub lack_place : Kind → IoFault → Data → Option PlaceState
lack_place kind fault d = if is_shape fault then option_map missing_field (find (is_lacking d) (fields kind)) else None

-- ---- the text

-- the first place of the fault in a value, whose fields have these names in the order of its text. A missing field
-- comes last
abbrev pub place_in : Kind → IoFault → List (List ℕ) → Data → Option PlaceState
place_in kind fault names d =
    if is_some (as_object d) then option_or (first_in kind fault d names) (lack_place kind fault d)
    else if is_shape fault then Some no_object else None

-- the first place of the fault in bytes that are JSON
abbrev pub first_place : Kind → IoFault → List ℕ → Option PlaceState
first_place kind fault bytes = option_and_then (place_in kind fault (names_in bytes)) (json_of bytes)
