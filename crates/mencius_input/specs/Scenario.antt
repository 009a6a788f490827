-- The scenario in some bytes, or their fault.
use Rattle.std.specs.Prelude.{ℕ, ◌&&◌, List, [], ◌∷◌, Bool, true, Option, Some, None, option_and_then, Result, Err, if◌then◌else◌}
use Rattle.std.specs.List.{list_all, list_any}
use Rattle.std.specs.Option.{option_map_or}
use Rattle.std.specs.Str.{bytes_eq, is_utf8}
use Rattle.serde_json.specs.Data.{Data, Items, Members, no_items, item, no_members, member}
use Rattle.serde_json.specs.Find.{as_object, as_array, as_str, get}
use Rattle.serde_json.specs.Read.{read}
use Rattle.mencius_base.specs.Members.{Membership}
use Rattle.mencius_base.specs.declared.event.Event.{Event}
use Rattle.mencius_io.specs.declared.fault.IoFault.{IoFault}
use Rattle.mencius_io.specs.declared.fault.IoFault.TheVariants.{NotJson}
use Rattle.mencius_input.specs.declared.scenario.Scenario.{Scenario}
use Rattle.mencius_format.specs.ValuesOrFaults.{value_or_fault}
use Rattle.mencius_format.specs.Words.{words}
use Rattle.mencius_format.specs.Grammar.{event_of, is_event_within}
use Rattle.mencius_input.specs.FieldsOf.{beta_field, events_name, is_number_within, servers_field, version_field, whole_number}

infixl 10 ◌>>=◌
-- what `do` stands for. It is f x if o is Some x, and otherwise None
abbrev pub ◌>>=◌ : {X Y : Type 0} → Option X → (X → Option Y) → Option Y
o >>= f = option_and_then f o

-- ---- the shape

-- the results of reading some items in order, if each of them can be read
unfoldable pub all_of : {X : Type 0} → (Data → Option X) → Items → Option (List X)
all_of read no_items = Some []
all_of read (item d ds) = do
  x ← read d
  xs ← all_of read ds
  Some (x ∷ xs)

-- the results of reading the items of a list in order
abbrev pub all_in : {X : Type 0} → (Data → Option X) → Data → Option (List X)
all_in read d = option_and_then (all_of read) (as_array d)

-- the result of reading the words of a text
abbrev pub said_by : {X : Type 0} → (List (List ℕ) → Option X) → Data → Option X
said_by read d = option_and_then (λ text. read (words text)) (as_str d)

-- whether each field of an object has one of these names
unfoldable pub has_only : List (List ℕ) → Members → Bool
has_only names no_members = true
has_only names (member name d ms) = list_any (bytes_eq name) names && has_only names ms

-- the scenario in an object. The object has only the fields for the version, the servers and beta, and fields with the
-- names `others`. The other fields say what happens in the scenario, which is its course. For `replay`, the course is
-- the list of events. `course_of` reads the course by the rules of the scenario's version
unfoldable pub scenario_of : {X : Type 0} → List (List ℕ) → (ℕ → Data → Option X) → Data → Option (Scenario X)
scenario_of others course_of d = do
  fields ← as_object d
  version ← whole_number version_field d
  servers ← whole_number servers_field d
  beta ← whole_number beta_field d
  course ← course_of version d
  if has_only (version_field.name ∷ servers_field.name ∷ beta_field.name ∷ others) fields
      then Some (record { version = version; members = record { count = servers; beta = beta }; course = course }) else None

-- the events of a schedule in order, each read from a text by the rules of a version
unfoldable pub schedule_of : ℕ → Data → Option (List Event)
schedule_of version d = do
  items ← option_and_then as_array (get events_name d)
  all_of (said_by (event_of version)) items

-- the scenario of `replay` in a value
abbrev pub written_of : Data → Option (Scenario (List Event))
written_of d = scenario_of (events_name ∷ []) schedule_of d

-- ---- the limits

-- whether the numbers of a scenario are within their limits, and the course fits its members
abbrev pub is_scenario_within : {X : Type 0} → (Membership → X → Bool) → Scenario X → Bool
is_scenario_within fits x =
    ((is_number_within version_field x.version && is_number_within servers_field x.members.count)
    && is_number_within beta_field x.members.beta)
    && fits x.members x.course

-- whether a scenario of `replay` is within the limits
abbrev pub is_within_limits : Scenario (List Event) → Bool
is_within_limits x = is_scenario_within (λ members. list_all is_event_within) x

-- the event in an item of the events, or its fault in a version
abbrev pub item_said : ℕ → Data → Result Event IoFault
item_said version d = value_or_fault is_event_within (said_by (event_of version) d)

-- ---- the bytes

-- the value of bytes that are JSON, in UTF-8
unfoldable pub json_of : List ℕ → Option Data
json_of bytes = if is_utf8 bytes then read bytes else None

-- the scenario in some bytes, or their fault. Its object may also have fields with the names `others`. `course_of`
-- reads its course, and `fits` gives the limits of the course
abbrev pub scenario_in : {X : Type 0} → List (List ℕ) → (ℕ → Data → Option X) → (Membership → X → Bool) → List ℕ
    → Result (Scenario X) IoFault
scenario_in others course_of fits bytes =
    option_map_or (λ d. value_or_fault (is_scenario_within fits) (scenario_of others course_of d)) (json_of bytes)
    (Err NotJson)

-- the scenario of `replay` in some bytes, or their fault
abbrev pub scenario : List ℕ → Result (Scenario (List Event)) IoFault
scenario bytes = scenario_in (events_name ∷ []) schedule_of (λ members. list_all is_event_within) bytes
