-- The fields of a scenario's object that were read so far. Only private clauses use these definitions.
use Rattle.std.specs.Prelude.{◌≡◌, ◌⊎◌, ℕ, ◌==◌, ◌&&◌, List, [], ◌∷◌, length, map, not, Bool, true, false, Option, Some, None, option_map, Result, Ok, Err, nat_le, if◌then◌else◌}
use Rattle.std.specs.List.{list_all}
use Rattle.std.proofs.Common.{Global, Vec}
use Rattle.serde_json.specs.Data.{Data, Members, object}
use Rattle.serde_json.specs.Find.{as_object, get_member}
use Rattle.mencius_base.specs.Limits.{most_servers}
use Rattle.mencius_base.specs.declared.command.Command.{Command}
use Rattle.mencius_base.specs.declared.event.Event.{Event}
use Rattle.mencius_base.specs.Plan.{PlanState, plan_of}
use Rattle.mencius_base.specs.CommandState.{CommandState}
use Rattle.mencius_io.specs.declared.fault.IoFault.{IoFault}
use Rattle.mencius_io.specs.declared.fault.IoFault.TheVariants.{BadLimit, BadShape, NoMemory, NotJson}
use Rattle.mencius_format.specs.Grammar.{is_command_within, is_event_within, newest_version}
use Rattle.mencius_format.specs.ValuesOrFaults.{map_ok, value_or_fault}
use Rattle.mencius_input.specs.declared.field.Field.{Field}
use Rattle.mencius_input.specs.declared.field.Field.TheVariants.{Version, Servers, Beta}
use Rattle.mencius_input.specs.declared.fields.FieldValues as code
use Rattle.mencius_input.specs.declared.fields.KeptList as code_list
use Rattle.mencius_input.specs.declared.fields.KeptList.TheVariants as kept
use Rattle.mencius_input.specs.declared.kind.Kind.{Kind}
use Rattle.mencius_input.specs.declared.kind.Kind.TheVariants.{Replay, Run}
use Rattle.mencius_input.specs.declared.newest.Newest.{Newest}
use Rattle.mencius_input.specs.declared.scenario.Scenario.{Scenario}
use Rattle.mencius_input.specs.declared.scenario.Shared.{Shared}
use Rattle.mencius_input.specs.FieldsOf.{events_name, field_name, field_number, is_field_within, list_field, names, whole_fields}
use Rattle.mencius_input.specs.Newest.{command_item_version, event_item_version, in_version, list_version}
use Rattle.mencius_input.specs.ItemFaults.{list_in}
use Rattle.mencius_input.specs.Plan.{commands_read, are_numbers_within, run_names}
use Rattle.mencius_input.specs.Scenario.{◌>>=◌, all_in, has_only}

-- ---- the lists

-- the events of a value in the newest version, or their fault, and the lowest version that allows all of them
abbrev pub events_said : Data → Newest (List Event)
events_said d = record {
  said = value_or_fault (list_all is_event_within) (list_in d);
  version = list_version event_item_version d;
}

-- the lists of commands of a value, in the newest version
abbrev pub lists_of : Data → Option (List (List CommandState))
lists_of d = all_in (commands_read newest_version) d

-- whether no command is past a limit, and the number of lists is at most the greatest number of servers
abbrev pub are_lists_within : List (List CommandState) → Bool
are_lists_within lists = list_all (list_all is_command_within) lists && nat_le (length lists) most_servers

-- the lists of commands of a value in the newest version, or their fault, and the lowest version that allows all of
-- them
abbrev pub lists_said : Data → Newest (List (List CommandState))
lists_said d = record {
  said = value_or_fault are_lists_within (lists_of d);
  version = list_version (list_version command_item_version) d;
}

-- the lists of commands that the code keeps, or their fault, and the lowest version that allows all of them
abbrev pub lists_kept : Newest (Vec (Vec Command Global) Global) → Newest (List (List CommandState))
lists_kept x = record { said = map_ok (λ lists. map (λ list. list.items) lists.items) x.said; version = x.version }

-- the content of the list of a scenario of either kind
pub data SaidList : Type 0 where
  of_events : Newest (List Event) → SaidList
  of_lists : Newest (List (List CommandState)) → SaidList

-- the content of a value that is read as the list of a scenario of the kind
abbrev pub list_said : Kind → Data → SaidList
list_said Replay d = of_events (events_said d)
list_said Run d = of_lists (lists_said d)

-- the content of the list that the code keeps
abbrev pub list_kept : code_list.KeptList → SaidList
list_kept (kept.Events x) = of_events x
list_kept (kept.Commands x) = of_lists (lists_kept x)

-- ---- all fields

-- the names of the fields that only a scenario of the kind has
abbrev pub own_names : Kind → List (List ℕ)
own_names Replay = events_name ∷ []
own_names Run = run_names

-- the whole number in each of some fields, or the field's default if the field is missing
abbrev pub wholes_of : List Field → Data → List (Option ℕ)
wholes_of fields d = map (λ field. field_number field d) fields

-- `known` is the content of the value that was written last for this name, or `None` if the field is missing
abbrev pub Says : {X : Type 0} → (Data → X) → List ℕ → Option X → Members → Type 0
Says says name known ms = known ≡ option_map says (get_member name ms)

-- `f` contains the number of each field and the content of the list. It also says whether the object has a field that
-- no scenario of the kind has
pub record AreFieldValues (kind : Kind) (f : code.FieldValues) (ms : Members) : Type 0 where
  pub wholes : f.wholes.items ≡ wholes_of (whole_fields kind) (object ms)
  pub list : Says (list_said kind) (field_name (list_field kind)) (option_map list_kept f.list) ms
  pub other : f.has_other ≡ not (has_only (names kind) ms)

-- the value is not an object, or it is an object with a field that does not belong to the kind
abbrev pub IsForeign : Kind → Data → Type 0
IsForeign kind d = (ms : Members) → as_object d ≡ Some ms → has_only (names kind) ms ≡ false

-- the fault says why no fields were returned. It is `NoMemory`, or `NotJson` without a value, or `BadShape` for a
-- foreign value (see `IsForeign`)
abbrev pub IsUnread : Kind → Option Data → IoFault → Type 0
IsUnread kind o fault =
    (fault ≡ NoMemory) ⊎ ((fault ≡ NotJson) × (o ≡ None))
    ⊎ ((fault ≡ BadShape) × (d : Data) × (o ≡ Some d) × IsForeign kind d)

-- `f` contains all fields of an object, and the object has only fields of the kind
pub record AreAll (kind : Kind) (f : code.FieldValues) (o : Option Data) : Type 0 where
  pub ms : Members
  pub there : o ≡ Some (object ms)
  pub fields : AreFieldValues kind f ms
  pub only : has_only (names kind) ms ≡ true

-- ---- the fields of both kinds of scenario

-- the numbers of both kinds, if none of them is missing or not whole, and the numbers after them
abbrev pub shared_in : List (Option ℕ) → Option (Shared × List (Option ℕ))
shared_in (version ∷ servers ∷ beta ∷ own) = do
  version ← version
  servers ← servers
  beta ← beta
  Some (record { version = version; servers = servers; beta = beta }, own)
shared_in _ = None

-- the scenario with these numbers and this course
abbrev pub with_course : {X : Type 0} → Shared → X → Scenario X
with_course shared course = record {
  version = shared.version;
  members = record { count = shared.servers; beta = shared.beta };
  course = course;
}

-- whether the numbers of both kinds are within their limits
abbrev pub is_shared_within : Shared → Bool
is_shared_within shared =
    (is_field_within Version shared.version && is_field_within Servers shared.servers) && is_field_within Beta shared.beta

-- the scenario with these numbers and this course. The fault of the course comes first, and then `BadLimit` for the
-- numbers
abbrev pub scenario_or_fault : {X : Type 0} → Shared → Result X IoFault → Result (Scenario X) IoFault
scenario_or_fault shared (Ok course) = if is_shared_within shared then Ok (with_course shared course) else Err BadLimit
scenario_or_fault shared (Err fault) = Err fault

-- the scenario with these numbers, and a course that depends on them. It is `BadShape` if a number of both kinds is
-- missing or not whole
abbrev pub said_of : {X : Type 0} → (Shared → List (Option ℕ) → Result X IoFault)
    → Option (Shared × List (Option ℕ)) → Result (Scenario X) IoFault
said_of course_said None = Err BadShape
said_of course_said (Some (shared, own)) = scenario_or_fault shared (course_said shared own)

-- ---- a scenario of `replay`

-- the events of a schedule in its version, or their fault. It is `BadShape` if the events are missing
abbrev pub schedule_said : Option SaidList → Shared → Result (List Event) IoFault
schedule_said (Some (of_events es)) shared = in_version shared.version es
schedule_said _ shared = Err BadShape

-- ---- a scenario of `run`

-- whether the numbers of a plan are within their limits, and it has one list for each server and at most `most_servers`
-- lists
abbrev pub is_plan_for : ℕ → PlanState → Bool
is_plan_for servers plan =
    (are_numbers_within plan && (length plan.commands == servers)) && nat_le (length plan.commands) most_servers

-- the plan with these lists. The fault of the lists comes first, and then `BadLimit` for the plan
abbrev pub plan_or_fault : ℕ → (List (List CommandState) → PlanState) → Result (List (List CommandState)) IoFault
    → Result PlanState IoFault
plan_or_fault servers of (Ok lists) = if is_plan_for servers (of lists) then Ok (of lists) else Err BadLimit
plan_or_fault servers of (Err fault) = Err fault

-- the plan from the numbers that only a run has and from its lists, or its fault
abbrev pub plan_said : Shared → List (Option ℕ) → Option SaidList → Result PlanState IoFault
plan_said shared (Some workers ∷ Some seed ∷ Some turns ∷ Some loss ∷ []) (Some (of_lists lists)) =
    plan_or_fault shared.servers (plan_of workers seed turns loss) (in_version shared.version lists)
plan_said shared _ _ = Err BadShape
