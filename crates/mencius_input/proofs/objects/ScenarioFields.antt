-- The code builds the scenario of `replay` that the definitions give for the fields.
use Rattle.std.proofs.Common.{◌≡◌, ℕ, [], true, codes, Option, Some, None, option_map, option_and_then, refl, ap, ◌∙◌}
use Rattle.std.specs.List.{list_all}
use Rattle.serde_json.specs.Data.{Data, Members, object}
use Rattle.serde_json.specs.Find.{as_array, get, get_member}
use Rattle.mencius_format.specs.Grammar.{event_of, is_event_within}
use Rattle.mencius_format.specs.ValuesOrFaults.{value_or_fault}
use Rattle.mencius_input.specs.declared.fields.FieldValues as code
use Rattle.mencius_input.specs.declared.kind.Kind.TheVariants.{Replay}
use Rattle.mencius_input.specs.declared.scenario.Shared.{Shared}
use Rattle.mencius_input.specs.FieldValues.{AreFieldValues, list_kept, list_said, said_of, scenario_or_fault, schedule_said, shared_in}
use Rattle.mencius_input.specs.FieldsOf.{names}
use Rattle.mencius_input.specs.Scenario.{all_of, has_only, is_within_limits, said_by, schedule_of, written_of}
use Rattle.mencius_input.proofs.lists.VersionItems.{events_said_in}
use Rattle.mencius_input.proofs.objects.SharedFields.{no_course, scenario_or_fault_is, shared_say}

-- the events in an object are read from its field `events`
pub schedule_bound : (version : ℕ) (ms : Members) → schedule_of version (object ms)
    ≡ option_and_then (all_of (said_by (event_of version))) (option_and_then as_array (get_member (codes "events") ms))
unfolding schedule_of
schedule_bound version ms = refl

schedule_or_fault_is : (shared : Shared) (o : Option Data) → schedule_said (option_map (list_said Replay) o) shared
    ≡ value_or_fault (list_all is_event_within) (option_and_then (all_of (said_by (event_of shared.version))) (option_and_then as_array o))
schedule_or_fault_is shared None = refl
schedule_or_fault_is shared (Some d) = events_said_in shared.version (list_all is_event_within) d

-- the scenario that the code builds from the fields is the scenario in the object, or its fault
pub fields_say : (f : code.FieldValues) (ms : Members) → AreFieldValues Replay f ms → has_only (names Replay) ms ≡ true
    → said_of (λ shared own. schedule_said (option_map list_kept f.list) shared) (shared_in f.wholes.items)
    ≡ value_or_fault is_within_limits (written_of (object ms))
fields_say f ms h only =
    let value = get_member (codes "events") ms in
    ap (λ list. said_of (λ shared own. schedule_said list shared) (shared_in f.wholes.items)) h.list
    ∙ shared_say Replay (λ shared own. schedule_said (option_map (list_said Replay) value) shared) (λ members. list_all is_event_within)
    schedule_of f.wholes.items [] ms h.wholes only
    (λ shared. ap (scenario_or_fault shared) (schedule_or_fault_is shared value)
    ∙ scenario_or_fault_is shared (list_all is_event_within) (λ members. list_all is_event_within) (λ events. refl)
    (option_and_then (all_of (said_by (event_of shared.version))) (option_and_then as_array value))
    ∙ rw (schedule_bound shared.version ms) refl)

none_before : {X Y Z : Type 0} (o : Option X) (g : X → Option Y) (f : Y → Option Z) → o ≡ None
    → option_and_then f (option_and_then g o) ≡ None
none_before None g f e = refl
none_before (Some x) g f e = absurd (cc)

-- a value without events is not a scenario of `replay`
pub no_events_said : (d : Data) → get (codes "events") d ≡ None → written_of d ≡ None
unfolding schedule_of
no_events_said d none =
    no_course Replay schedule_of d (λ version. none_before (get (codes "events") d) as_array (all_of (said_by (event_of version))) none)
