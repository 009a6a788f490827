-- Fields without a place for `BadShape` can be read, and fields without a place for `BadLimit` are within their limits.
use Rattle.std.proofs.Common.{◌≡◌, ◌∙◌, ◌<◌, ◌+◌, ◌==◌, ◌&&◌, arith, ℕ, suc, List, ◌∷◌, length, get_or, codes, Bool, true, false, not, cond, is_some, option_and_then, Option, Some, None, Ok, Err, refl, sym, ap}
use Rattle.std.specs.Prelude.{unwrap_or}
use Rattle.std.specs.List.{find, list_all}
use Rattle.std.specs.Result.{result_err}
use Rattle.std.proofs.lemmas.Bool.{and_from}
use Rattle.serde_json.specs.Data.{Data, Items, Members, no_items, item, object}
use Rattle.serde_json.specs.Events.{items_len}
use Rattle.serde_json.specs.Find.{as_array, get_member}
use Rattle.mencius_base.specs.CommandState.{CommandState}
use Rattle.mencius_base.specs.declared.event.Event.{Event}
use Rattle.mencius_io.specs.declared.fault.IoFault.{IoFault}
use Rattle.mencius_io.specs.declared.fault.IoFault.TheVariants.{BadLimit, BadShape}
use Rattle.mencius_format.specs.Grammar.{command_of, is_command_within, event_of, is_event_within, newest_version}
use Rattle.mencius_format.specs.ValuesOrFaults.{value_or_fault}
use Rattle.mencius_input.specs.declared.field.Field.{Field}
use Rattle.mencius_input.specs.declared.field.Field.TheVariants.{Version, Servers}
use Rattle.mencius_input.specs.declared.kind.Kind.{Kind}
use Rattle.mencius_input.specs.declared.kind.Kind.TheVariants.{Replay, Run}
use Rattle.mencius_input.specs.FieldsOf.{default_of, field_name, field_number, is_field_within, fields, list_field, number_in, whole_in}
use Rattle.mencius_input.specs.Places.{commands_place, count_place, course_place, events_place, fault_at, field_named, field_place, first_item, first_of, is_fault, is_lacking, lack_place, list_field_place, list_place, missing_field, named_place, number_place, version_in, whole_place}
use Rattle.mencius_input.specs.Plan.{commands_read}
use Rattle.mencius_input.specs.Scenario.{all_of, said_by, schedule_of}
use Rattle.mencius_input.proofs.objects.ScenarioFields.{schedule_bound}
use Rattle.mencius_input.proofs.objects.SharedFields.{default_fits}
use Rattle.mencius_input.proofs.mistakes.PlacedNames.{none_both, none_found, none_mapped, not_given}

-- ---- an object without a place for the fault

-- neither a field of the object nor a missing field is a place of the fault
pub record HasNone (kind : Kind) (fault : IoFault) (ms : Members) : Type 0 where
  pub passed : (key : List ℕ) → is_some (get_member key ms) ≡ true → field_place kind fault (object ms) key ≡ None
  pub whole : lack_place kind fault (object ms) ≡ None

named_list : (kind : Kind) (fault : IoFault) (d : Data)
    → field_place kind fault d (field_name (list_field kind)) ≡ list_field_place kind fault d
named_list Replay fault d = refl
named_list Run fault d = refl

module _ (kind : Kind) (fault : IoFault) (ms : Members) (h : HasNone kind fault ms) where
  number_none : (field : Field) → field_named kind (field_name field) ≡ Some field
      → number_place fault field (object ms) ≡ None
  number_none field named = by_value (get_member (field_name field) ms) refl
    where
      by_value : (o : Option Data) → get_member (field_name field) ms ≡ o → number_place fault field (object ms) ≡ None
      by_value None is = ap (option_and_then (λ value. whole_place fault field value (whole_in value))) is
      by_value (Some value) is =
          sym (ap (named_place kind fault (object ms) (field_name field)) named)
          ∙ h.passed (field_name field) (ap is_some is)

  pub list_none : list_field_place kind fault (object ms) ≡ None
  list_none = by_value (get_member (field_name (list_field kind)) ms) refl
    where
      by_value : (o : Option Data) → get_member (field_name (list_field kind)) ms ≡ o
          → list_field_place kind fault (object ms) ≡ None
      by_value None is = ap (option_and_then (λ value. course_place kind fault (object ms) (as_array value))) is
      by_value (Some value) is =
          sym (named_list kind fault (object ms)) ∙ h.passed (field_name (list_field kind)) (ap is_some is)

-- ---- numbers

module _ (kind : Kind) (ms : Members) (h : HasNone kind BadShape ms) where
  -- no field that must be present is missing
  pub none_lacking : (i : ℕ) → i < length (fields kind) → is_lacking (object ms) (get_or (fields kind) i Version) ≡ false
  none_lacking i less =
      none_found (is_lacking (object ms)) (fields kind) Version
      (none_mapped missing_field (find (is_lacking (object ms)) (fields kind)) h.whole) i less

  by_default : (o : Option ℕ) → (not (is_some o) && true) ≡ false → is_some o ≡ true
  by_default None e = absurd cc
  by_default (Some n) e = refl

  pub number_there : (field : Field) → field_named kind (field_name field) ≡ Some field
      → is_lacking (object ms) field ≡ false → is_some (field_number field (object ms)) ≡ true
  unfolding field_number
  number_there field named there =
      by_value (get_member (field_name field) ms) there (number_none kind BadShape ms h field named)
    where
      by_whole : (value : Data) (o : Option ℕ) → whole_place BadShape field value o ≡ None → is_some o ≡ true
      by_whole value None none = absurd cc
      by_whole value (Some n) none = refl

      by_value : (o : Option Data) → (not (is_some (default_of field)) && not (is_some o)) ≡ false
          → option_and_then (λ value. whole_place BadShape field value (whole_in value)) o ≡ None
          → is_some (number_in field o) ≡ true
      by_value None lacks none = by_default (default_of field) lacks
      by_value (Some value) lacks none = by_whole value (whole_in value) none

  pub list_there : is_lacking (object ms) (list_field kind) ≡ false
      → is_some (get_member (field_name (list_field kind)) ms) ≡ true
  list_there there = by_kind kind there
    where
      turned : (a : Bool) → (true && not a) ≡ false → a ≡ true
      turned true e = refl
      turned false e = absurd cc

      by_kind : (kind : Kind) → is_lacking (object ms) (list_field kind) ≡ false
          → is_some (get_member (field_name (list_field kind)) ms) ≡ true
      by_kind Replay e = turned _ e
      by_kind Run e = turned _ e

module _ (kind : Kind) (ms : Members) (h : HasNone kind BadLimit ms) where
  pub number_fits : (field : Field) → field_named kind (field_name field) ≡ Some field → (n : ℕ)
      → field_number field (object ms) ≡ Some n → is_field_within field n ≡ true
  unfolding field_number
  number_fits field named n is =
      by_value (get_member (field_name field) ms) (number_none kind BadLimit ms h field named) is
    where
      turned : (a : Bool) → (true && not a) ≡ false → a ≡ true
      turned true e = refl
      turned false e = absurd cc

      by_whole : (value : Data) (o : Option ℕ) → whole_place BadLimit field value o ≡ None → o ≡ Some n
          → is_field_within field n ≡ true
      by_whole value None none is = absurd cc
      by_whole value (Some m) none is =
          sym (ap (λ o. is_field_within field (unwrap_or o n)) is) ∙ turned (is_field_within field m) (not_given _ _ none)

      by_value : (o : Option Data) → option_and_then (λ value. whole_place BadLimit field value (whole_in value)) o ≡ None
          → number_in field o ≡ Some n → is_field_within field n ≡ true
      by_value None none is = default_fits field n is
      by_value (Some value) none is = by_whole value (whole_in value) none is

-- ---- items

module _ {X : Type 0} where
  both_there : (o : Option X) (s : Option (List X)) → is_some o ≡ true → is_some s ≡ true
      → is_some (option_and_then (λ x. option_and_then (λ xs. Some (x ∷ xs)) s) o) ≡ true
  both_there None s here later = absurd cc
  both_there (Some x) None here later = absurd cc
  both_there (Some x) (Some xs) here later = refl

  both_parts : (o : Option X) (s : Option (List X)) (all : List X)
      → option_and_then (λ x. option_and_then (λ xs. Some (x ∷ xs)) s) o ≡ Some all
      → (x : X) × (xs : List X) × (o ≡ Some x) × (s ≡ Some xs) × (all ≡ x ∷ xs)
  both_parts None s all is = absurd cc
  both_parts (Some x) None all is = absurd cc
  both_parts (Some x) (Some xs) all is = (x, xs, refl, refl, sym (ap (λ o. unwrap_or o all) is))

module _ {X Y : Type 0} (read : Data → Option X) (ask : ℕ → Data → Option Y) where
  all_there : ((n : ℕ) (d : Data) → ask n d ≡ None → is_some (read d) ≡ true)
      → (n : ℕ) (ds : Items) → first_of ask n ds ≡ None → is_some (all_of read ds) ≡ true
  unfolding first_of all_of
  all_there each n no_items none = refl
  all_there each n (item d ds) none =
      let parts = none_both (ask n d) (first_of ask (n + 1) ds) none in
      both_there (read d) (all_of read ds) (each n d parts.0) (all_there each (n + 1) ds parts.1)

  all_fit : (fits : X → Bool) → ((n : ℕ) (d : Data) (x : X) → ask n d ≡ None → read d ≡ Some x → fits x ≡ true)
      → (n : ℕ) (ds : Items) (xs : List X) → first_of ask n ds ≡ None → all_of read ds ≡ Some xs
      → list_all fits xs ≡ true
  unfolding first_of all_of
  all_fit fits each n no_items xs none is = sym (ap (λ o. list_all fits (unwrap_or o xs)) is)
  all_fit fits each n (item d ds) xs none is =
      let parts = none_both (ask n d) (first_of ask (n + 1) ds) none in
      let split = both_parts (read d) (all_of read ds) xs is in
      ap (list_all fits) split.4
      ∙ and_from (fits split.0) (list_all fits split.1) (each n d split.0 parts.0 split.2)
      (all_fit fits each (n + 1) ds split.1 parts.1 split.3)

  pub same_count : (ds : Items) (xs : List X) → all_of read ds ≡ Some xs → length xs ≡ items_len ds
  unfolding all_of
  same_count no_items xs is = sym (ap (λ o. length (unwrap_or o xs)) is)
  same_count (item d ds) xs is =
      let split = both_parts (read d) (all_of read ds) xs is in
      ap length split.4 ∙ ap suc (same_count ds split.1 split.3)

-- an item without a `BadShape` can be read, and an item without a `BadLimit` is within its limits
module _ {X P : Type 0} (fits : X → Bool) (place : P) where
  item_there : (o : Option X) → cond (is_fault BadShape (result_err (value_or_fault fits o))) (Some place) None ≡ None
      → is_some o ≡ true
  item_there None none = absurd cc
  item_there (Some x) none = refl

  item_fits : (o : Option X) (x : X)
      → cond (is_fault BadLimit (result_err (value_or_fault fits o))) (Some place) None ≡ None
      → o ≡ Some x → fits x ≡ true
  item_fits None x none is = absurd cc
  item_fits (Some y) x none is = sym (ap (λ o. fits (unwrap_or o x)) is) ∙ by_test (fits y) none
    where
      by_test : (a : Bool)
          → cond (is_fault BadLimit (result_err (cond a (Ok y) (Err BadLimit)))) (Some place) None ≡ None → a ≡ true
      by_test true none = refl
      by_test false none = absurd cc

-- ---- events

events_there : (version : ℕ) (items : Items) → events_place BadShape version items ≡ None
    → is_some (all_of (said_by (event_of version)) items) ≡ true
events_there version items none =
    all_there (said_by (event_of version)) (fault_at Replay BadShape version)
    (λ n d none. item_there is_event_within _ (said_by (event_of version) d) none)
    0 items (none_mapped _ (first_item Replay BadShape version items) none)

events_fit : (version : ℕ) (items : Items) (es : List Event) → events_place BadLimit version items ≡ None
    → all_of (said_by (event_of version)) items ≡ Some es → list_all is_event_within es ≡ true
events_fit version items es none is =
    all_fit (said_by (event_of version)) (fault_at Replay BadLimit version) is_event_within
    (λ n d x none is. item_fits is_event_within _ (said_by (event_of version) d) x none is)
    0 items es (none_mapped _ (first_item Replay BadLimit version items) none) is

pub same_version : (ms : Members) (version : ℕ) → field_number Version (object ms) ≡ Some version
    → version_in (object ms) ≡ version
same_version ms version is = ap (λ o. unwrap_or o newest_version) is

pub schedule_there : (ms : Members) → HasNone Replay BadShape ms → (version : ℕ)
    → field_number Version (object ms) ≡ Some version → is_some (schedule_of version (object ms)) ≡ true
schedule_there ms h version said =
    ap is_some (schedule_bound version ms)
    ∙ by_value (get_member (codes "events") ms) (list_there Replay ms h (none_lacking Replay ms h 3 (omega arith)))
    (list_none Replay BadShape ms h)
  where
    by_items : (o : Option Items) → course_place Replay BadShape (object ms) o ≡ None
        → is_some (option_and_then (all_of (said_by (event_of version))) o) ≡ true
    by_items None none = absurd cc
    by_items (Some items) none =
        events_there version items (sym (ap (λ v. events_place BadShape v items) (same_version ms version said)) ∙ none)

    by_value : (o : Option Data) → is_some o ≡ true
        → option_and_then (λ value. course_place Replay BadShape (object ms) (as_array value)) o ≡ None
        → is_some (option_and_then (all_of (said_by (event_of version))) (option_and_then as_array o)) ≡ true
    by_value None some none = absurd cc
    by_value (Some value) some none = by_items (as_array value) none

pub schedule_fits : (ms : Members) → HasNone Replay BadLimit ms → (version : ℕ) (es : List Event)
    → field_number Version (object ms) ≡ Some version → schedule_of version (object ms) ≡ Some es
    → list_all is_event_within es ≡ true
schedule_fits ms h version es said is =
    by_value (get_member (codes "events") ms) (list_none Replay BadLimit ms h) (sym (schedule_bound version ms) ∙ is)
  where
    by_items : (o : Option Items) → course_place Replay BadLimit (object ms) o ≡ None
        → option_and_then (all_of (said_by (event_of version))) o ≡ Some es → list_all is_event_within es ≡ true
    by_items None none is = absurd cc
    by_items (Some items) none is =
        events_fit version items es
        (sym (ap (λ v. events_place BadLimit v items) (same_version ms version said)) ∙ none) is

    by_value : (o : Option Data)
        → option_and_then (λ value. course_place Replay BadLimit (object ms) (as_array value)) o ≡ None
        → option_and_then (all_of (said_by (event_of version))) (option_and_then as_array o) ≡ Some es → list_all is_event_within es ≡ true
    by_value None none is = absurd cc
    by_value (Some value) none is = by_items (as_array value) none is

-- ---- commands

list_read : (version at : ℕ) (o : Option Items) → commands_place BadShape version at o ≡ None
    → is_some (option_and_then (all_of (said_by (command_of version))) o) ≡ true
list_read version at None none = absurd cc
list_read version at (Some items) none =
    all_there (said_by (command_of version)) (fault_at Run BadShape version)
    (λ n d none. item_there is_command_within _ (said_by (command_of version) d) none)
    0 items (none_mapped _ (first_item Run BadShape version items) none)

list_fits : (version at : ℕ) (o : Option Items) (xs : List CommandState) → commands_place BadLimit version at o ≡ None
    → option_and_then (all_of (said_by (command_of version))) o ≡ Some xs → list_all is_command_within xs ≡ true
list_fits version at None xs none is = absurd cc
list_fits version at (Some items) xs none is =
    all_fit (said_by (command_of version)) (fault_at Run BadLimit version) is_command_within
    (λ n d x none is. item_fits is_command_within _ (said_by (command_of version) d) x none is)
    0 items xs (none_mapped _ (first_item Run BadLimit version items) none) is

pub lists_there : (version : ℕ) (items : Items) → first_of (list_place BadShape version) 0 items ≡ None
    → is_some (all_of (commands_read version) items) ≡ true
lists_there version items none =
    all_there (commands_read version) (list_place BadShape version)
    (λ at d none. list_read version at (as_array d) none) 0 items none

pub lists_fit : (version : ℕ) (items : Items) (lists : List (List CommandState))
    → first_of (list_place BadLimit version) 0 items ≡ None → all_of (commands_read version) items ≡ Some lists
    → list_all (list_all is_command_within) lists ≡ true
lists_fit version items lists none is =
    all_fit (commands_read version) (list_place BadLimit version) (list_all is_command_within)
    (λ at d xs none is. list_fits version at (as_array d) xs none is) 0 items lists none is

-- if the commands are not a place of `BadLimit`, they are one list for each server
pub counts_agree : (count servers : ℕ) (o : Option ℕ) → o ≡ Some servers → is_field_within Servers servers ≡ true
    → count_place BadLimit count o ≡ None → (count == servers) ≡ true
counts_agree count servers None is fits none = absurd cc
counts_agree count servers (Some n) is fits none =
    let same : n ≡ servers = ap (λ o. unwrap_or o servers) is in
    ap (λ n. count == n) (sym same)
    ∙ by_tests (is_field_within Servers n) (count == n) (ap (is_field_within Servers) same ∙ fits) (not_given _ _ none)
  where
    by_tests : (within equal : Bool) → within ≡ true → (within && not equal) ≡ false → equal ≡ true
    by_tests within true e f = refl
    by_tests true false e f = absurd cc
    by_tests false false e f = absurd cc
