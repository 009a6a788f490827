-- Each `BadShape` or `BadLimit` of a scenario has a place, because a scenario without a place for a fault does not have
-- it.
use Rattle.std.proofs.Common.{◌≡◌, ◌∙◌, ◌<◌, ◌==◌, arith, ℕ, List, length, get_or, codes, Bool, true, false, cond, is_some, option_map, option_and_then, Option, Some, None, Ok, Err, refl, sym, ap}
use Rattle.std.specs.Prelude.{unwrap_or}
use Rattle.std.specs.List.{list_all}
use Rattle.std.specs.Option.{option_map_or}
use Rattle.std.proofs.lemmas.Bool.{and_from}
use Rattle.serde_json.specs.Data.{Data, Items, Members, array, boolean, no_members, null, number, object, string}
use Rattle.serde_json.specs.Events.{items_len}
use Rattle.serde_json.specs.Find.{as_array, get_member}
use Rattle.serde_json.specs.Read.{read}
use Rattle.mencius_base.specs.Members.{Membership}
use Rattle.mencius_base.specs.Plan.{PlanState, plan_of}
use Rattle.mencius_base.specs.CommandState.{CommandState}
use Rattle.mencius_io.specs.declared.fault.IoFault.{IoFault}
use Rattle.mencius_io.specs.declared.fault.IoFault.TheVariants.{BadLimit, BadShape, NotJson}
use Rattle.mencius_format.specs.Grammar.{is_command_within, is_event_within}
use Rattle.mencius_format.specs.ValuesOrFaults.{value_or_fault}
use Rattle.mencius_input.specs.declared.field.Field.{Field}
use Rattle.mencius_input.specs.declared.field.Field.TheVariants.{Version, Servers, Beta, Workers, Seed, Turns, Loss}
use Rattle.mencius_input.specs.declared.kind.Kind.{Kind}
use Rattle.mencius_input.specs.declared.kind.Kind.TheVariants.{Replay, Run}
use Rattle.mencius_input.specs.declared.scenario.Scenario.{Scenario}
use Rattle.mencius_input.specs.FieldsOf.{field_name, field_number, is_field_within, is_number_within, fields, names}
use Rattle.mencius_input.specs.FieldValues.{own_names}
use Rattle.mencius_input.specs.Laws.{FaultsHavePlaces, HasPlace}
use Rattle.mencius_input.specs.Places.{count_place, course_place, field_named, first_in, first_of, first_place, is_lacking, lack_place, list_place, names_in, names_of, place_in, version_in}
use Rattle.mencius_input.specs.Plan.{commands_read, plan_read, is_plan_within}
use Rattle.mencius_input.specs.Scenario.{all_of, has_only, json_of, scenario_in, scenario_of, is_scenario_within, schedule_of}
use Rattle.mencius_input.proofs.JsonTexts.{json_read}
use Rattle.mencius_input.proofs.objects.NameOrder.{names_made}
use Rattle.mencius_input.proofs.objects.RunFields.{mapped_items, plan_bound, plan_by_fields}
use Rattle.mencius_input.proofs.objects.SharedFields.{scenario_by_fields, scenario_bound}
use Rattle.mencius_input.proofs.mistakes.PlacedNames.{key_passed, known_name, none_both, only_passed, some_unless}
use Rattle.mencius_input.proofs.mistakes.PlacedFields.{HasNone, counts_agree, list_none, list_there, lists_fit, lists_there, none_lacking, number_fits, number_there, same_count, same_version, schedule_fits, schedule_there}

-- ---- the plan

some_mapped : {X Y : Type 0} (f : X → Y) (o : Option X) → is_some o ≡ true → is_some (option_map f o) ≡ true
some_mapped f None e = absurd cc
some_mapped f (Some x) e = refl

planned_there : (version : ℕ) (ow os ot ol : Option ℕ) (value : Option Data) → is_some ow ≡ true → is_some os ≡ true
    → is_some ot ≡ true → is_some ol ≡ true
    → is_some (option_and_then (all_of (commands_read version)) (option_and_then as_array value)) ≡ true
    → is_some (plan_by_fields version ow os ot ol value) ≡ true
planned_there version None os ot ol value w s t l lists = absurd cc
planned_there version (Some workers) None ot ol value w s t l lists = absurd cc
planned_there version (Some workers) (Some seed) None ol value w s t l lists = absurd cc
planned_there version (Some workers) (Some seed) (Some turns) None value w s t l lists = absurd cc
planned_there version (Some workers) (Some seed) (Some turns) (Some loss) value w s t l lists =
    ap is_some (sym (mapped_items 0 workers seed turns loss version (option_and_then as_array value)))
    ∙ some_mapped (plan_of workers seed turns loss) _ lists

-- each part of the plan is the content of its field
record IsPlanned (version : ℕ) (ow os ot ol : Option ℕ) (value : Option Data) (plan : PlanState) : Type 0 where
  workers : ow ≡ Some plan.workers
  seed : os ≡ Some plan.seed
  turns : ot ≡ Some plan.turns
  loss : ol ≡ Some plan.loss
  commands : option_and_then (all_of (commands_read version)) (option_and_then as_array value) ≡ Some plan.commands

planned_parts : (version : ℕ) (ow os ot ol : Option ℕ) (value : Option Data) (plan : PlanState)
    → plan_by_fields version ow os ot ol value ≡ Some plan → IsPlanned version ow os ot ol value plan
planned_parts version None os ot ol value plan is = absurd cc
planned_parts version (Some workers) None ot ol value plan is = absurd cc
planned_parts version (Some workers) (Some seed) None ol value plan is = absurd cc
planned_parts version (Some workers) (Some seed) (Some turns) None value plan is = absurd cc
planned_parts version (Some workers) (Some seed) (Some turns) (Some loss) value plan is =
    by_lists _ refl (mapped_items 0 workers seed turns loss version (option_and_then as_array value) ∙ is)
  where
    by_lists : (o : Option (List (List CommandState)))
        → option_and_then (all_of (commands_read version)) (option_and_then as_array value) ≡ o
        → option_map (plan_of workers seed turns loss) o ≡ Some plan
        → IsPlanned version (Some workers) (Some seed) (Some turns) (Some loss) value plan
    by_lists None lists is = absurd cc
    by_lists (Some commands) lists is = record {
      workers = ap (λ o. Some (unwrap_or o plan).workers) is;
      seed = ap (λ o. Some (unwrap_or o plan).seed) is;
      turns = ap (λ o. Some (unwrap_or o plan).turns) is;
      loss = ap (λ o. Some (unwrap_or o plan).loss) is;
      commands = lists ∙ ap (λ o. Some (unwrap_or o plan).commands) is;
    }

module _ (ms : Members) (h : HasNone Run BadShape ms) (version : ℕ) (said : field_number Version (object ms) ≡ Some version) where
  run_lists : (o : Option Items) → course_place Run BadShape (object ms) o ≡ None
      → is_some (option_and_then (all_of (commands_read version)) o) ≡ true
  run_lists None none = absurd cc
  run_lists (Some items) none =
      let parts = none_both (first_of (list_place BadShape (version_in (object ms))) 0 items) _ none in
      lists_there version items
      (sym (ap (λ v. first_of (list_place BadShape v) 0 items) (same_version ms version said)) ∙ parts.0)

  run_value : (o : Option Data) → is_some o ≡ true
      → option_and_then (λ value. course_place Run BadShape (object ms) (as_array value)) o ≡ None
      → is_some (option_and_then (all_of (commands_read version)) (option_and_then as_array o)) ≡ true
  run_value None some none = absurd cc
  run_value (Some value) some none = run_lists (as_array value) none

  run_number : (field : Field) → field_named Run (field_name field) ≡ Some field → (i : ℕ) → i < length (fields Run)
      → get_or (fields Run) i Version ≡ field → is_some (field_number field (object ms)) ≡ true
  run_number field named i less is =
      number_there Run ms h field named
      (ap (is_lacking (object ms)) (sym is) ∙ none_lacking Run ms h i less)

  plan_there : is_some (plan_read version (object ms)) ≡ true
  plan_there =
      ap is_some (plan_bound version ms)
      ∙ planned_there version _ _ _ _ _
      (run_number Workers refl 3 (omega arith) refl)
      (run_number Seed refl 4 (omega arith) refl)
      (run_number Turns refl 5 (omega arith) refl)
      (run_number Loss refl 6 (omega arith) refl)
      (run_value (get_member (codes "commands") ms) (list_there Run ms h (none_lacking Run ms h 7 (omega arith)))
      (list_none Run BadShape ms h))

module _ (ms : Members) (h : HasNone Run BadLimit ms) (version servers : ℕ)
    (said : field_number Version (object ms) ≡ Some version) (counted : field_number Servers (object ms) ≡ Some servers)
    (few : is_field_within Servers servers ≡ true) where
  -- if the lists have no place for `BadLimit`, they are within their limits, and each server has one list
  run_lists_fit : (o : Option Items) (lists : List (List CommandState)) → course_place Run BadLimit (object ms) o ≡ None
      → option_and_then (all_of (commands_read version)) o ≡ Some lists
      → ((length lists == servers) ≡ true) × (list_all (list_all is_command_within) lists ≡ true)
  run_lists_fit None lists none is = absurd cc
  run_lists_fit (Some items) lists none is =
      let parts = none_both (first_of (list_place BadLimit (version_in (object ms))) 0 items)
      (count_place BadLimit (items_len items) (field_number Servers (object ms))) none in (
        ap (λ n. n == servers) (same_count (commands_read version) (list_place BadLimit version) items lists is)
            ∙ counts_agree (items_len items) servers (field_number Servers (object ms)) counted few parts.1,
        lists_fit version items lists
            (sym (ap (λ v. first_of (list_place BadLimit v) 0 items) (same_version ms version said)) ∙ parts.0) is,
      )

  run_value_fits : (o : Option Data) (lists : List (List CommandState))
      → option_and_then (λ value. course_place Run BadLimit (object ms) (as_array value)) o ≡ None
      → option_and_then (all_of (commands_read version)) (option_and_then as_array o) ≡ Some lists
      → ((length lists == servers) ≡ true) × (list_all (list_all is_command_within) lists ≡ true)
  run_value_fits None lists none is = absurd cc
  run_value_fits (Some value) lists none is = run_lists_fit (as_array value) lists none is

  plan_fits_all : (members : Membership) → members.count ≡ servers → (plan : PlanState)
      → plan_read version (object ms) ≡ Some plan → is_plan_within members plan ≡ true
  unfolding is_field_within is_number_within
  plan_fits_all members same plan is =
      let p = planned_parts version (field_number Workers (object ms)) (field_number Seed (object ms))
      (field_number Turns (object ms)) (field_number Loss (object ms)) (get_member (codes "commands") ms) plan
      (sym (plan_bound version ms) ∙ is) in
      let lists = run_value_fits (get_member (codes "commands") ms) plan.commands (list_none Run BadLimit ms h) p.commands in
      let workers = number_fits Run ms h Workers refl plan.workers p.workers in
      let seed = number_fits Run ms h Seed refl plan.seed p.seed in
      let turns = number_fits Run ms h Turns refl plan.turns p.turns in
      let loss = number_fits Run ms h Loss refl plan.loss p.loss in
      let count : (length plan.commands == members.count) ≡ true =
      ap (λ n. length plan.commands == n) same ∙ lists.0 in
      and_from _ _ (and_from _ _ (and_from _ _ (and_from _ _ (and_from _ _ workers seed) turns) loss) count) lists.1

-- ---- a scenario of either kind

abbrev scenario_from : {X : Type 0} → ℕ → ℕ → ℕ → X → Scenario X
scenario_from version servers beta course =
    record { version = version; members = record { count = servers; beta = beta }; course = course }

module _ {X : Type 0} where
  bound_there : (only : Bool) (ov os ox : Option ℕ) (course_of : ℕ → Option X) → only ≡ true → is_some ov ≡ true
      → is_some os ≡ true → is_some ox ≡ true
      → ((version : ℕ) → ov ≡ Some version → is_some (course_of version) ≡ true)
      → is_some (scenario_by_fields only ov os ox course_of) ≡ true
  bound_there false ov os ox course_of o v s x course = absurd cc
  bound_there true None os ox course_of o v s x course = absurd cc
  bound_there true (Some version) None ox course_of o v s x course = absurd cc
  bound_there true (Some version) (Some servers) None course_of o v s x course = absurd cc
  bound_there true (Some version) (Some servers) (Some beta) course_of o v s x course =
      by_course (course_of version) (course version refl)
    where
      by_course : (c : Option X) → is_some c ≡ true
          → is_some (option_and_then (λ course. Some (scenario_from version servers beta course)) c) ≡ true
      by_course None e = absurd cc
      by_course (Some c) e = refl

  -- each part of the scenario is the content of its field
  record IsBound (ov os ox : Option ℕ) (course_of : ℕ → Option X) (x : Scenario X) : Type 0 where
    version : ov ≡ Some x.version
    servers : os ≡ Some x.members.count
    beta : ox ≡ Some x.members.beta
    course : course_of x.version ≡ Some x.course

  bound_parts : (only : Bool) (ov os ox : Option ℕ) (course_of : ℕ → Option X) (x : Scenario X)
      → scenario_by_fields only ov os ox course_of ≡ Some x → IsBound ov os ox course_of x
  bound_parts only None os ox course_of x is = absurd cc
  bound_parts only (Some version) None ox course_of x is = absurd cc
  bound_parts only (Some version) (Some servers) None course_of x is = absurd cc
  bound_parts only (Some version) (Some servers) (Some beta) course_of x is =
      by_course only (course_of version) refl is
    where
      by_course : (only : Bool) (c : Option X) → course_of version ≡ c
          → option_and_then (λ course. cond only (Some (scenario_from version servers beta course)) None) c ≡ Some x
          → IsBound (Some version) (Some servers) (Some beta) course_of x
      by_course only None read is = absurd cc
      by_course false (Some c) read is = absurd cc
      by_course true (Some c) read is = record {
        version = ap (λ o. Some (unwrap_or o x).version) is;
        servers = ap (λ o. Some (unwrap_or o x).members.count) is;
        beta = ap (λ o. Some (unwrap_or o x).members.beta) is;
        course = ap (λ o. course_of (unwrap_or o x).version) (sym is) ∙ read ∙ ap (λ o. Some (unwrap_or o x).course) is;
      }

-- ---- the fields of both kinds

shared_there : (kind : Kind) (ms : Members) → HasNone kind BadShape ms
    → (is_some (field_number Version (object ms)) ≡ true) × (is_some (field_number Servers (object ms)) ≡ true)
    × (is_some (field_number Beta (object ms)) ≡ true)
shared_there Replay ms h = (
  number_there Replay ms h Version refl (none_lacking Replay ms h 0 (omega arith)),
  number_there Replay ms h Servers refl (none_lacking Replay ms h 1 (omega arith)),
  number_there Replay ms h Beta refl (none_lacking Replay ms h 2 (omega arith)),
)
shared_there Run ms h = (
  number_there Run ms h Version refl (none_lacking Run ms h 0 (omega arith)),
  number_there Run ms h Servers refl (none_lacking Run ms h 1 (omega arith)),
  number_there Run ms h Beta refl (none_lacking Run ms h 2 (omega arith)),
)

shared_fit : (kind : Kind) (ms : Members) → HasNone kind BadLimit ms → (version servers beta : ℕ)
    → field_number Version (object ms) ≡ Some version → field_number Servers (object ms) ≡ Some servers
    → field_number Beta (object ms) ≡ Some beta
    → (is_field_within Version version ≡ true) × (is_field_within Servers servers ≡ true) × (is_field_within Beta beta ≡ true)
shared_fit Replay ms h version servers beta v s b = (
  number_fits Replay ms h Version refl version v,
  number_fits Replay ms h Servers refl servers s,
  number_fits Replay ms h Beta refl beta b,
)
shared_fit Run ms h version servers beta v s b = (
  number_fits Run ms h Version refl version v,
  number_fits Run ms h Servers refl servers s,
  number_fits Run ms h Beta refl beta b,
)

-- ---- the bytes

module _ (kind : Kind) (fault : IoFault) (bytes : List ℕ) (ms : Members) (is : read bytes ≡ Some (object ms))
    (none : place_in kind fault (names_in bytes) (object ms) ≡ None) where
  no_first : first_in kind fault (object ms) (names_of (names_made bytes ms is).fields) ≡ None
  no_first =
      let parts = none_both (first_in kind fault (object ms) (names_in bytes)) (lack_place kind fault (object ms)) none in
      sym (ap (first_in kind fault (object ms)) (names_made bytes ms is).same) ∙ parts.0

  none_in : HasNone kind fault ms
  none_in =
      let n = names_made bytes ms is in
      let parts = none_both (first_in kind fault (object ms) (names_in bytes)) (lack_place kind fault (object ms)) none in
      record {
        passed = λ key there. key_passed kind fault (object ms) key n.fields no_members ms no_first n.good
            (λ some. absurd cc) there;
        whole = parts.1;
      }

only_known : (kind : Kind) (bytes : List ℕ) (ms : Members) (is : read bytes ≡ Some (object ms))
    → place_in kind BadShape (names_in bytes) (object ms) ≡ None → has_only (names kind) ms ≡ true
unfolding has_only
only_known kind bytes ms is none =
    let n = names_made bytes ms is in
    only_passed kind BadShape (object ms) (names kind) (known_name kind (object ms)) n.fields no_members ms
    (no_first kind BadShape bytes ms is none) n.good refl

-- each part of the scenario is the content of its field in the object
abbrev IsOf : {X : Type 0} → (ℕ → Data → Option X) → Members → Scenario X → Type 0
IsOf course_of ms x =
    IsBound (field_number Version (object ms)) (field_number Servers (object ms)) (field_number Beta (object ms))
    (λ version. course_of version (object ms)) x

module _ {X : Type 0} (kind : Kind) (course_of : ℕ → Data → Option X) (fits : Membership → X → Bool)
    (there : (ms : Members) → HasNone kind BadShape ms → (version : ℕ) → field_number Version (object ms) ≡ Some version
    → is_some (course_of version (object ms)) ≡ true)
    (fit : (ms : Members) → HasNone kind BadLimit ms → (x : Scenario X) → IsOf course_of ms x
    → is_field_within Servers x.members.count ≡ true → fits x.members x.course ≡ true)
    (bytes : List ℕ) where
  shape_none : (d : Data) → read bytes ≡ Some d → place_in kind BadShape (names_in bytes) d ≡ None
      → is_some (scenario_of (own_names kind) course_of d) ≡ true
  shape_none null is none = absurd cc
  shape_none (boolean b) is none = absurd cc
  shape_none (number n) is none = absurd cc
  shape_none (string s) is none = absurd cc
  shape_none (array ds) is none = absurd cc
  shape_none (object ms) is none =
      let h = none_in kind BadShape bytes ms is none in
      let numbers = shared_there kind ms h in
      ap is_some (scenario_bound kind course_of ms)
      ∙ bound_there _ _ _ _ _ (only_known kind bytes ms is none) numbers.0 numbers.1 numbers.2 (there ms h)

  limit_none : (d : Data) → read bytes ≡ Some d → place_in kind BadLimit (names_in bytes) d ≡ None
      → (x : Scenario X) → scenario_of (own_names kind) course_of d ≡ Some x → is_scenario_within fits x ≡ true
  unfolding scenario_of is_field_within is_number_within
  limit_none null is none x said = absurd cc
  limit_none (boolean b) is none x said = absurd cc
  limit_none (number n) is none x said = absurd cc
  limit_none (string s) is none x said = absurd cc
  limit_none (array ds) is none x said = absurd cc
  limit_none (object ms) is none x said =
      let h = none_in kind BadLimit bytes ms is none in
      let parts = bound_parts _ _ _ _ _ x (sym (scenario_bound kind course_of ms) ∙ said) in
      let numbers = shared_fit kind ms h x.version x.members.count x.members.beta parts.version parts.servers parts.beta in
      and_from _ _ (and_from _ _ (and_from _ _ numbers.0 numbers.1) numbers.2) (fit ms h x parts numbers.1)

  place_none : (fault : IoFault) (d : Data) → json_of bytes ≡ Some d → first_place kind fault bytes ≡ None
      → place_in kind fault (names_in bytes) d ≡ None
  place_none fault d is none = sym (ap (option_and_then (place_in kind fault (names_in bytes))) is) ∙ none

  has_place : HasPlace kind bytes (scenario_in (own_names kind) course_of fits bytes)
  has_place = by_json (json_of bytes) refl
    where
      by_test : (d : Data) → json_of bytes ≡ Some d → (x : Scenario X) → scenario_of (own_names kind) course_of d ≡ Some x
          → (a : Bool) → is_scenario_within fits x ≡ a → HasPlace kind bytes (cond a (Ok x) (Err BadLimit))
      by_test d is x said true within = tt
      by_test d is x said false within =
          some_unless (first_place kind BadLimit bytes) (λ none.
          let all = limit_none d (json_read bytes d is) (place_none BadLimit d is none) x said in
          let both = sym within ∙ all in
          absurd cc)

      by_scenario : (d : Data) → json_of bytes ≡ Some d → (o : Option (Scenario X)) → scenario_of (own_names kind) course_of d ≡ o
          → HasPlace kind bytes (value_or_fault (is_scenario_within fits) o)
      by_scenario d is None said =
          some_unless (first_place kind BadShape bytes) (λ none.
          let some = shape_none d (json_read bytes d is) (place_none BadShape d is none) in
          let both = ap is_some (sym said) ∙ some in
          absurd cc)
      by_scenario d is (Some x) said = by_test d is x said (is_scenario_within fits x) refl

      by_json : (o : Option Data) → json_of bytes ≡ o
          → HasPlace kind bytes
          (option_map_or (λ d. value_or_fault (is_scenario_within fits) (scenario_of (own_names kind) course_of d)) o (Err NotJson))
      by_json None is = tt
      by_json (Some d) is = by_scenario d is (scenario_of (own_names kind) course_of d) refl

pub places_there : FaultsHavePlaces
places_there bytes = (
  has_place Replay schedule_of (λ members. list_all is_event_within) schedule_there
      (λ ms h x parts few. schedule_fits ms h x.version x.course parts.version parts.course) bytes,
  has_place Run plan_read is_plan_within plan_there
      (λ ms h x parts few. plan_fits_all ms h x.version x.members.count parts.version parts.servers few x.members refl
      x.course parts.course) bytes,
)
