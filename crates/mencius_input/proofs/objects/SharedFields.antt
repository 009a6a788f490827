-- The code builds the scenario that the definitions give for the fields of both kinds and for the course.
use Rattle.std.proofs.Common.{◌≡◌, ℕ, ◌&&◌, List, ◌∷◌, Bool, true, false, cond, Option, Some, None, option_map, option_and_then, Result, Ok, Err, inl, inr, refl, sym, ap, ◌∙◌}
use Rattle.std.specs.Prelude.{if◌then◌else◌, unwrap_or}
use Rattle.std.specs.Option.{option_map_or}
use Rattle.std.proofs.Math.Bool.{and-true, and-false}
use Rattle.serde_json.specs.Data.{Data, Members, object}
use Rattle.serde_json.specs.Find.{as_object}
use Rattle.mencius_base.specs.Members.{Membership}
use Rattle.mencius_io.specs.declared.fault.IoFault.{IoFault}
use Rattle.mencius_io.specs.declared.fault.IoFault.TheVariants.{BadLimit, NotJson}
use Rattle.mencius_format.specs.ValuesOrFaults.{FailsBy, value_or_fault}
use Rattle.mencius_input.specs.declared.field.Field.{Field}
use Rattle.mencius_input.specs.declared.field.Field.TheVariants.{Version, Servers, Beta, Workers, Seed, Turns, Loss, Events, Commands}
use Rattle.mencius_input.specs.declared.kind.Kind.{Kind}
use Rattle.mencius_input.specs.declared.kind.Kind.TheVariants.{Replay, Run}
use Rattle.mencius_input.specs.declared.scenario.Scenario.{Scenario}
use Rattle.mencius_input.specs.declared.scenario.Shared.{Shared}
use Rattle.mencius_input.specs.FieldValues.{IsForeign, IsUnread, own_names, said_of, scenario_or_fault, shared_in, is_shared_within, with_course}
use Rattle.mencius_input.specs.FieldsOf.{beta_field, default_of, field_number, is_field_within, is_number_within, names, servers_field, version_field, whole_number}
use Rattle.mencius_input.specs.Scenario.{has_only, scenario_of, is_scenario_within}

-- ---- the limits

abbrev pub members_in : Shared → Membership
members_in shared = record { count = shared.servers; beta = shared.beta }

-- the tests of the numbers and of the course together test the limits of a scenario. The test of the course must agree
-- with its limits only if the numbers are within theirs
pub scenario_or_fault_is : {X : Type 0} (shared : Shared) (test : X → Bool) (fits : Membership → X → Bool)
    → ((x : X) → (is_shared_within shared && test x) ≡ (is_shared_within shared && fits (members_in shared) x))
    → (o : Option X)
    → scenario_or_fault shared (value_or_fault test o)
    ≡ value_or_fault (is_scenario_within fits) (option_map (with_course shared) o)
unfolding is_field_within is_number_within
scenario_or_fault_is shared test fits same None = refl
scenario_or_fault_is {X} shared test fits same (Some x) = by_test (test x) (same x)
  where
    by_test : (a : Bool) → (is_shared_within shared && a) ≡ (is_shared_within shared && fits (members_in shared) x)
        → scenario_or_fault shared (cond a (Ok x) (Err BadLimit))
        ≡ cond (is_shared_within shared && fits (members_in shared) x) (Ok (with_course shared x)) (Err BadLimit)
    by_test true e =
        ap (λ bit. cond bit (Ok (with_course shared x)) (Err BadLimit)) (sym (and-true (is_shared_within shared)) ∙ e)
    by_test false e =
        ap (λ bit. cond bit (Ok (with_course shared x)) (Err BadLimit)) (sym (and-false (is_shared_within shared)) ∙ e)

-- the default of a field is within the limits of the field
pub default_fits : (field : Field) (n : ℕ) → default_of field ≡ Some n → is_field_within field n ≡ true
unfolding is_field_within
default_fits Beta n is = sym (ap (λ o. is_field_within Beta (unwrap_or o n)) is)
default_fits Version n is = absurd cc
default_fits Servers n is = absurd cc
default_fits Workers n is = absurd cc
default_fits Seed n is = absurd cc
default_fits Turns n is = absurd cc
default_fits Loss n is = absurd cc
default_fits Events n is = absurd cc
default_fits Commands n is = absurd cc

-- ---- the scenario in an object, by its fields

abbrev pub scenario_by_fields : {X : Type 0} → Bool → Option ℕ → Option ℕ → Option ℕ → (ℕ → Option X) → Option (Scenario X)
scenario_by_fields only ov os ox course_of =
    option_and_then (λ version. option_and_then (λ servers. option_and_then (λ beta. option_and_then (λ course.
    if only then Some (record { version = version; members = record { count = servers; beta = beta }; course = course })
    else None)
    (course_of version)) ox) os) ov

pub scenario_bound : {X : Type 0} (kind : Kind) (course_of : ℕ → Data → Option X) (ms : Members)
    → scenario_of (own_names kind) course_of (object ms)
    ≡ scenario_by_fields (has_only (names kind) ms) (field_number Version (object ms)) (field_number Servers (object ms))
    (field_number Beta (object ms)) (λ version. course_of version (object ms))
unfolding scenario_of whole_number field_number
scenario_bound Replay course_of ms = refl
scenario_bound Run course_of ms = refl

module _ {X : Type 0} (course_said : Shared → List (Option ℕ) → Result X IoFault) (fits : Membership → X → Bool)
    (course_of : ℕ → Option X) (own : List (Option ℕ))
    (h : (shared : Shared) → scenario_or_fault shared (course_said shared own)
    ≡ value_or_fault (is_scenario_within fits) (option_map (with_course shared) (course_of shared.version))) where
  mapped : (shared : Shared) (o : Option X)
      → option_map (with_course shared) o ≡ option_and_then (λ course. Some (with_course shared course)) o
  mapped shared None = refl
  mapped shared (Some course) = refl

  said_bound : (ov os ox : Option ℕ) → said_of course_said (shared_in (ov ∷ os ∷ ox ∷ own))
      ≡ value_or_fault (is_scenario_within fits) (scenario_by_fields true ov os ox course_of)
  said_bound None os ox = refl
  said_bound (Some version) None ox = refl
  said_bound (Some version) (Some servers) None = refl
  said_bound (Some version) (Some servers) (Some beta) =
      let shared : Shared = record { version = version; servers = servers; beta = beta } in
      h shared ∙ ap (value_or_fault (is_scenario_within fits)) (mapped shared (course_of version))

-- the scenario that is built from the numbers of both kinds and a course is the scenario in the object, or its fault
pub shared_say : {X : Type 0} (kind : Kind) (course_said : Shared → List (Option ℕ) → Result X IoFault)
    (fits : Membership → X → Bool) (course_of : ℕ → Data → Option X) (wholes own : List (Option ℕ)) (ms : Members)
    → wholes ≡ field_number Version (object ms) ∷ field_number Servers (object ms) ∷ field_number Beta (object ms) ∷ own
    → has_only (names kind) ms ≡ true
    → ((shared : Shared) → scenario_or_fault shared (course_said shared own)
    ≡ value_or_fault (is_scenario_within fits) (option_map (with_course shared) (course_of shared.version (object ms))))
    → said_of course_said (shared_in wholes)
    ≡ value_or_fault (is_scenario_within fits) (scenario_of (own_names kind) course_of (object ms))
shared_say {X} kind course_said fits course_of wholes own ms are only h =
    let ov = field_number Version (object ms) in
    let os = field_number Servers (object ms) in
    let ox = field_number Beta (object ms) in
    let read : ℕ → Option X = λ version. course_of version (object ms) in
    ap (λ all. said_of course_said (shared_in all)) are
    ∙ said_bound course_said fits read own h ov os ox
    ∙ ap (λ a. value_or_fault (is_scenario_within fits) (scenario_by_fields a ov os ox read)) (sym only)
    ∙ ap (value_or_fault (is_scenario_within fits)) (sym (scenario_bound kind course_of ms))

-- ---- values that are not scenarios

none_behind : {X Y : Type 0} (o : Option X) (f : X → Option Y) → ((x : X) → o ≡ Some x → f x ≡ None)
    → option_and_then f o ≡ None
none_behind None f h = refl
none_behind (Some x) f h = h x refl

-- a value without a course is not a scenario
pub no_course : {X : Type 0} (kind : Kind) (course_of : ℕ → Data → Option X) (d : Data)
    → ((version : ℕ) → course_of version d ≡ None) → scenario_of (own_names kind) course_of d ≡ None
unfolding scenario_of
no_course kind course_of d h =
    none_behind (as_object d) _ (λ fields _. none_behind (whole_number version_field d) _ (λ version _.
    none_behind (whole_number servers_field d) _ (λ servers _. none_behind (whole_number beta_field d) _ (λ beta _.
    rw (h version) refl))))

all_names : (kind : Kind) (ms : Members)
    → has_only (version_field.name ∷ servers_field.name ∷ beta_field.name ∷ own_names kind) ms ≡ has_only (names kind) ms
all_names Replay ms = refl
all_names Run ms = refl

-- a value is not a scenario if it is not an object, or has a field that does not belong to the kind
foreign_said : {X : Type 0} (kind : Kind) (course_of : ℕ → Data → Option X) (d : Data) → IsForeign kind d
    → scenario_of (own_names kind) course_of d ≡ None
unfolding scenario_of
foreign_said kind course_of d foreign =
    none_behind (as_object d) _ (λ fields is. none_behind (whole_number version_field d) _ (λ version _.
    none_behind (whole_number servers_field d) _ (λ servers _. none_behind (whole_number beta_field d) _ (λ beta _.
    none_behind (course_of version d) _ (λ course _. rw (all_names kind fields, foreign fields is) refl)))))

-- a fault that prevents reading the fields is the fault of the scenario
pub unread_fails : {X : Type 0} (kind : Kind) (course_of : ℕ → Data → Option X) (fits : Membership → X → Bool)
    (o : Option Data) (fault : IoFault) → IsUnread kind o fault
    → FailsBy fault
    (option_map_or (λ d. value_or_fault (is_scenario_within fits) (scenario_of (own_names kind) course_of d)) o (Err NotJson))
unread_fails kind course_of fits o fault (inl memory) = rw memory tt
unread_fails kind course_of fits o fault (inr (inl (is, none))) = rw (is, none) refl
unread_fails kind course_of fits o fault (inr (inr (is, d, some, foreign))) =
    rw (is, some) (ap (value_or_fault (is_scenario_within fits)) (foreign_said kind course_of d foreign))
