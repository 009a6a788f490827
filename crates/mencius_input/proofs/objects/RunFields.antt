-- The code builds the scenario of a run that the definitions give for the fields.
use Rattle.std.proofs.Common.{nat_le, ◌≡◌, ℕ, ◌==◌, arith, ◌&&◌, Bool, true, false, cond, List, [], ◌∷◌, length, Option, Some, None, Ok, Err, refl, ap, sym, ◌∙◌, codes, option_and_then, option_map}
use Rattle.std.specs.List.{list_all}
use Rattle.std.proofs.Math.Bool.{and-true, and-false}
use Rattle.std.proofs.lemmas.Bool.Decides.{nat_tests}
use Rattle.serde_json.specs.Data.{Data, Items, Members, object}
use Rattle.serde_json.specs.Find.{as_array, get_member}
use Rattle.mencius_base.specs.Limits.{most_servers}
use Rattle.mencius_base.specs.Plan.{PlanState, plan_of}
use Rattle.mencius_base.specs.CommandState.{CommandState}
use Rattle.mencius_io.specs.declared.fault.IoFault.TheVariants.{BadLimit}
use Rattle.mencius_format.specs.Grammar.{is_command_within}
use Rattle.mencius_format.specs.ValuesOrFaults.{value_or_fault}
use Rattle.mencius_input.specs.declared.field.Field.TheVariants.{Workers, Seed, Turns, Loss}
use Rattle.mencius_input.specs.declared.fields.FieldValues as code
use Rattle.mencius_input.specs.declared.kind.Kind.TheVariants.{Run}
use Rattle.mencius_input.specs.declared.scenario.Shared.{Shared}
use Rattle.mencius_input.specs.FieldValues.{AreFieldValues, list_kept, list_said, are_lists_within, is_plan_for, plan_or_fault, plan_said, said_of, scenario_or_fault, shared_in, is_shared_within}
use Rattle.mencius_input.specs.FieldsOf.{field_number, is_field_within, names, whole_number}
use Rattle.mencius_input.specs.Plan.{commands_read, are_numbers_within, plan_read, is_plan_within, run_names}
use Rattle.mencius_input.specs.Scenario.{all_in, all_of, has_only, scenario_of, is_scenario_within}
use Rattle.mencius_input.proofs.lists.VersionItems.{lists_said_in}
use Rattle.mencius_input.proofs.objects.SharedFields.{members_in, scenario_or_fault_is, shared_say}

-- ---- the plan in an object, by its fields

abbrev pub plan_by_fields : ℕ → Option ℕ → Option ℕ → Option ℕ → Option ℕ → Option Data → Option PlanState
plan_by_fields version ow os ot ol value =
    option_and_then (λ workers. option_and_then (λ seed. option_and_then (λ turns. option_and_then (λ loss.
    option_and_then (λ lists. option_and_then (λ commands. Some (plan_of workers seed turns loss commands))
    (all_of (commands_read version) lists)) (option_and_then as_array value)) ol) ot) os) ow

pub plan_bound : (version : ℕ) (ms : Members) → plan_read version (object ms)
    ≡ plan_by_fields version (field_number Workers (object ms)) (field_number Seed (object ms)) (field_number Turns (object ms))
    (field_number Loss (object ms)) (get_member (codes "commands") ms)
unfolding plan_read whole_number field_number
plan_bound version ms = refl

-- ---- the limits

-- whether a plan passes the tests of the code
abbrev passes_tests : ℕ → PlanState → Bool
passes_tests servers plan = is_plan_for servers plan && list_all (list_all is_command_within) plan.commands

-- numbers and lists are not within the limits if there are more lists than the greatest number of servers
too_many : (shared : Shared) (numbers : Bool) (many : ℕ) → nat_le many most_servers ≡ false
    → (is_shared_within shared && (numbers && (many == shared.servers))) ≡ false
unfolding is_field_within
too_many shared numbers many e = grind (arith, nat_tests)

by_few : (cluster own few lists : Bool) → (few ≡ false → (cluster && own) ≡ false)
    → (cluster && ((own && few) && lists)) ≡ (cluster && (own && lists))
by_few cluster own true lists h = ap (λ bit. cluster && (bit && lists)) (and-true own)
by_few true true false lists h = let none = h refl in absurd (cc)
by_few true false false lists h = refl
by_few false own false lists h = refl

same_limits : (shared : Shared) (plan : PlanState) → (is_shared_within shared && passes_tests shared.servers plan)
    ≡ (is_shared_within shared && is_plan_within (members_in shared) plan)
same_limits shared plan =
    by_few (is_shared_within shared) (are_numbers_within plan && (length plan.commands == shared.servers))
    (nat_le (length plan.commands) most_servers) (list_all (list_all is_command_within) plan.commands)
    (too_many shared (are_numbers_within plan) (length plan.commands))

-- ---- the lists

module _ (servers workers seed turns loss : ℕ) where
  abbrev of : List (List CommandState) → PlanState
  of = plan_of workers seed turns loss

  by_list : (all : List (List CommandState)) (l few : Bool) → nat_le (length all) most_servers ≡ few
      → plan_or_fault servers of (cond (l && few) (Ok all) (Err BadLimit))
      ≡ cond (is_plan_for servers (of all) && l) (Ok (of all)) (Err BadLimit)
  by_list all true true e =
      ap (λ bit. cond bit (Ok (of all)) (Err BadLimit)) (sym (and-true (is_plan_for servers (of all))))
  by_list all true false e =
      let own = are_numbers_within (of all) && (length all == servers) in
      sym (ap (λ bit. cond ((own && bit) && true) (Ok (of all)) (Err BadLimit)) e
      ∙ ap (λ bit. cond (bit && true) (Ok (of all)) (Err BadLimit)) (and-false own))
  by_list all false few e =
      ap (λ bit. cond bit (Ok (of all)) (Err BadLimit)) (sym (and-false (is_plan_for servers (of all))))

  with_all : (o : Option (List (List CommandState)))
      → plan_or_fault servers of (value_or_fault are_lists_within o) ≡ value_or_fault (passes_tests servers) (option_map of o)
  with_all None = refl
  with_all (Some all) =
      by_list all (list_all (list_all is_command_within) all) (nat_le (length all) most_servers) refl

  mapped : (o : Option (List (List CommandState)))
      → option_map of o ≡ option_and_then (λ commands. Some (of commands)) o
  mapped None = refl
  mapped (Some all) = refl

  pub mapped_items : (version : ℕ) (o : Option Items)
      → option_map of (option_and_then (all_of (commands_read version)) o)
      ≡ option_and_then
      (λ lists. option_and_then (λ commands. Some (of commands)) (all_of (commands_read version) lists)) o
  mapped_items version None = refl
  mapped_items version (Some lists) = mapped (all_of (commands_read version) lists)

plan_or_fault_is : (shared : Shared) (ow os ot ol : Option ℕ) (value : Option Data)
    → plan_said shared (ow ∷ os ∷ ot ∷ ol ∷ []) (option_map (list_said Run) value)
    ≡ value_or_fault (passes_tests shared.servers) (plan_by_fields shared.version ow os ot ol value)
plan_or_fault_is shared None os ot ol value = refl
plan_or_fault_is shared (Some workers) None ot ol value = refl
plan_or_fault_is shared (Some workers) (Some seed) None ol value = refl
plan_or_fault_is shared (Some workers) (Some seed) (Some turns) None value = refl
plan_or_fault_is shared (Some workers) (Some seed) (Some turns) (Some loss) None = refl
plan_or_fault_is shared (Some workers) (Some seed) (Some turns) (Some loss) (Some d) =
    ap (plan_or_fault shared.servers (plan_of workers seed turns loss)) (lists_said_in shared.version are_lists_within d)
    ∙ with_all shared.servers workers seed turns loss (all_in (commands_read shared.version) d)
    ∙ ap (value_or_fault (passes_tests shared.servers))
    (mapped_items shared.servers workers seed turns loss shared.version (as_array d))

-- the scenario that the code builds from the fields is the scenario in the object, or its fault
pub plan_fields_say : (f : code.FieldValues) (ms : Members) → AreFieldValues Run f ms → has_only (names Run) ms ≡ true
    → said_of (λ shared own. plan_said shared own (option_map list_kept f.list)) (shared_in f.wholes.items)
    ≡ value_or_fault (is_scenario_within is_plan_within) (scenario_of run_names plan_read (object ms))
plan_fields_say f ms h only =
    let ow = field_number Workers (object ms) in
    let os = field_number Seed (object ms) in
    let ot = field_number Turns (object ms) in
    let ol = field_number Loss (object ms) in
    let value = get_member (codes "commands") ms in
    ap (λ list. said_of (λ shared own. plan_said shared own list) (shared_in f.wholes.items)) h.list
    ∙ shared_say Run (λ shared own. plan_said shared own (option_map (list_said Run) value)) is_plan_within
    plan_read f.wholes.items (ow ∷ os ∷ ot ∷ ol ∷ []) ms h.wholes only
    (λ shared. ap (scenario_or_fault shared) (plan_or_fault_is shared ow os ot ol value)
    ∙ scenario_or_fault_is shared (passes_tests shared.servers) is_plan_within (same_limits shared)
    (plan_by_fields shared.version ow os ot ol value)
    ∙ rw (plan_bound shared.version ms) refl)
