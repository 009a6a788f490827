-- The scenario of a run in some bytes. It describes a cluster, and the plan that workers follow on it.
use Rattle.std.specs.Prelude.{ℕ, ◌==◌, ◌&&◌, List, [], ◌∷◌, length, Bool, Option, Some, option_and_then, Result}
use Rattle.std.specs.List.{list_all}
use Rattle.serde_json.specs.Data.{Data}
use Rattle.serde_json.specs.Find.{as_array, get}
use Rattle.mencius_base.specs.Members.{Membership}
use Rattle.mencius_base.specs.Plan.{PlanState}
use Rattle.mencius_base.specs.CommandState.{CommandState}
use Rattle.mencius_io.specs.declared.fault.IoFault.{IoFault}
use Rattle.mencius_input.specs.declared.scenario.Scenario.{Scenario}
use Rattle.mencius_format.specs.ValuesOrFaults.{value_or_fault}
use Rattle.mencius_format.specs.Grammar.{command_of, is_command_within}
use Rattle.mencius_input.specs.FieldsOf.{commands_name, is_number_within, loss_field, seed_field, turns_field, whole_number, workers_field}
use Rattle.mencius_input.specs.Scenario.{◌>>=◌, all_in, all_of, said_by, scenario_in}

-- ---- the shape

-- the commands in a list of texts, by the rules of a version
abbrev pub commands_read : ℕ → Data → Option (List CommandState)
commands_read version d = all_in (said_by (command_of version)) d

-- the plan, from the fields that only a run has
unfoldable pub plan_read : ℕ → Data → Option PlanState
plan_read version d = do
  workers ← whole_number workers_field d
  seed ← whole_number seed_field d
  turns ← whole_number turns_field d
  loss ← whole_number loss_field d
  lists ← option_and_then as_array (get commands_name d)
  commands ← all_of (commands_read version) lists
  Some (record { workers = workers; seed = seed; turns = turns; loss = loss; commands = commands })

-- the names of the fields that only a scenario of `run` has
abbrev pub run_names : List (List ℕ)
run_names = workers_field.name ∷ seed_field.name ∷ turns_field.name ∷ loss_field.name ∷ commands_name ∷ []

-- ---- the limits

-- whether the numbers of a plan are within their limits
abbrev pub are_numbers_within : PlanState → Bool
are_numbers_within plan =
    is_number_within workers_field plan.workers && is_number_within seed_field plan.seed && is_number_within turns_field plan.turns
    && is_number_within loss_field plan.loss

-- whether a plan is within the limits, and has one list for each server
abbrev pub is_plan_within : Membership → PlanState → Bool
is_plan_within members plan =
    (are_numbers_within plan && (length plan.commands == members.count)) && list_all (list_all is_command_within) plan.commands

-- the command in an item of a list of commands, or its fault in a version
abbrev pub command_said : ℕ → Data → Result CommandState IoFault
command_said version d = value_or_fault is_command_within (said_by (command_of version) d)

-- ---- the bytes

-- the scenario of `run` in some bytes, or the fault that they have
abbrev pub plan : List ℕ → Result (Scenario PlanState) IoFault
plan bytes = scenario_in run_names plan_read is_plan_within bytes
