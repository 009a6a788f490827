-- The scenarios that a check accepts, and the line that it prints.
use Rattle.std.specs.Prelude.{ℕ, ◌≡◌, true, List, ◌∷◌, ◌++◌, codes, decimal, length, Option, Result}
use Rattle.std.specs.List.{flat_map}
use Rattle.mencius_base.specs.CommandState.{CommandState}
use Rattle.mencius_io.specs.declared.fault.IoFault.{IoFault}
use Rattle.mencius_input.specs.declared.kind.Kind.{Kind}
use Rattle.mencius_input.specs.declared.kind.Kind.TheVariants as kind
use Rattle.mencius_format.specs.ValuesOrFaults.{map_ok}
use Rattle.mencius_input.specs.Kinds.{kind_in}
use Rattle.mencius_input.specs.Plan.{plan}
use Rattle.mencius_input.specs.Scenario.{scenario}
use Rattle.mencius_app.specs.Failures.{ExplainedTask, ExplainsByFields}
use Rattle.mencius_app.specs.Input.{HasFault, Says, unless_long}
use Rattle.mencius_app.specs.Tasks.{Task}
use Rattle.mencius_input.specs.declared.scenario.Scenario.{Scenario}
use Rattle.mencius_base.specs.declared.event.Event.{Event}
use Rattle.mencius_base.specs.Plan.{PlanState}

-- a scenario of `replay`, or of `run`
pub data EitherScenario : Type 0 where
  replay_scenario : (written : Scenario (List Event)) → EitherScenario
  run_scenario : (written : Scenario PlanState) → EitherScenario

-- the result of reading bytes as a scenario of this kind
abbrev pub scenario_of_kind : Kind → List ℕ → Result EitherScenario IoFault
scenario_of_kind kind.Replay bytes = map_ok replay_scenario (scenario bytes)
scenario_of_kind kind.Run bytes = map_ok run_scenario (plan bytes)

-- the result of reading bytes as a scenario of the kind that they are meant as
abbrev pub either_scenario : List ℕ → Result EitherScenario IoFault
either_scenario bytes = scenario_of_kind (kind_in bytes) bytes

-- ---- the line

-- the line for a scenario of `replay`, with the numbers of servers and events
abbrev pub replay_line : Scenario (List Event) → List ℕ
replay_line x = codes "ok servers " ++ decimal x.members.count ++ codes " events " ++ decimal (length x.course) ++ codes "\n"

-- a space and the number of commands in a list
abbrev pub count_text : List CommandState → List ℕ
count_text commands = 32 ∷ decimal (length commands)

-- the line for a scenario of `run`, with the numbers of servers, workers and turns, and of commands in each list
abbrev pub run_line : Scenario PlanState → List ℕ
run_line x =
    codes "ok servers " ++ decimal x.members.count ++ codes " workers " ++ decimal x.course.workers
    ++ codes " turns " ++ decimal x.course.turns ++ codes " commands" ++ flat_map count_text x.course.commands ++ codes "\n"

-- the line for a scenario of either kind
abbrev pub ok_line : EitherScenario → List ℕ
ok_line (replay_scenario written) = replay_line written
ok_line (run_scenario written) = run_line written

-- ---- the whole

-- the text is the line of a scenario. If the reader's bytes are known, they are this scenario
pub record IsCheckOf (known : Option (List ℕ)) (text : List ℕ) : Type 0 where
  pub written : EitherScenario
  pub says : Says (unless_long either_scenario) known written
  pub is : text ≡ ok_line written

-- the task of checking, whose text is always clean
abbrev pub check_task : Task
check_task = record {
  IsText = λ known text is_clean. IsCheckOf known text × (is_clean ≡ true);
  IsBadInput = HasFault (unless_long either_scenario);
}

abbrev pub explained_check : ExplainedTask
explained_check = record { task = check_task; Tells = ExplainsByFields }
