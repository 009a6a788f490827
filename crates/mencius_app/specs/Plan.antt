-- The clusters that may result from the plan of a scenario.
use Rattle.std.specs.Prelude.{ℕ, ◌≡◌, List, fold}
use Rattle.mencius_base.specs.declared.command.Command.{Command}
use Rattle.mencius_board.specs.Boards.{BoardState, new_board}
use Rattle.mencius_board.specs.Marks.{Origin}
use Rattle.mencius_board.specs.Runs.{HasRun}
use Rattle.mencius_base.specs.Plan.{PlanState}
use Rattle.mencius_cluster.specs.Salt.{salt_after}
use Rattle.mencius_cluster.specs.State.{ClusterState, new_cluster}
use Rattle.mencius_input.specs.declared.scenario.Scenario.{Scenario}

-- the salt of a cluster for the commands of these lists, one list after the other
abbrev pub salt_of : List (List Command) → ℕ
salt_of lists = fold salt_after 0 lists

-- the cluster of a run before any turn, with the salt of the plan's commands
abbrev pub cluster_of_plan : Scenario PlanState → ClusterState
cluster_of_plan said = new_cluster said.members (salt_of said.course.commands)

-- the cluster results from all turns of the plan, taken in some order on a new board over the plan's first cluster
pub record IsOutcome (said : Scenario PlanState) (cluster : ClusterState) : Type 0 where
  pub book : Origin
  pub board : BoardState
  pub ran : HasRun said.course (new_board book (cluster_of_plan said) 1) board
  pub is : cluster ≡ board.cluster
