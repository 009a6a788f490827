-- A run with one worker has one text.
use Rattle.std.specs.Prelude.{ℕ, ◌≡◌, Bool, List, Option, Some, Ok}
use Rattle.mencius_base.specs.Plan.{PlanState}
use Rattle.mencius_board.specs.Boards.{BoardState}
use Rattle.mencius_board.specs.Runs.{HasRun}
use Rattle.mencius_input.specs.declared.scenario.Scenario.{Scenario}
use Rattle.mencius_input.specs.Plan.{plan}
use Rattle.mencius_app.specs.Input.{unless_long}
use Rattle.mencius_app.specs.Run.{IsRunOf}

-- all turns of a plan with one worker lead to the same cluster from any two boards with equal clusters
abbrev pub OneCluster : Type 0
OneCluster = (plan : PlanState) (old other new other_new : BoardState) → plan.workers ≡ 1 → old.cluster ≡ other.cluster
    → HasRun plan old new → HasRun plan other other_new → new.cluster ≡ other_new.cluster

-- if these bytes say a plan with one worker, any two texts of a run of these bytes with the same options are equal
abbrev pub OneText : Type 0
OneText = (bytes : List ℕ) (with_journal with_observations : Bool) (key : Option (List ℕ)) (text other : List ℕ)
    (written : Scenario PlanState) → unless_long plan bytes ≡ Ok written → written.course.workers ≡ 1
    → IsRunOf (Some bytes) with_journal with_observations key text
    → IsRunOf (Some bytes) with_journal with_observations key other → text ≡ other
