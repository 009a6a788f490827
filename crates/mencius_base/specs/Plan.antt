-- The record of a plan that contracts see.
use Rattle.std.specs.Prelude.{◌≤◌, ℕ, List}
use Rattle.mencius_base.specs.Limits.{greatest_loss, most_servers, most_turns, most_workers}
use Rattle.mencius_base.specs.declared.command.Command.{Command}

-- the number of workers, the seed, the number of turns of each worker, the loss, and a list of commands for each server
pub record PlanState : Type 0 where
  pub workers : ℕ
  pub seed : ℕ
  pub turns : ℕ
  pub loss : ℕ
  pub commands : List (List Command)

-- the plan with these parts
abbrev pub plan_of : ℕ → ℕ → ℕ → ℕ → List (List Command) → PlanState
plan_of workers seed turns loss commands =
    record { workers = workers; seed = seed; turns = turns; loss = loss; commands = commands }

-- the numbers of workers, turns and lists, and the loss, are within the limits of a plan
abbrev pub AreInRange : ℕ → ℕ → ℕ → ℕ → Type 0
AreInRange workers turns loss lists =
    (1 ≤ workers) × (workers ≤ most_workers) × (turns ≤ most_turns) × (loss ≤ greatest_loss) × (lists ≤ most_servers)
