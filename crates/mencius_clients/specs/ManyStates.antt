-- Orders of the commands of a key that lead to many different states. A search is given up at a reply if there are as
-- many as its limit allows.
use Rattle.std.specs.Prelude.{◌≡◌, ◌≢◌, ◌<◌, ◌≤◌, ◌⊎◌, ℕ, Bool, false, List, Some, length, slice_get}
use Rattle.mencius_base.specs.declared.command.Command.{Command}
use Rattle.mencius_base.specs.declared.command.CommandId.{CommandId}
use Rattle.mencius_model.specs.KeyMap.{key_of, value_at}
use Rattle.mencius_log.specs.declared.observation.Answer.{Answer}
use Rattle.mencius_log.specs.declared.observation.Observation.{Observation}
use Rattle.mencius_log.specs.declared.observation.Observation.TheVariants.{Reply}
use Rattle.mencius_judge.specs.Linearization.{IsLinearization}
use Rattle.mencius_judge.specs.Log.{Log, command_of, commands_of, has_id, is_failed}
use Rattle.mencius_clients.specs.KeyLogs.{log_of_key}

-- the two orders lead to different states of the key: different texts, or a command has taken effect in only one
abbrev pub LeaveDifferent : Log → List ℕ → List CommandId → List CommandId → Type 0
LeaveDifferent w key order other =
    (value_at key (commands_of w order) ≢ value_at key (commands_of w other))
    ⊎ ((id : CommandId) × (has_id order id ≢ has_id other id))

-- there are `most` orders or more, each with a mark. Orders with the same mark lead to different states, so no three
-- orders lead to the same state
pub record HasManyStates (w : Log) (key : List ℕ) (most : ℕ) : Type 0 where
  pub orders : List (List CommandId × Bool)
  pub many : most ≤ length orders
  -- each order is a linearization of what the log says of the key
  pub each : (n : ℕ) (order : List CommandId) (mark : Bool) → slice_get orders n ≡ Some (order, mark)
      → IsLinearization (log_of_key w key) order
  pub differ : (n m : ℕ) (order other : List CommandId) (mark : Bool) → n < m → slice_get orders n ≡ Some (order, mark)
      → slice_get orders m ≡ Some (other, mark) → LeaveDifferent w key order other

-- the observation is a reply other than `failed` to a submitted command. Before it, the commands of its key may have left
-- many different states
abbrev pub ComesAfterMany : Log → Observation → ℕ → Type 0
ComesAfterMany w o most =
    (id : CommandId) × (x : Answer) × (o ≡ Reply id x) × (is_failed x ≡ false)
    × (c : Command) × (command_of w id ≡ Some c) × HasManyStates w (key_of c.op) most
