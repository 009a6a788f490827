-- Linearizability is local: it can be decided for each key alone.
use Rattle.std.specs.Prelude.{ℕ, ◌≤◌, List, [], ◌∷◌, IsTrue, is_some, length, if◌then◌else◌, ◌↔◌}
use Rattle.std.specs.List.{All, AllPairs}
use Rattle.mencius_base.specs.declared.command.CommandId.{CommandId}
use Rattle.mencius_judge.specs.Linearization.{IsLinearization}
use Rattle.mencius_judge.specs.Log.{Log, acknowledged, command_of, has_id}
use Rattle.mencius_clients.specs.declared.timed_command.TimedCommand.{TimedCommand}
use Rattle.mencius_clients.specs.Explained.{IsLinearizable}
use Rattle.mencius_clients.specs.KeyLogs.{log_of_key, order_of_key}

-- ---- one key

-- a log has a linearization exactly if the log of each key has one
abbrev pub IsLocal : Type 0
IsLocal = (w : Log) → IsLinearizable w ↔ ((key : List ℕ) → IsLinearizable (log_of_key w key))

-- the commands of a key, in the order of a linearization, are a linearization of the log of the key
abbrev pub LinearizesEachKey : Type 0
LinearizesEachKey =
    (w : Log) (order : List CommandId) → IsLinearization w order
    → (key : List ℕ) → IsLinearization (log_of_key w key) (order_of_key w key order)

-- ---- moments

-- the number of lines before the first submission of a command
abbrev pub submitted_at : Log → CommandId → ℕ
submitted_at [] id = 0
submitted_at (o ∷ w) id = if is_some (command_of w id) then submitted_at w id else length w

-- the number of lines before the first reply other than `failed` to a command
abbrev pub acknowledged_at : Log → CommandId → ℕ
acknowledged_at [] id = 0
acknowledged_at (o ∷ w) id = if has_id (acknowledged w) id then acknowledged_at w id else length w

-- the command was submitted by its moment, and acknowledged no earlier, if it was acknowledged at all
pub record IsTimed (w : Log) (c : TimedCommand) : Type 0 where
  pub after : submitted_at w c.id ≤ c.moment
  pub before : IsTrue (has_id (acknowledged w) c.id) → c.moment ≤ acknowledged_at w c.id

-- the moments do not fall
abbrev pub AreRising : List TimedCommand → Type 0
AreRising commands = AllPairs (λ (c d : TimedCommand). c.moment ≤ d.moment) commands

abbrev pub ids_of : List TimedCommand → List CommandId
ids_of [] = []
ids_of (c ∷ cs) = c.id ∷ ids_of cs

-- the commands of all keys, sorted by moments, are a linearization of the log if those of each key are a linearization of
-- the log of the key. Commands with the same moment may have any order, if it keeps the order of each key
abbrev pub LinearizesByMoments : Type 0
LinearizesByMoments =
    (w : Log) (commands : List TimedCommand) → AreRising commands → All (IsTimed w) commands
    → ((key : List ℕ) → IsLinearization (log_of_key w key) (order_of_key w key (ids_of commands)))
    → IsLinearization w (ids_of commands)
