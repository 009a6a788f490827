-- When an order of commands is a linearization of a log.
use Rattle.std.specs.Prelude.{◌≡◌, ℕ, List, ◌∷◌, ◌++◌, Some, IsSome, IsTrue, Contains, slice_get, length}
use Rattle.mencius_base.specs.Numbers.{ServerId}
use Rattle.mencius_base.specs.declared.command.Command.{Command}
use Rattle.mencius_base.specs.declared.command.CommandId.{CommandId}
use Rattle.mencius_model.specs.KeyMap.{out}
use Rattle.mencius_judge.specs.declared.counts.Counts.{Counts}
use Rattle.mencius_log.specs.declared.observation.Answer.{Answer}
use Rattle.mencius_log.specs.declared.observation.Observation.TheVariants.{Reply}
use Rattle.mencius_judge.specs.Counts.{AreCounts}
use Rattle.mencius_judge.specs.Answers.{IsRight}
use Rattle.mencius_judge.specs.Log.{Log, acknowledged, acknowledged_before, command_of, commands_of, has_id, history}
use Rattle.mencius_judge.specs.Promises.{KeepsAll, WasJudged}

-- the order is a linearization (Herlihy and Wing) of the commands and replies of the log, on one map. A reply `failed`
-- says only that its command changed nothing, so such a command may be missing
pub record IsLinearization (w : Log) (order : List CommandId) : Type 0 where
  -- no command appears twice
  pub once : (place other : ℕ) (id : CommandId) → slice_get order place ≡ Some id → slice_get order other ≡ Some id
      → place ≡ other
  -- each command of the order was submitted
  pub submitted : (id : CommandId) → IsTrue (has_id order id) → IsSome (command_of w id)
  -- each command that has a reply other than `failed` is in the order
  pub complete : (id : CommandId) → IsTrue (has_id (acknowledged w) id) → IsTrue (has_id order id)
  -- if a command was acknowledged when another one was first submitted, it comes before the other one
  pub real_time : (front back : List CommandId) (id replied : CommandId) → order ≡ front ++ id ∷ back
      → IsTrue (has_id (acknowledged_before w id) replied) → IsTrue (has_id front replied)
  -- each reply is right for the text that the map holds after it has executed the commands before, one after the other
  pub answers : (front back : List CommandId) (id : CommandId) (command : Command) (reply : Answer)
      → order ≡ front ++ id ∷ back → command_of w id ≡ Some command → Contains w (Reply id reply)
      → IsRight command.op (out (commands_of w front) command) reply

-- if a log keeps all promises and was judged, each longest history is a linearization of the log
abbrev pub LongestHistoryLinearizes : Type 0
LongestHistoryLinearizes =
    (w : Log) (c : Counts) → KeepsAll w → AreCounts w c → WasJudged w
    → (p : ServerId) → length (history w p) ≡ c.executed → IsLinearization w (history w p)
