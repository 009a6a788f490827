-- The violations of promises, and how an observation shows each of them.
use Rattle.std.specs.Prelude.{◌≡◌, ◌≢◌, ◌≤◌, ◌<◌, ◌⊎◌, ℕ, true, false, Contains, List, [], ◌∷◌, ◌++◌, Option, Some, None, length, slice_get, take}
use Rattle.mencius_base.specs.Numbers.{ServerId}
use Rattle.mencius_base.specs.declared.command.Command.{Command}
use Rattle.mencius_base.specs.declared.command.CommandId.{CommandId}
use Rattle.mencius_model.specs.KeyMap.{out, value_at}
use Rattle.mencius_log.specs.declared.observation.Answer.{Answer}
use Rattle.mencius_log.specs.declared.observation.Observation.{Observation}
use Rattle.mencius_log.specs.declared.observation.Observation.TheVariants.{Submit, Execute, Reply, Lookup, Settle, Restore}
use Rattle.mencius_judge.specs.declared.violation.Promise.{Promise}
use Rattle.mencius_judge.specs.declared.violation.Promise.TheVariants as promise
use Rattle.mencius_judge.specs.declared.violation.Violation.{Violation}
use Rattle.mencius_judge.specs.declared.violation.Violation.TheVariants as violation
use Rattle.mencius_judge.specs.Answers.{IsRight}
use Rattle.mencius_judge.specs.Log.{Log, MaySee, acknowledged, acknowledged_before, command_of, commands_of, has_id, history, reply_of}

-- the promise that a violation breaks
abbrev pub promise_of : Violation → Promise
promise_of (violation.OneCommand id) = promise.OneCommand
promise_of (violation.Submitted id) = promise.Submitted
promise_of (violation.Once server place id) = promise.Once
promise_of (violation.SameOrder server place expected found) = promise.SameOrder
promise_of (violation.RealTime server place id behind) = promise.RealTime
promise_of (violation.OneReply id expected found) = promise.OneReply
promise_of (violation.RightReply id place expected found) = promise.RightReply
promise_of (violation.RightLookup reader key from to found) = promise.RightLookup
promise_of (violation.Settled server id) = promise.Settled
promise_of (violation.Restore server source count) = promise.Restore

-- the command is at this place of some history, and a map that executes the commands before it holds this text at the
-- command's key
pub record IsAnswerAt (w : Log) (id : CommandId) (command : Command) (place : ℕ) (text : Option (List ℕ)) : Type 0 where
  pub server : ServerId
  pub front : List CommandId
  pub back : List CommandId
  pub splits : history w server ≡ front ++ id ∷ back
  pub place_is : place ≡ length front
  pub there : command_of w id ≡ Some command
  pub is : text ≡ out (commands_of w front) command

-- n is the lowest number of commands that the reader may have seen
abbrev pub IsFloor : Log → ℕ → ℕ → Type 0
IsFloor w reader n = MaySee w reader n × ((m : ℕ) → MaySee w reader m → n ≤ m)

-- the longest history has `to` commands. For each n from `from` to `to`, the key does not hold the text after the first
-- n of them
pub record IsNowhere (w : Log) (key : List ℕ) (text : Option (List ℕ)) (from to : ℕ) : Type 0 where
  pub server : ServerId
  pub size : to ≡ length (history w server)
  pub longest : (q : ServerId) → length (history w q) ≤ to
  pub other : (n : ℕ) → from ≤ n → n ≤ to → value_at key (commands_of w (take n (history w server))) ≢ text

-- the observation o after the log w shows this violation
abbrev pub IsShownBy : Log → Observation → Violation → Type 0
-- a command is submitted, but a different one was first submitted with its identity
IsShownBy w o (violation.OneCommand id) =
    (c d : Command) × (o ≡ Submit d) × (d.id ≡ id) × (command_of w id ≡ Some c) × (c ≢ d)
-- the command is executed or gets a reply, but was not submitted before
IsShownBy w o (violation.Submitted id) =
    (((p : ServerId) × (o ≡ Execute p id)) ⊎ ((x : Answer) × (o ≡ Reply id x))) × (command_of w id ≡ None)
-- the server executes the command at this place, but its history already contains the command
IsShownBy w o (violation.Once server place id) =
    (o ≡ Execute server id) × (place ≡ length (history w server)) × (has_id (history w server) id ≡ true)
-- the server executes the command `found` at this place, but some history has `expected` there
IsShownBy w o (violation.SameOrder server place expected found) =
    (o ≡ Execute server found) × (place ≡ length (history w server))
    × (q : ServerId) × (slice_get (history w q) place ≡ Some expected) × (expected ≢ found)
-- the server executes the command at this place, but does not have `behind`, which was acknowledged when the command was
-- first submitted
IsShownBy w o (violation.RealTime server place id behind) =
    (o ≡ Execute server id) × (place ≡ length (history w server)) × (has_id (acknowledged_before w id) behind ≡ true)
    × (has_id (history w server) behind ≡ false)
-- the command gets the reply `found`, but its first reply was `expected`
IsShownBy w o (violation.OneReply id expected found) =
    (o ≡ Reply id found) × (reply_of w id ≡ Some expected) × (expected ≢ found)
-- the command has the reply `found`, which is not right for the text `expected` that a map holds at this place of a
-- history
IsShownBy w o (violation.RightReply id place expected found) =
    Contains (o ∷ w) (Reply id found)
    × (command : Command) × IsAnswerAt (o ∷ w) id command place expected × (IsRight command.op expected found → ⊥)
-- the reader finds a text that the key did not hold after any number of commands from `from` to `to`. These are the
-- reader's floor and the length of the longest history
IsShownBy w o (violation.RightLookup reader key from to found) =
    (o ≡ Lookup reader key found) × IsFloor w reader from × IsNowhere w key found from to
-- the server is said to be settled, but does not have this command, which was acknowledged before
IsShownBy w o (violation.Settled server id) =
    (o ≡ Settle server) × (has_id (acknowledged w) id ≡ true) × (has_id (history w server) id ≡ false)
-- the server takes over the first `count` commands of the server `source`. But it has a history, or `source` has fewer
-- commands
IsShownBy w o (violation.Restore server source count) =
    (o ≡ Restore server source count) × ((history w server ≢ []) ⊎ (length (history w source) < count))
