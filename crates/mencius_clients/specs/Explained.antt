-- The verdict on a log, and what is true of it.
use Rattle.std.specs.Prelude.{◌≡◌, ◌<◌, ◌≤◌, ◌++◌, ℕ, Bool, true, false, List, [], ◌∷◌, Option, Some, None, length, reverse, slice_get, if◌then◌else◌, take}
use Rattle.mencius_base.specs.declared.command.Command.{Command}
use Rattle.mencius_base.specs.declared.command.CommandId.{CommandId}
use Rattle.mencius_model.specs.KeyMap.{key_of}
use Rattle.mencius_judge.specs.declared.judge.Judge.{Judge}
use Rattle.mencius_log.specs.declared.observation.Observation.{Observation}
use Rattle.mencius_log.specs.declared.observation.Observation.TheVariants.{Submit, Execute, Reply, Lookup, Tell, Settle, Restore}
use Rattle.mencius_judge.specs.declared.violation.Violation.{Violation}
use Rattle.mencius_judge.specs.Judged.{Breaks, HasSeen}
use Rattle.mencius_judge.specs.Linearization.{IsLinearization}
use Rattle.mencius_judge.specs.Log.{Log, acknowledged, command_of, has_id}
use Rattle.mencius_judge.specs.Quotes.{NumberedLog, log_of}
use Rattle.mencius_clients.specs.declared.explanation.Cause.{Cause}
use Rattle.mencius_clients.specs.declared.explanation.Cause.TheVariants.{Waiting, Configurations}
use Rattle.mencius_clients.specs.declared.explanation.Explanation.{Explanation}
use Rattle.mencius_clients.specs.declared.explanation.Explanation.TheVariants.{Explained, Unexplained, Undecided}
use Rattle.mencius_clients.specs.declared.heard.Heard.{Heard}
use Rattle.mencius_clients.specs.declared.heard.Heard.TheVariants as hearing
use Rattle.mencius_clients.specs.declared.outcome.Outcome.{Outcome}
use Rattle.mencius_clients.specs.declared.outcome.Outcome.TheVariants.{Goes}
use Rattle.mencius_clients.specs.declared.outcome.Outcome.TheVariants as outcome
use Rattle.mencius_clients.specs.ManyStates.{ComesAfterMany}

-- some order is a linearization of the log
abbrev pub IsLinearizable : Log → Type 0
IsLinearizable w = (order : List CommandId) × IsLinearization w order

-- the first `count` lines of the log have a linearization
abbrev pub IsLinearizableTo : List Observation → ℕ → Type 0
IsLinearizableTo log count = IsLinearizable (reverse (take count log))

-- the first `low` lines have a linearization, and the first `high` lines have none
pub record IsBetween (log : List Observation) (low high : ℕ) : Type 0 where
  pub rising : low < high
  pub within : high ≤ length log
  pub has : IsLinearizableTo log low
  pub lacks : IsLinearizableTo log high → ⊥

-- the observation is a submission or a reply
abbrev pub is_of_client : Observation → Bool
is_of_client (Submit command) = true
is_of_client (Execute server id) = false
is_of_client (Reply id answer) = true
is_of_client (Lookup reader key text) = false
is_of_client (Tell reader server) = false
is_of_client (Settle server) = false
is_of_client (Restore server source count) = false

-- the submissions and replies of a log
abbrev pub heard : Log → Log
heard [] = []
heard (o ∷ w) = if is_of_client o then o ∷ heard w else heard w

-- the judge has seen this log, under some numbers of its lines
abbrev pub HasHeard : Judge → Log → Type 0
HasHeard judge w = (n : NumberedLog) × HasSeen judge n × (log_of n ≡ w)

-- the log splits at this line into the later lines, the line's observation and the earlier lines, each with the newest
-- line first
pub record IsSplitAt (log : List Observation) (line : ℕ) (later : Log) (o : Observation) (earlier : Log) : Type 0 where
  pub whole : reverse log ≡ later ++ o ∷ earlier
  pub there : slice_get log line ≡ Some o
  pub first : earlier ≡ reverse (take line log)

-- the submission or reply at this line shows this violation, after the submissions and replies before it
pub record IsBroken (log : List Observation) (line : ℕ) (violation : Violation) : Type 0 where
  pub later : Log
  pub o : Observation
  pub earlier : Log
  pub splits : IsSplitAt log line later o earlier
  pub breaks : Breaks (heard earlier) o violation

-- the greatest number of commands of one key that may wait
abbrev pub most_waiting : ℕ
most_waiting = 4096

-- the last of these lines submits a command. After it, more than 4,096 commands of its key have no reply other than `failed`
pub record AreManyWaiting (u : Log) : Type 0 where
  pub command : Command
  pub earlier : Log
  pub ends : u ≡ Submit command ∷ earlier
  pub ids : List CommandId
  pub many : most_waiting < length ids
  pub once : (n m : ℕ) (id : CommandId) → slice_get ids n ≡ Some id → slice_get ids m ≡ Some id → n ≡ m
  pub each : (n : ℕ) (id : CommandId) → slice_get ids n ≡ Some id
      → (c : Command) × (command_of u id ≡ Some c) × (key_of c.op ≡ key_of command.op) × (has_id (acknowledged u) id ≡ false)

-- the search was given up at this line for this reason
pub record IsManyAt (log : List Observation) (line : ℕ) : Type 0 where
  pub later : Log
  pub o : Observation
  pub earlier : Log
  pub splits : IsSplitAt log line later o earlier
  pub many : AreManyWaiting (o ∷ earlier)

-- the line is a reply. The lines before it may have led to many different states of a key
abbrev pub ComesAfterManyAt : List Observation → ℕ → ℕ → Type 0
ComesAfterManyAt log line most =
    (o : Observation) × (slice_get log line ≡ Some o) × ComesAfterMany (reverse (take line log)) o most

-- the judge has seen the submissions and replies of the log, or one of them breaks a promise
abbrev pub IsHeard : List Observation → Heard → Type 0
IsHeard log (hearing.Kept judge) = HasHeard judge (heard (reverse log))
IsHeard log (hearing.Broken fault) = IsBroken log fault.line fault.violation

-- what is true if the search was given up for this reason. Its limit is `most`
abbrev pub IsCause : List Observation → ℕ → Cause → Type 0
IsCause log most (Waiting line) = IsManyAt log line
IsCause log most (Configurations line) = ComesAfterManyAt log line most

-- the verdict of a search with this outcome at this line. A search that goes on has none
abbrev pub IsEnd : Outcome → ℕ → Option Explanation → Type 0
IsEnd Goes line found = found ≡ None
IsEnd outcome.Unexplained line found = found ≡ Some (Unexplained line)
IsEnd outcome.Waiting line found = found ≡ Some (Undecided (Waiting line))
IsEnd outcome.Configurations line found = found ≡ Some (Undecided (Configurations line))

-- the explanation of the log, by a search with this limit, is right
abbrev pub IsExplanation : List Observation → ℕ → Explanation → Type 0
IsExplanation log most (Explained order) = IsLinearization (reverse log) order.items
IsExplanation log most (Unexplained line) = IsBetween log line (length log)
IsExplanation log most (Undecided cause) = IsCause log most cause
