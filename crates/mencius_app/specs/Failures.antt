-- The words of a failure, the fault of the input that they explain, and the failures of a run.
use Rattle.std.specs.Prelude.{ℕ, ◌≡◌, ◌⊎◌, ◌<◌, List, codes, length, Option, IfSome, None, Ok, string_bytes}
use Rattle.mencius_io.specs.Streams.{StreamState, most_bytes}
use Rattle.mencius_io.specs.declared.failure.Failure.{Failure}
use Rattle.mencius_io.specs.declared.fault.IoFault.{IoFault}
use Rattle.mencius_io.specs.declared.fault.IoFault.TheVariants.{BadLimit, NoMemory}
use Rattle.mencius_input.specs.declared.kind.Kind.{Kind}
use Rattle.mencius_input.specs.declared.kind.Kind.TheVariants.{Replay, Run}
use Rattle.mencius_input.specs.Kinds.{kind_in}
use Rattle.mencius_input.specs.Explanations.{Explains, too_long_words}
use Rattle.mencius_input.specs.Plan.{plan}
use Rattle.mencius_input.specs.Scenario.{scenario}
use Rattle.mencius_board.specs.declared.fault.BoardFault.{BoardFault}
use Rattle.mencius_board.specs.declared.fault.BoardFault.TheVariants as board
use Rattle.mencius_app.specs.declared.run_failure.RunFailure.{RunFailure}
use Rattle.mencius_app.specs.declared.run_failure.RunFailure.TheVariants.{Failed, BoardFailed}
use Rattle.mencius_app.specs.Tasks.{IsCause, IsReadingCause, Streams, Task}
use Rattle.mencius_input.specs.declared.scenario.Scenario.{Scenario}
use Rattle.mencius_base.specs.declared.event.Event.{Event}
use Rattle.mencius_base.specs.Plan.{PlanState}

-- ---- explanations of a fault

-- a rule for the words that may explain a fault of some bytes
abbrev pub Explanation : Type 1
Explanation = IoFault → List ℕ → List ℕ → Type 0

-- a task whose faults come with words, and the rule for these words
pub record ExplainedTask : Type 1 where
  pub task : Task
  pub Tells : Explanation

-- the bytes are a scenario of the other kind
abbrev pub IsOtherKind : Kind → List ℕ → Type 0
IsOtherKind Replay bytes = (written : Scenario PlanState) × (plan bytes ≡ Ok written)
IsOtherKind Run bytes = (written : Scenario (List Event)) × (scenario bytes ≡ Ok written)

-- the words of a task that accepts only this kind, for a scenario of the other kind
abbrev pub other_kind_words : Kind → List ℕ
other_kind_words Replay = codes "this is a scenario of a run: `mencius run` takes it"
other_kind_words Run = codes "this is a scenario of events: `mencius replay` takes it"

-- the words of a task that accepts only this kind say where the fault is, or that the scenario is of the other kind
abbrev pub ExplainsAs : Kind → Explanation
ExplainsAs kind fault bytes words =
    Explains kind fault bytes words ⊎ (IsOtherKind kind bytes × (words ≡ other_kind_words kind))

-- a task that accepts only scenarios of this kind
abbrev pub explained_as : Kind → Task → ExplainedTask
explained_as kind task = record { task = task; Tells = ExplainsAs kind }

-- the words of a check explain the fault for the kind of scenario that the bytes are meant as
abbrev pub ExplainsByFields : Explanation
ExplainsByFields fault bytes words = Explains (kind_in bytes) fault bytes words

-- the fault is `BadLimit` because there are more than `most_bytes` bytes, and the words say that the input is too long.
-- Every task may fail in this way
abbrev pub IsTooLong : Explanation
IsTooLong fault bytes words = (fault ≡ BadLimit) × (most_bytes < length bytes) × (words ≡ too_long_words)

-- ---- the words of a failure

-- the words explain the fault in the reader's bytes, if these are known, by the rule `Tells` or as too many bytes
abbrev pub ExplainsIn : Explanation → Option (List ℕ) → IoFault → List ℕ → Type 0
ExplainsIn Tells known fault words = IfSome known (λ bytes. Tells fault bytes words ⊎ IsTooLong fault bytes words)

-- the words of the failure, if there are any, explain its fault
abbrev pub IsExplained : Explanation → Option (List ℕ) → Failure → Type 0
IsExplained Tells known failure =
    IfSome failure.words (λ words. ExplainsIn Tells known failure.fault (string_bytes words))

-- the failure of reading an input has a cause, and its words explain the fault
pub record FailsReading (IsBadInput : Option (List ℕ) → IoFault → Type 0) (Tells : Explanation) (old new : StreamState)
    (failure : Failure) : Type 0 where
  pub cause : IsReadingCause IsBadInput old new failure.fault
  pub words : IsExplained Tells old.bytes failure

-- the failure of a task that made no text
abbrev pub FailsToMake : ExplainedTask → StreamState → StreamState → Failure → Type 0
FailsToMake t old new failure = FailsReading t.task.IsBadInput t.Tells old new failure

-- the failure of a task has a cause, and its words explain the fault
pub record Fails (t : ExplainedTask) (s : Streams) (failure : Failure) : Type 0 where
  pub cause : IsCause t.task s failure.fault
  pub words : IsExplained t.Tells s.reader.bytes failure

-- ---- why a run failed

-- the failure of a run that ran out of memory
abbrev pub out_of_memory : RunFailure
out_of_memory = Failed (record { fault = NoMemory; words = None })

-- the failure of a run from a fault of its board. If memory ran out, the failure says so, and otherwise it says that
-- the board failed
abbrev pub failure_of_board : BoardFault → RunFailure
failure_of_board board.NoMemory = out_of_memory
failure_of_board board.NoReader = BoardFailed
failure_of_board board.ShowRefused = BoardFailed
failure_of_board board.NoWorker = BoardFailed

-- the board failed, or memory ran out. So it is not a fault of the input, the reader or the writer
abbrev pub IsOwnFailure : RunFailure → Type 0
IsOwnFailure (Failed failure) = (failure.fault ≡ NoMemory) × (failure.words ≡ None)
IsOwnFailure BoardFailed = Unit {0}

-- the failure of a run that made no text, which is a failed board or the failure of its task
abbrev pub RunFailsToMake : ExplainedTask → StreamState → StreamState → RunFailure → Type 0
RunFailsToMake t old new (Failed failure) = FailsToMake t old new failure
RunFailsToMake t old new BoardFailed = Unit {0}

-- the failure of a run, which is a failed board or the failure of its task
abbrev pub RunFails : ExplainedTask → Streams → RunFailure → Type 0
RunFails t s (Failed failure) = Fails t s failure
RunFails t s BoardFailed = Unit {0}
