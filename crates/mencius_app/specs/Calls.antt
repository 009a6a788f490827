-- A call of the program, the task that its arguments request, and its possible endings.
use Rattle.std.specs.Prelude.{◌≡◌, ◌≢◌, ◌⊎◌, ◌≤◌, ◌+◌, ◌&&◌, ℕ, Bool, true, false, not, List, [], ◌++◌, Some, None, option_map, IfErr, IfOk, IfSome, codes, string_bytes}
use Rattle.std.specs.Io.KnownBytes.{Appends}
use Rattle.clap.specs.Words.{IsAmong, Text}
use Rattle.clap.specs.declared.error.kind.ErrorKind.{ErrorKind}
use Rattle.mencius_io.specs.Streams.{HasFailed, StreamState, WritesFront, most_failed_calls}
use Rattle.mencius_command_line.specs.CommandLine.{TaskState, are_texts, asked_check, asked_clients, asked_draw, asked_judge, asked_replay, asked_run, asked_trace, faults, line_of, task_in}
use Rattle.mencius_command_line.specs.Help.{shown_for}
use Rattle.mencius_command_line.specs.declared.trace_options.TraceOptions.{TraceOptions}
use Rattle.mencius_input.specs.declared.kind.Kind.TheVariants as kind
use Rattle.mencius_app.specs.Check.{explained_check}
use Rattle.mencius_app.specs.ClientJudgements.{ExplainsBadLine, IsBadLog, explained_clients}
use Rattle.mencius_app.specs.Pictures.{explained_drawing}
use Rattle.mencius_app.specs.Ending.{failure_in}
use Rattle.mencius_app.specs.Failures.{ExplainedTask, ExplainsIn, Fails, FailsToMake, explained_as}
use Rattle.mencius_app.specs.Judgements.{explained_judgement}
use Rattle.mencius_app.specs.Replay.{replay_task}
use Rattle.mencius_app.specs.Run.{run_task}
use Rattle.mencius_app.specs.Trace.{trace_task}
use Rattle.mencius_app.specs.Tasks.{AsksReader, IsCause, IsOutput, StreamUse, Streams, Task, Writes, states_of}
use Rattle.mencius_app.specs.declared.no_task.TheConstants.{NOT_TEXT}
use Rattle.mencius_trace.specs.declared.view.View.{View}
use Rattle.mencius_app.specs.declared.ending.Ending.{Ending}
use Rattle.mencius_app.specs.declared.ending.Ending.TheVariants.{Done, Refused, BadCommandLine, Failed, BoardFailed}
use Rattle.mencius_app.specs.declared.call.Begun.{Begun}
use Rattle.mencius_app.specs.declared.call.Begun.TheVariants.{Ended, Run}
use Rattle.mencius_app.specs.declared.call.Made.{Made}
use Rattle.mencius_app.specs.declared.call.Made.TheVariants as making
use Rattle.mencius_app.specs.declared.call.RunOptions.{RunOptions}

-- ---- the requested task

-- the view that the options of `trace` request
abbrev pub view_of : TraceOptions → View
view_of x = record { is_json = x.is_json; instance = x.instance; command = x.command; server = x.server }

-- the task that a command line requests. A trace or a drawing whose options have a bad value can write no text, and
-- neither can a judgement of what clients saw without valid options
abbrev pub explained_task : TaskState → ExplainedTask
explained_task (asked_replay is_strict) = explained_as kind.Replay replay_task
explained_task (asked_trace (Some options)) = explained_as kind.Replay (trace_task (view_of options))
explained_task (asked_trace None) = explained_as kind.Replay (record replay_task { IsText = λ known text is_clean. ⊥ })
explained_task (asked_draw (Some options)) = explained_drawing options
explained_task (asked_draw None) = explained_as kind.Replay (record replay_task { IsText = λ known text is_clean. ⊥ })
explained_task asked_check = explained_check
explained_task (asked_judge is_brief is_json) = explained_judgement is_brief is_json
explained_task (asked_clients (Some options)) = explained_clients options
explained_task (asked_clients None) = record {
  task = record { IsText = λ known text is_clean. ⊥; IsBadInput = λ known fault. IfSome known (λ bytes. IsBadLog bytes fault) };
  Tells = ExplainsBadLine;
}
explained_task (asked_run with_journal with_observations key) =
    explained_as kind.Run (run_task with_journal with_observations key)

abbrev pub task_of : TaskState → Task
task_of task = (explained_task task).task

-- whether the ending of a requested task reports a text that is not clean. Only a strict replay and the judgements do so
abbrev pub is_reporting : TaskState → Bool
is_reporting (asked_replay is_strict) = is_strict
is_reporting (asked_judge is_brief is_json) = true
is_reporting (asked_clients options) = true
is_reporting _ = false

-- the requested task that is a run with these options
abbrev pub task_with : RunOptions → TaskState
task_with options = asked_run options.with_journal options.with_observations (option_map string_bytes options.key)

-- whether the requested task is a run
abbrev pub is_run : TaskState → Bool
is_run (asked_run with_journal with_observations key) = true
is_run _ = false

-- the limits on the use of the reader by a requested task. For a judgement, only the failed calls are limited, because a
-- log may have any length
abbrev pub AsksReaderAs : TaskState → StreamState → StreamState → Type 0
AsksReaderAs (asked_judge is_brief is_json) old new = new.failures ≤ old.failures + most_failed_calls
AsksReaderAs _ old new = AsksReader old new

-- the limits on the use of the reader and the writer by a requested task
abbrev pub AsksAs : TaskState → Streams → Type 0
AsksAs task s =
    AsksReaderAs task s.reader s.reader_now × (s.writer_now.failures ≤ s.writer.failures + most_failed_calls)

-- ---- the arguments

-- the arguments request this text, which is the help or the version
abbrev pub IsShown : List Text → List ℕ → Type 0
IsShown arguments text =
    (error : ErrorKind) × IsAmong error (faults (line_of arguments)) × (shown_for error arguments ≡ Some text)

-- an argument is not text, or the arguments contain a mistake
abbrev pub IsMistaken : List Text → Type 0
IsMistaken arguments = (are_texts arguments ≡ false) ⊎ ((error : ErrorKind)
    × IsAmong error (faults (line_of arguments)) × (shown_for error arguments ≡ None))

-- the text begins with `error: `, like each message of `clap` for a mistake
abbrev pub IsMistakeText : List ℕ → Type 0
IsMistakeText text = (words : List ℕ) × (text ≡ codes "error: " ++ words)

-- the text that reports refused arguments. It is a fixed text if an argument is not text, and otherwise it begins like
-- a message of `clap`
abbrev pub IsComplaint : List Text → List ℕ → Type 0
IsComplaint arguments text =
    ((are_texts arguments ≡ false) × (text ≡ NOT_TEXT.now)) ⊎ ((are_texts arguments ≡ true) × IsMistakeText text)

-- the whole text was written, or the writer failed after a prefix of it
abbrev pub WritesOrFails : StreamState → StreamState → List ℕ → Type 0
WritesOrFails old new text =
    WritesFront old.bytes new.bytes text × (Appends old.bytes new.bytes text ⊎ HasFailed old.failures new.failures)

-- a text that reports refused arguments was written, or the writer failed after a prefix of it
abbrev pub Complains : List Text → StreamState → StreamState → Type 0
Complains arguments old new = (text : List ℕ) × IsComplaint arguments text × WritesOrFails old new text

-- the call ended with refused arguments, or the command line has a mistake or requests help or the version. Such a call
-- reads no input
abbrev pub IsUnread : List Text → Ending → Type 0
IsUnread arguments ending = (ending ≡ BadCommandLine) ⊎ (faults (line_of arguments) ≢ [])

-- ---- the call

-- a call as a task, which either prints the help or the version, or does the requested task
abbrev pub call_task : List Text → Task
call_task arguments = record {
  IsText = λ known text is_clean. IsShown arguments text
      ⊎ ((faults (line_of arguments) ≡ []) × (task_of (task_in (line_of arguments))).IsText known text is_clean);
  IsBadInput = λ known fault. (faults (line_of arguments) ≡ [])
      × (task_of (task_in (line_of arguments))).IsBadInput known fault;
}

-- the whole text of the task was written, and `is_refused` says whether the ending reports that the text is not clean
abbrev pub DidTask : TaskState → Streams → Bool → Type 0
DidTask task s is_refused =
    (is_clean : Bool) × Writes (task_of task) s is_clean × (is_refused ≡ (is_reporting task && not is_clean))

-- the help or the version was written as requested, or the requested task was done. `is_refused` says whether the
-- ending reports a text that is not clean
abbrev pub Did : List Text → Streams → Bool → Type 0
Did arguments s is_refused =
    ((is_refused ≡ false) × (text : List ℕ) × IsShown arguments text × Appends s.writer.bytes s.writer_now.bytes text)
    ⊎ ((faults (line_of arguments) ≡ []) × DidTask (task_in (line_of arguments)) s is_refused)

-- a call with these arguments and streams may end with this ending
pub record EndsCall (arguments : List Text) (s : Streams) (ending : Ending) : Type 0 where
  -- the call wrote everything that was requested
  pub done : ending ≡ Done → Did arguments s false
  pub refused : ending ≡ Refused → Did arguments s true
  -- the call ends with `BadCommandLine` if an argument is not text, and only for arguments that are not text or have a
  -- mistake
  pub not_text : are_texts arguments ≡ false → ending ≡ BadCommandLine
  pub mistaken : ending ≡ BadCommandLine → IsMistaken arguments
  -- the cause of the failure, and the words that explain the fault
  pub cause : IfSome (failure_in ending) (λ failure. IsCause (call_task arguments) s failure.fault)
  pub words : IfSome (failure_in ending) (λ failure. IfSome failure.words (λ words.
      (faults (line_of arguments) ≡ [])
      × ExplainsIn (explained_task (task_in (line_of arguments))).Tells s.reader.bytes failure.fault (string_bytes words)))
  pub board : ending ≡ BoardFailed → (faults (line_of arguments) ≡ []) × (is_run (task_in (line_of arguments)) ≡ true)
  -- the limits on the use of the reader and the writer
  pub asked : AsksAs (task_in (line_of arguments)) s

-- the three streams of a call
pub record CallStreams : Type 1 where
  pub source : StreamUse
  pub sink : StreamUse
  pub errors : StreamUse

abbrev pub call_streams : StreamUse → StreamUse → StreamUse → CallStreams
call_streams source sink errors = record { source = source; sink = sink; errors = errors }

-- a call of the program with these arguments and streams may end with this ending
pub record IsProgramCall (arguments : List Text) (s : CallStreams) (ending : Ending) : Type 0 where
  pub call : EndsCall arguments (states_of s.source s.sink) ending
  pub unread : IsUnread arguments ending → s.source.new ≡ s.source.old
  pub unwritten : (ending ≡ BadCommandLine) ⊎ (ending ≡ BoardFailed) → s.sink.new ≡ s.sink.old
  -- only refused arguments are reported here. `end` reports the fault of a call
  pub complaint : ending ≡ BadCommandLine
      → Complains arguments (s.errors.state s.errors.old) (s.errors.state s.errors.new)
  pub quiet : ending ≢ BadCommandLine → s.errors.new ≡ s.errors.old

-- ---- parts of a call

-- the arguments are texts without a mistake, and they request this task
abbrev pub AsksFor : List Text → TaskState → Type 0
AsksFor arguments task =
    (are_texts arguments ≡ true) × (faults (line_of arguments) ≡ []) × (task_in (line_of arguments) ≡ task)

-- a call that does this task may end with this ending
abbrev pub EndsTask : TaskState → Streams → Ending → Type 0
EndsTask task s Done = DidTask task s false
EndsTask task s Refused = DidTask task s true
EndsTask task s BadCommandLine = ⊥
EndsTask task s (Failed failure) = Fails (explained_task task) s failure
EndsTask task s BoardFailed = is_run task ≡ true

-- the text of a task was made or could not be made. If the task is a run, nothing was read yet
abbrev pub MakesText : TaskState → StreamUse → Made → Type 0
MakesText task source (making.Text made) =
    IfOk made (IsOutput (task_of task) (source.state source.old).bytes)
    × IfErr made (FailsToMake (explained_task task) (source.state source.old) (source.state source.new))
    × AsksReaderAs task (source.state source.old) (source.state source.new)
MakesText task source (making.Run options) = (task ≡ task_with options) × (source.new ≡ source.old)

-- the call did this task without a board. If the task is a run, the streams were not used yet
abbrev pub BeginsTask : TaskState → StreamUse → StreamUse → Begun → Type 0
BeginsTask task source sink (Ended ending) =
    EndsTask task (states_of source sink) ending × AsksAs task (states_of source sink) × (ending ≢ BoardFailed)
BeginsTask task source sink (Run options) =
    (task ≡ task_with options) × (source.new ≡ source.old) × (sink.new ≡ sink.old)

-- the call has ended without a board. If the arguments request a run, the streams were not used yet
abbrev pub BeginsCall : List Text → CallStreams → Begun → Type 0
BeginsCall arguments s (Ended ending) = IsProgramCall arguments s ending × (ending ≢ BoardFailed)
BeginsCall arguments s (Run options) =
    AsksFor arguments (task_with options)
    × (s.source.new ≡ s.source.old) × (s.sink.new ≡ s.sink.old) × (s.errors.new ≡ s.errors.old)
