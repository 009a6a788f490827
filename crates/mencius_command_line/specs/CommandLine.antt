-- The command line, in the terms of `clap`. It consists of the program, its tasks and their options.
use Rattle.std.specs.Prelude.{◌&&◌, ℕ, Bool, true, false, List, [], ◌∷◌, ◌++◌, Option, Some, None, Vec, codes, map, option_map, string_bytes, if◌then◌else◌}
use Rattle.std.specs.List.{list_all}
use Rattle.std.specs.Str.{bytes_eq, is_utf8}
use Rattle.std.specs.Str.Lossy.{utf8_lossy}
use Rattle.clap.specs.Kinds.{or_else}
use Rattle.clap.specs.Words.{App, Kinds, Row, Text, fault_of, first_of, new_app, subcommand_of, with_rule, with_subcommand}
use Rattle.clap.specs.declared.error.kind.ErrorKind.TheVariants as kind
use Rattle.mencius_base.specs.Command.{is_key_length, is_name}
use Rattle.mencius_draw.specs.declared.options.Options.{Options}
use Rattle.mencius_command_line.specs.ClientOptions.{client_faults, client_options_of, has_client_option}
use Rattle.mencius_command_line.specs.DrawOptions.{draw_task, options_of, part_faults}
use Rattle.mencius_command_line.specs.Options.{flag, has_flag, valued}
use Rattle.mencius_command_line.specs.TraceOptions.{trace_faults, trace_options_of, trace_task}
use Rattle.mencius_command_line.specs.declared.client_options.ClientOptions.{ClientOptions}
use Rattle.mencius_command_line.specs.declared.line.Task.{Task}
use Rattle.mencius_command_line.specs.declared.line.Task.TheVariants as task
use Rattle.mencius_command_line.specs.declared.trace_options.TraceOptions.{TraceOptions}

-- ---- the program

-- the program without its tasks. It has a version, and a command line without a task is refused
abbrev pub without_tasks : App
without_tasks =
    let named = new_app (codes "mencius") in
    record named { top = record named.top { subcommand_required = true; has_version = true } }

-- the task `replay`, with its option
abbrev pub replay_task : App
replay_task = with_rule (new_app (codes "replay")) (flag (codes "strict"))

-- the task `check`, which has no options
abbrev pub check_task : App
check_task = new_app (codes "check")

-- the task `judge`, with its options
abbrev pub judge_task : App
judge_task =
    with_rule (with_rule (with_rule (with_rule (with_rule (new_app (codes "judge")) (flag (codes "brief")))
    (flag (codes "json"))) (flag (codes "clients"))) (valued (codes "most"))) (flag (codes "order"))

-- the task `run`, with its options
abbrev pub run_task : App
run_task =
    with_rule (with_rule (with_rule (new_app (codes "run")) (flag (codes "journal"))) (flag (codes "observations")))
    (valued (codes "lookup"))

-- the program with the tasks `replay`, `trace`, `draw` and `check`
abbrev pub with_replays : App
with_replays =
    with_subcommand (with_subcommand (with_subcommand (with_subcommand without_tasks replay_task.top) trace_task.top)
    draw_task.top) check_task.top

-- the program with all its tasks
abbrev pub program : App
program = with_subcommand (with_subcommand with_replays judge_task.top) run_task.top

-- ---- the requested task

-- the task that a command line requests, with its options. `choice` is `None` if a word in the options names no
-- instance, command or server. `part` is `None` if a place in the options is not a number. The options of
-- `asked_clients` are `None` if they do not fit together or one is not a number. `key` is `None` if no key
-- is looked up
pub data TaskState : Type 0 where
  asked_replay : (is_strict : Bool) → TaskState
  asked_trace : (choice : Option TraceOptions) → TaskState
  asked_draw : (part : Option Options) → TaskState
  asked_check : TaskState
  asked_judge : (is_brief is_json : Bool) → TaskState
  asked_clients : (options : Option ClientOptions) → TaskState
  asked_run : (with_journal with_observations : Bool) (key : Option Text) → TaskState

-- the judgement that the options of `judge` request
abbrev pub judge_by : List Row → TaskState
judge_by rows =
    if has_client_option rows
    then asked_clients (client_options_of rows)
    else asked_judge (has_flag (codes "brief") rows) (has_flag (codes "json") rows)

-- the task with a name, with the options that were found for it. An unknown name counts as `replay`, and so does a
-- missing task
abbrev pub task_by_name : Option (Text × List Row) → TaskState
task_by_name None = asked_replay false
task_by_name (Some (name, rows)) =
    if bytes_eq name (codes "run")
    then asked_run (has_flag (codes "journal") rows) (has_flag (codes "observations") rows) (first_of (codes "lookup") rows)
    else if bytes_eq name (codes "trace") then asked_trace (trace_options_of rows)
    else if bytes_eq name (codes "draw") then asked_draw (options_of rows)
    else if bytes_eq name (codes "check") then asked_check
    else if bytes_eq name (codes "judge") then judge_by rows
    else asked_replay (has_flag (codes "strict") rows)

-- the words with each `--lookup` joined to the word after it, as `--lookup=KEY`, because a KEY may begin with a hyphen
abbrev pub with_joined_key : List Text → List Text
with_joined_key (word ∷ key ∷ words) =
    if bytes_eq word (codes "--lookup") then (word ++ 61 ∷ key) ∷ with_joined_key words
    else word ∷ with_joined_key (key ∷ words)
with_joined_key words = words

-- the words as `clap` reads them. The first word is the program's name, which may be any word and is never joined
abbrev pub words_read : List Text → List Text
words_read [] = []
words_read (name ∷ words) = name ∷ with_joined_key words

-- the task that a command line requests
abbrev pub task_in : List Text → TaskState
task_in words = task_by_name (subcommand_of program (words_read words))

-- the record of a task of the code
abbrev pub task_state : Task → TaskState
task_state (task.Replay is_strict) = asked_replay is_strict
task_state (task.Trace options) = asked_trace (Some options)
task_state (task.Draw options) = asked_draw (Some options)
task_state task.Check = asked_check
task_state (task.Judge is_brief is_json) = asked_judge is_brief is_json
task_state (task.Clients options) = asked_clients (Some options)
task_state (task.Run with_journal with_observations key) =
    asked_run with_journal with_observations (option_map string_bytes key)

-- ---- the faults of a command line

-- whether a word is a key, which has 1 to 64 bytes that a name may contain
abbrev pub is_key : Text → Bool
is_key word = is_name word && is_key_length word

-- the fault of a word that is not a key, or no fault if such a word is missing
abbrev pub bad_key_faults : Option Text → Kinds
bad_key_faults None = []
bad_key_faults (Some key) = kind.ValueValidation ∷ []

-- the faults of the values of a task's options
abbrev pub value_faults : TaskState → Kinds
value_faults (asked_replay is_strict) = []
value_faults (asked_trace choice) = trace_faults choice
value_faults (asked_draw part) = part_faults part
value_faults asked_check = []
value_faults (asked_judge is_brief is_json) = []
value_faults (asked_clients options) = client_faults options
value_faults (asked_run with_journal with_observations None) = []
value_faults (asked_run with_journal with_observations (Some key)) = bad_key_faults (if is_key key then None else Some key)

-- the faults that `clap` finds in the words. If it finds none, these are the faults of the options' values
abbrev pub faults : List Text → Kinds
faults words = or_else (fault_of program (words_read words)) (value_faults (task_in words))

-- ---- arguments, which are bytes

-- the bytes of each argument
abbrev pub bytes_of : {Z : Type 0} → List (Vec ℕ Z) → List Text
bytes_of arguments = map (λ a. a.items) arguments

-- the text of each argument, which is the argument itself if it is UTF-8
abbrev pub lossy_of : {Z : Type 0} → List (Vec ℕ Z) → List Text
lossy_of arguments = map (λ a. utf8_lossy a.items) arguments

-- whether all arguments are UTF-8
abbrev pub are_texts : List Text → Bool
are_texts arguments = list_all is_utf8 arguments

-- the words of the command line, which are the name that usage shows and the arguments
abbrev pub line_of : List Text → List Text
line_of arguments = codes "mencius" ∷ arguments
