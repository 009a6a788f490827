-- The task `trace` and its options.
use Rattle.std.specs.Prelude.{ℕ, Bool, List, [], ◌∷◌, Option, Some, None, Result, Ok, Err, codes}
use Rattle.clap.specs.Words.{App, Kinds, Row, Text, first_of, new_app, with_rule}
use Rattle.clap.specs.declared.error.kind.ErrorKind.TheVariants as kind
use Rattle.mencius_base.specs.declared.command.CommandId.{CommandId}
use Rattle.mencius_io.specs.declared.fault.IoFault.{IoFault}
use Rattle.mencius_format.specs.Grammar.{id_of, is_id_within}
use Rattle.mencius_format.specs.ValuesOrFaults.{map_ok, value_or_fault}
use Rattle.mencius_format.specs.Words.{is_u8, is_u32, number_of}
use Rattle.mencius_command_line.specs.Options.{flag, has_flag, valued}
use Rattle.mencius_command_line.specs.declared.trace_options.TraceOptions.{TraceOptions}

-- ---- the task

-- the task `trace`, with its options
abbrev pub trace_task : App
trace_task =
    with_rule (with_rule (with_rule (with_rule (new_app (codes "trace")) (flag (codes "json"))) (valued (codes "instance")))
    (valued (codes "command"))) (valued (codes "server"))

-- ---- the requested trace

-- the instance that a word names, or the fault of the word. A missing word names none
abbrev pub instance_in : Option Text → Result (Option ℕ) IoFault
instance_in None = Ok None
instance_in (Some word) = map_ok Some (value_or_fault is_u32 (number_of word))

-- the command that a word names, or the fault of the word. A missing word names none
abbrev pub command_in : Option Text → Result (Option CommandId) IoFault
command_in None = Ok None
command_in (Some word) = map_ok Some (value_or_fault is_id_within (id_of word))

-- the server that a word names, or the fault of the word. A missing word names none
abbrev pub server_in : Option Text → Result (Option ℕ) IoFault
server_in None = Ok None
server_in (Some word) = map_ok Some (value_or_fault is_u8 (number_of word))

-- the options with these values, or none if one of them has a fault
abbrev pub trace_options_by : Bool → Result (Option ℕ) IoFault → Result (Option CommandId) IoFault
    → Result (Option ℕ) IoFault → Option TraceOptions
trace_options_by is_json (Ok instance) (Ok command) (Ok server) =
    Some (record { is_json = is_json; instance = instance; command = command; server = server })
trace_options_by is_json instance command server = None

-- the form of the trace and the choice of its lines, or none if a word names no instance, command or server
abbrev pub trace_options_of : List Row → Option TraceOptions
trace_options_of rows =
    trace_options_by (has_flag (codes "json") rows) (instance_in (first_of (codes "instance") rows))
    (command_in (first_of (codes "command") rows)) (server_in (first_of (codes "server") rows))

-- ---- the faults of its options

-- the kind of error for a word that is not the value of its option, and no kind for any other word
abbrev pub word_faults : {X : Type 0} → Result X IoFault → Kinds
word_faults (Ok x) = []
word_faults (Err fault) = kind.ValueValidation ∷ []

-- the kind of error if a word is not the value of its option, and no kind otherwise
abbrev pub trace_faults : Option TraceOptions → Kinds
trace_faults (Some options) = []
trace_faults None = kind.ValueValidation ∷ []
