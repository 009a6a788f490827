-- The options of the task `judge` for a log that clients saw.
use Rattle.std.specs.Prelude.{ℕ, ◌||◌, Bool, if◌then◌else◌, List, [], ◌∷◌, Option, Some, None, Result, Ok, Err, codes, is_some}
use Rattle.clap.specs.Words.{Kinds, Row, Text, first_of}
use Rattle.clap.specs.declared.error.kind.ErrorKind.TheVariants as kind
use Rattle.mencius_io.specs.declared.fault.IoFault.{IoFault}
use Rattle.mencius_format.specs.ValuesOrFaults.{value_or_fault}
use Rattle.mencius_format.specs.Words.{is_u32, number_of}
use Rattle.mencius_command_line.specs.Options.{has_flag}
use Rattle.mencius_command_line.specs.declared.client_options.ClientOptions.{ClientOptions}

-- ---- the requested judgement

-- one of these options was given
abbrev pub has_client_option : List Row → Bool
has_client_option rows =
    has_flag (codes "clients") rows || (has_flag (codes "order") rows || is_some (first_of (codes "most") rows))

-- the number of configurations without `--most`
abbrev pub default_most : ℕ
default_most = 100000

-- the number that a word names, by the rules for numbers in events, or the fault of the word. If the word is missing,
-- it is the default
abbrev pub most_in : Option Text → Result ℕ IoFault
most_in None = Ok default_most
most_in (Some word) = value_or_fault is_u32 (number_of word)

-- the options with this number, or none if the number has a fault
abbrev pub client_options_by : List Row → Result ℕ IoFault → Option ClientOptions
client_options_by rows (Ok most) = Some (record {
  most = most;
  with_order = has_flag (codes "order") rows;
  is_brief = has_flag (codes "brief") rows;
  is_json = has_flag (codes "json") rows;
})
client_options_by rows (Err fault) = None

-- the options of a judgement of what clients saw, or none without `--clients`, or if N is not a number
abbrev pub client_options_of : List Row → Option ClientOptions
client_options_of rows =
    if has_flag (codes "clients") rows then client_options_by rows (most_in (first_of (codes "most") rows)) else None

-- ---- their faults

-- the kind of error for a word that is not a number, and no kind for a number
abbrev pub most_faults : Result ℕ IoFault → Kinds
most_faults (Ok most) = []
most_faults (Err fault) = kind.ValueValidation ∷ []

-- the kind of error for options that are none, and no kind for any other options
abbrev pub client_faults : Option ClientOptions → Kinds
client_faults (Some options) = []
client_faults None = kind.ValueValidation ∷ []
