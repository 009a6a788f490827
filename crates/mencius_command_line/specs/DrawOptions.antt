-- The task `draw`, its options, and the picture that they request.
use Rattle.std.specs.Prelude.{ℕ, ◌-◌, ◌^◌, Bool, true, false, List, [], ◌∷◌, Option, Some, None, Result, Ok, Err, codes}
use Rattle.clap.specs.Words.{App, Kinds, Row, Text, first_of, new_app, with_rule}
use Rattle.clap.specs.declared.error.kind.ErrorKind.TheVariants as kind
use Rattle.mencius_io.specs.declared.fault.IoFault.{IoFault}
use Rattle.mencius_format.specs.ValuesOrFaults.{value_or_fault}
use Rattle.mencius_format.specs.Words.{is_u32, number_of}
use Rattle.mencius_draw.specs.declared.options.Options.{Options}
use Rattle.mencius_draw.specs.declared.options.Scheme.{Scheme}
use Rattle.mencius_draw.specs.declared.options.Scheme.TheVariants.{Both, Light, Dark}
use Rattle.mencius_command_line.specs.Options.{flag, has_flag, valued}

-- ---- the task

-- the task `draw`, with its options
abbrev pub draw_task : App
draw_task =
    with_rule (with_rule (with_rule (with_rule (new_app (codes "draw")) (valued (codes "from"))) (valued (codes "to")))
    (flag (codes "dark"))) (flag (codes "light"))

-- ---- the requested picture

-- the greatest place that an option can name
abbrev pub last_place : ℕ
last_place = 2 ^ 32 - 1

-- the place that a word names, by the rules for numbers in events, or the fault of the word. If the word is missing, it
-- is `other`
abbrev pub place_in : ℕ → Option Text → Result ℕ IoFault
place_in other None = Ok other
place_in other (Some word) = value_or_fault is_u32 (number_of word)

-- the scheme that the two flags request. With both flags, or with neither, it is `Both`
abbrev pub scheme_by : Bool → Bool → Scheme
scheme_by true false = Dark
scheme_by false true = Light
scheme_by is_dark is_light = Both

-- the options with two places and a scheme, or none if one of the places has a fault
abbrev pub options_by : Scheme → Result ℕ IoFault → Result ℕ IoFault → Option Options
options_by scheme (Ok first) (Ok last) = Some (record { first = first; last = last; scheme = scheme })
options_by scheme first last = None

-- the first and the last event that are drawn, and the colours, or none if a place is not a number
abbrev pub options_of : List Row → Option Options
options_of rows =
    options_by (scheme_by (has_flag (codes "dark") rows) (has_flag (codes "light") rows))
    (place_in 0 (first_of (codes "from") rows)) (place_in last_place (first_of (codes "to") rows))

-- ---- the faults of its options

-- the kind of error for a place that is not a number, and no kind for any other place
abbrev pub place_faults : Result ℕ IoFault → Kinds
place_faults (Ok place) = []
place_faults (Err fault) = kind.ValueValidation ∷ []

-- the kind of error if a place in the options is not a number, and no kind otherwise
abbrev pub part_faults : Option Options → Kinds
part_faults (Some options) = []
part_faults None = kind.ValueValidation ∷ []
