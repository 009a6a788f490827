-- The options of a task, in the terms of `clap`.
use Rattle.std.specs.Prelude.{◌≡◌, Bool, Some, false, List, codes}
use Rattle.std.specs.Option.{option_map_or}
use Rattle.std.specs.Str.{bytes_eq}
use Rattle.clap.specs.Words.{App, Row, Rule, Text, app_of, first_of, new_rule}
use Rattle.clap.specs.declared.builder.action.ArgAction.TheVariants.{Set, SetTrue}
use Rattle.clap.specs.declared.builder.command.Command.{Command}
use Rattle.clap.specs.declared.builder.command.Command.TheViews.{out-Command as fields_of}

-- a flag, which is an option without a value
abbrev pub flag : Text → Rule
flag name = record (new_rule name) { long = Some name; action = Some SetTrue }

-- an option with a value
abbrev pub valued : Text → Rule
valued name = record (new_rule name) { long = Some name; action = Some Set; value_names = 1 }

-- the command is this task. None of its options counts for other tasks too
pub record IsTask (task : App) (command : Command) : Type 0 where
  pub app : app_of command ≡ task
  pub local : (fields_of command).has_globals ≡ false

-- whether a flag was given, which means that its text is "true"
abbrev pub has_flag : Text → List Row → Bool
has_flag id rows = option_map_or (λ text. bytes_eq text (codes "true")) (first_of id rows) false
