-- The results of lookups.
use Rattle.std.specs.Prelude.{◌≡◌, ℕ, List, length}
use Rattle.std.specs.Option.{option_map}
use Rattle.std.specs.String.{string_bytes}
use Rattle.mencius_base.specs.declared.command.Command.{Command}
use Rattle.mencius_model.specs.KeyMap.{value_at}
use Rattle.mencius_board.specs.declared.readings.Reading.{Reading}

-- the reading has the text that these commands leave at the key, if there is one, and the number of these commands
pub record IsReading (key : List ℕ) (commands : List Command) (reading : Reading) : Type 0 where
  pub text : option_map string_bytes reading.text ≡ value_at key commands
  pub count : reading.count ≡ length commands
