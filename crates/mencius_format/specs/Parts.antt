-- The names of the words of an event or a command for a person.
use Rattle.std.specs.Prelude.{ℕ, List, codes}
use Rattle.mencius_format.specs.declared.part.Part.{Part}
use Rattle.mencius_format.specs.declared.part.Part.TheVariants.{Server, Suspected, Message, Id, Key, Text, NamedText}

-- the name of a word for a person, by its kind
abbrev pub part_name : Part → List ℕ
part_name Server = codes "the server"
part_name Suspected = codes "the suspected server"
part_name Message = codes "the message number"
part_name Id = codes "the command ID"
part_name Key = codes "the key"
part_name Text = codes "the text"
part_name (NamedText name) = name.now
