-- The content of a list that is read before the version is known. It is the content in the newest version, together
-- with the lowest version that allows the list. Only private clauses use these definitions.
use Rattle.std.specs.Prelude.{ℕ, max, List, Option, option_map, unwrap_or, Result, Err, if◌then◌else◌}
use Rattle.serde_json.specs.Data.{Data, Items, no_items, item}
use Rattle.serde_json.specs.Find.{as_array, as_str}
use Rattle.mencius_io.specs.declared.fault.IoFault.{IoFault}
use Rattle.mencius_io.specs.declared.fault.IoFault.TheVariants.{BadShape}
use Rattle.mencius_input.specs.declared.newest.Newest.{Newest}
use Rattle.mencius_format.specs.TextVersions.{command_version, event_version}
use Rattle.mencius_format.specs.Versions.{first_version, may_stand_in}
use Rattle.mencius_format.specs.Words.{words}

-- ---- the version that content needs

-- the version that a text needs, by its words. A value that is not a text needs the first version
abbrev pub text_version : (List (List ℕ) → ℕ) → Option (List ℕ) → ℕ
text_version needed text = unwrap_or (option_map (λ bytes. needed (words bytes)) text) first_version

-- the version that an item needs as a command
abbrev pub command_item_version : Data → ℕ
command_item_version d = text_version command_version (as_str d)

-- the version that an item needs as an event
abbrev pub event_item_version : Data → ℕ
event_item_version d = text_version event_version (as_str d)

-- the greatest version that any of some items needs
unfoldable pub items_version : (Data → ℕ) → Items → ℕ
items_version needed no_items = first_version
items_version needed (item d ds) = max (needed d) (items_version needed ds)

-- the greatest version that any item of a list needs
abbrev pub list_version : (Data → ℕ) → Data → ℕ
list_version needed d = unwrap_or (option_map (items_version needed) (as_array d)) first_version

-- ---- once the version is known

-- the content of a list in a version, or `BadShape` if the version does not allow the list
abbrev pub in_version : {X : Type 0} → ℕ → Newest X → Result X IoFault
in_version version x = if may_stand_in x.version version then x.said else Err BadShape
