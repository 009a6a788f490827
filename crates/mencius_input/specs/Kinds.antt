-- The kind of scenario that a text is meant as.
use Rattle.std.specs.Prelude.{ℕ, ◌&&◌, ◌||◌, List, Bool, not, Option, Some, None, is_some, if◌then◌else◌}
use Rattle.std.specs.List.{list_any}
use Rattle.serde_json.specs.Data.{Data}
use Rattle.serde_json.specs.Find.{get}
use Rattle.mencius_json.specs.Crowds.{crowd_in}
use Rattle.mencius_input.specs.declared.field.Field.{Field}
use Rattle.mencius_input.specs.declared.field.Field.TheVariants.{Commands, Events}
use Rattle.mencius_input.specs.declared.kind.Kind.{Kind}
use Rattle.mencius_input.specs.declared.kind.Kind.TheVariants.{Replay, Run}
use Rattle.mencius_input.specs.FieldsOf.{field_name, run_fields}
use Rattle.mencius_input.specs.Scenario.{json_of}

-- whether a value has a field
abbrev pub has_field : Field → Data → Bool
has_field field d = is_some (get (field_name field) d)

-- whether a value has a field that only the scenario of a run has
unfoldable pub has_run_field : Data → Bool
has_run_field d = list_any (λ field. has_field field d) run_fields || has_field Commands d

-- the kind that a value is meant as. It is `Run` if the value has a field that only a run has, and no field for events
abbrev pub kind_of : Data → Kind
kind_of d = if not (has_field Events d) && has_run_field d then Run else Replay

-- the kind that a value is meant as, or `Replay` if the value is missing
abbrev pub kind_said : Option Data → Kind
kind_said None = Replay
kind_said (Some d) = kind_of d

-- whether some bytes have too many signs for a tree
abbrev pub is_crowded : List ℕ → Bool
is_crowded bytes = is_some (crowd_in bytes)

-- the kind that bytes are meant as. It is `Replay` if they have too many signs for a tree, or are not JSON
abbrev pub kind_in : List ℕ → Kind
kind_in bytes = if is_crowded bytes then Replay else kind_said (json_of bytes)
