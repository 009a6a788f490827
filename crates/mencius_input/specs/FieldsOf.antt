-- The fields of the two kinds of scenario, with their names, their ranges and their defaults. The code has the same
-- table in `src/field.rt`.
use Rattle.std.specs.Prelude.{ℕ, ◌&&◌, ◌++◌, List, [], ◌∷◌, codes, map, not, Bool, false, Option, Some, None, is_some, option_and_then, nat_le}
use Rattle.std.specs.List.{filter, list_any}
use Rattle.std.specs.Option.{option_map_or}
use Rattle.std.specs.Str.{bytes_eq}
use Rattle.serde_json.specs.Data.{Data}
use Rattle.serde_json.specs.Find.{as_number, as_u64, get}
use Rattle.mencius_base.specs.Limits.{greatest_beta, greatest_loss, most_servers, most_turns, most_workers}
use Rattle.mencius_format.specs.Grammar.{first_version, newest_version}
use Rattle.mencius_input.specs.declared.field.Field.{Field}
use Rattle.mencius_input.specs.declared.field.Field.TheVariants.{Version, Servers, Beta, Events, Workers, Seed, Turns, Loss, Commands}
use Rattle.mencius_input.specs.declared.field.Shape.{Shape}
use Rattle.mencius_input.specs.declared.field.Shape.TheVariants as shape
use Rattle.mencius_input.specs.declared.kind.Kind.{Kind}
use Rattle.mencius_input.specs.declared.kind.Kind.TheVariants.{Replay, Run}

-- ---- the fields

-- a field that is a whole number, with its name, its least and greatest number, and its default. The default is the
-- number of a missing field. A field without a default must not be missing
pub record WholeField : Type 0 where
  pub name : List ℕ
  pub least : ℕ
  pub greatest : ℕ
  pub default : Option ℕ

-- the field for the version of the scenario
abbrev pub version_field : WholeField
version_field = record { name = codes "version"; least = first_version; greatest = newest_version; default = None }

-- the field for the number of servers
abbrev pub servers_field : WholeField
servers_field = record { name = codes "servers"; least = 1; greatest = most_servers; default = None }

-- the field for beta, which is 0 if it is missing
abbrev pub beta_field : WholeField
beta_field = record { name = codes "beta"; least = 0; greatest = greatest_beta; default = Some 0 }

-- the field for the number of workers
abbrev pub workers_field : WholeField
workers_field = record { name = codes "workers"; least = 1; greatest = most_workers; default = None }

-- the field for the seed, which is at most 2 to the 64th minus 1
abbrev pub seed_field : WholeField
seed_field = record { name = codes "seed"; least = 0; greatest = 18446744073709551615; default = None }

-- the field for the number of turns of each worker
abbrev pub turns_field : WholeField
turns_field = record { name = codes "turns"; least = 0; greatest = most_turns; default = None }

-- the field for the loss
abbrev pub loss_field : WholeField
loss_field = record { name = codes "loss"; least = 0; greatest = greatest_loss; default = None }

-- the name of the field for the events of a schedule
abbrev pub events_name : List ℕ
events_name = codes "events"

-- the name of the field for the commands of a run
abbrev pub commands_name : List ℕ
commands_name = codes "commands"

-- ---- the number in a field of an object

-- the value as a whole number, if it is one
abbrev pub whole_in : Data → Option ℕ
whole_in d = option_and_then as_u64 (as_number d)

-- the whole number in a field, or the field's default if the field is missing
unfoldable pub whole_number : WholeField → Data → Option ℕ
whole_number field d = option_map_or whole_in (get field.name d) field.default

-- whether a number is within the limits of a field
unfoldable pub is_number_within : WholeField → ℕ → Bool
is_number_within field n = nat_le field.least n && nat_le n field.greatest

-- ---- the table of the code

-- a row of the table, with the name of a field and the shape of its value
pub record Row : Type 0 where
  pub name : List ℕ
  pub shape : Shape

-- the row of a field that is a whole number
abbrev pub whole_row : WholeField → Row
whole_row field = record { name = field.name; shape = shape.Whole field.least field.greatest field.default }

-- the row of a field that is a list
abbrev pub list_row : List ℕ → Row
list_row name = record { name = name; shape = shape.List }

-- the row of a field
abbrev pub row : Field → Row
row Version = whole_row version_field
row Servers = whole_row servers_field
row Beta = whole_row beta_field
row Workers = whole_row workers_field
row Seed = whole_row seed_field
row Turns = whole_row turns_field
row Loss = whole_row loss_field
row Events = list_row events_name
row Commands = list_row commands_name

-- the fields of both kinds that are whole numbers
abbrev pub shared_fields : List Field
shared_fields = Version ∷ Servers ∷ Beta ∷ []

-- the fields that are whole numbers and belong only to a run
abbrev pub run_fields : List Field
run_fields = Workers ∷ Seed ∷ Turns ∷ Loss ∷ []

-- the fields of a kind that are whole numbers
abbrev pub whole_fields : Kind → List Field
whole_fields Replay = shared_fields
whole_fields Run = shared_fields ++ run_fields

-- the field of a kind that is a list
abbrev pub list_field : Kind → Field
list_field Replay = Events
list_field Run = Commands

-- ---- the content of the table

-- the name of a field
abbrev pub field_name : Field → List ℕ
field_name field = (row field).name

-- the number of a missing field with this shape, or none if the field must not be missing
abbrev pub shape_default : Shape → Option ℕ
shape_default (shape.Whole least greatest default) = default
shape_default shape.List = None

-- the number of a field if it is missing, or none if it must not be missing
abbrev pub default_of : Field → Option ℕ
default_of field = shape_default (row field).shape

-- the whole number in a field with this value, or the default in the table if the value is missing
abbrev pub number_in : Field → Option Data → Option ℕ
number_in field value = option_map_or whole_in value (default_of field)

-- the whole number in a field of an object, by the table
unfoldable pub field_number : Field → Data → Option ℕ
field_number field d = number_in field (get (field_name field) d)

-- whether a whole number is within the limits of a shape
abbrev pub is_shape_within : Shape → ℕ → Bool
is_shape_within (shape.Whole least greatest default) n = nat_le least n && nat_le n greatest
is_shape_within shape.List n = false

-- whether a whole number is within the limits of a field, by the table
unfoldable pub is_field_within : Field → ℕ → Bool
is_field_within field n = is_shape_within (row field).shape n

-- all fields of a kind
abbrev pub fields : Kind → List Field
fields kind = whole_fields kind ++ list_field kind ∷ []

-- the names of all fields of a kind
abbrev pub names : Kind → List (List ℕ)
names kind = map field_name (fields kind)

-- the fields that must not be missing
abbrev pub required_fields : Kind → List Field
required_fields kind = filter (λ field. not (is_some (default_of field))) (fields kind)

-- whether a name is one of some names
abbrev pub is_one_of : List ℕ → List (List ℕ) → Bool
is_one_of name names = list_any (bytes_eq name) names
