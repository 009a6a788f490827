-- The words that say where a scenario has a fault.
use Rattle.std.specs.Prelude.{ℕ, ◌≡◌, ◌+◌, ◌++◌, ◌==◌, List, ◌∷◌, codes, decimal, drop, flat_map, Option, Some, None, MatchOption, if◌then◌else◌}
use Rattle.mencius_format.specs.Shown.{shown_text}
use Rattle.mencius_io.specs.declared.fault.IoFault.{IoFault}
use Rattle.mencius_io.specs.declared.fault.IoFault.TheVariants.{BadLimit, BadShape, NotJson}
use Rattle.mencius_json.specs.Crowds.{crowd_in}
use Rattle.mencius_json.specs.declared.crowd.Crowd.{Crowd}
use Rattle.mencius_json.specs.declared.crowd.Crowd.TheVariants.{Braces, Brackets, Separators}
use Rattle.mencius_json.specs.Stops.{IsStop}
use Rattle.mencius_input.specs.declared.field.Field.{Field}
use Rattle.mencius_input.specs.declared.field.Field.TheVariants.{Commands}
use Rattle.mencius_input.specs.declared.field.Shape.{Shape}
use Rattle.mencius_input.specs.declared.field.Shape.TheVariants as shape
use Rattle.mencius_input.specs.declared.kind.Kind.{Kind}
use Rattle.mencius_input.specs.declared.kind.Kind.TheVariants.{Replay, Run}
use Rattle.mencius_input.specs.FieldsOf.{field_name, list_field, row, whole_fields}
use Rattle.mencius_input.specs.Places.{PlaceState, first_place}
use Rattle.mencius_input.specs.Places as place

-- ---- parts of the words

-- the words about a number that is out of a range
abbrev pub range_words : ℕ → ℕ → List ℕ
range_words least greatest =
    codes "not " ++ decimal least ++ (if greatest == least + 1 then codes " or " else codes " to ") ++ decimal greatest

-- the words about a value that is not within a shape
abbrev pub shape_words : Shape → List ℕ
shape_words (shape.Whole least greatest default) = range_words least greatest
shape_words shape.List = codes "not a list"

-- the words about a value that is out of the limits of a field
unfoldable pub limit_words : Field → List ℕ
limit_words field = shape_words (row field).shape

-- the words about a field that should be a whole number and has this fault
abbrev pub number_words : IoFault → Field → List ℕ
number_words BadShape field = codes "not a whole number"
number_words fault field = limit_words field

-- the words about a field, which end in `said`
abbrev pub field_words : Field → List ℕ → List ℕ
field_words field said = codes "the field \"" ++ (field_name field ++ (codes "\" is " ++ said))

-- a number of lists and a number of servers, in words
abbrev pub counts_words : ℕ → ℕ → List ℕ
counts_words lists servers = codes "lists " ++ decimal lists ++ codes ", servers " ++ decimal servers

-- the names of fields, each after a comma and a space
abbrev pub further_names : List Field → List ℕ
further_names fields = flat_map (λ field. codes ", " ++ field_name field) fields

-- the name of a kind of scenario
abbrev pub kind_name : Kind → List ℕ
kind_name Replay = codes "replay"
kind_name Run = codes "run"

-- the words after the name of an unknown field, with the names of all fields of the kind
unfoldable pub unknown_words : Kind → List ℕ
unknown_words kind =
    codes " is no field: a scenario of " ++ kind_name kind ++ codes " has version" ++ further_names (drop 1 (whole_fields kind))
    ++ codes " and " ++ field_name (list_field kind)

-- the words explain an item. They say that it is not a string, or they are its text in quotes, a colon and further
-- words
abbrev pub ExplainsItem : Option (List ℕ) → List ℕ → Type 0
ExplainsItem None words = words ≡ codes "is not a string"
ExplainsItem (Some text) words = (said : List ℕ) × (words ≡ shown_text text ++ 58 ∷ 32 ∷ said)

-- the words explain the fault at a place in a scenario of the kind
abbrev pub ExplainsPlace : Kind → IoFault → PlaceState → List ℕ → Type 0
ExplainsPlace kind fault place.no_object words = words ≡ codes "the text is not a JSON object"
ExplainsPlace kind fault (place.unknown_field name) words = words ≡ shown_text name ++ unknown_words kind
ExplainsPlace kind fault (place.missing_field field) words = words ≡ field_words field (codes "missing")
ExplainsPlace kind fault (place.bad_number field) words = words ≡ field_words field (number_words fault field)
ExplainsPlace kind fault (place.great_number field) words = words ≡ field_words field (limit_words field)
ExplainsPlace kind fault (place.no_list field) words = words ≡ field_words field (codes "not a list")
ExplainsPlace kind fault (place.event_item index version text) words =
    (said : List ℕ) × (words ≡ codes "event " ++ decimal index ++ 32 ∷ said) × ExplainsItem text said
ExplainsPlace kind fault (place.no_sublist n) words =
    words ≡ codes "item " ++ decimal n ++ codes " of the field \"commands\" is not a list"
ExplainsPlace kind fault (place.command_item n index version text) words =
    (said : List ℕ) × (words ≡ codes "command " ++ decimal index ++ codes " of list " ++ decimal n ++ 32 ∷ said)
    × ExplainsItem text said
ExplainsPlace kind fault (place.list_count count servers) words =
    words ≡ field_words Commands (codes "not one list for each server: " ++ counts_words count servers)

-- the words if a sign occurs too often in the text for a search for the place
abbrev pub crowd_words : Crowd → List ℕ
crowd_words Braces = codes "more than 65,536 { are in the text, where a scenario has one"
crowd_words Brackets = codes "more than 65,536 [ are in the text, where a scenario has at most eight"
crowd_words Separators = codes "more than 1,700,000 commas and colons are in the text, which has no room for so many events"

-- the words if no place with the fault was found
abbrev pub unplaced_words : IoFault → List ℕ
unplaced_words BadLimit = codes "a number, a length or a count is past its limit"
unplaced_words fault = codes "the text is not a scenario"

-- the words name a sign that occurs too often for a search. Without such a sign, they explain the first place with the
-- fault, or say that no place was found
abbrev pub IsPlaced : Kind → IoFault → List ℕ → List ℕ → Type 0
IsPlaced kind fault bytes words =
    MatchOption (crowd_in bytes)
    (MatchOption (first_place kind fault bytes) (words ≡ unplaced_words fault)
    (λ place. ExplainsPlace kind fault place words))
    (λ crowd. words ≡ crowd_words crowd)

-- the words explain a fault of bytes that were read. Any words explain a fault other than `NotJson`, `BadShape` or
-- `BadLimit`
abbrev pub Explains : Kind → IoFault → List ℕ → List ℕ → Type 0
Explains kind NotJson bytes words = IsStop bytes words
Explains kind BadShape bytes words = IsPlaced kind BadShape bytes words
Explains kind BadLimit bytes words = IsPlaced kind BadLimit bytes words
Explains kind fault bytes words = Unit {0}

-- the words about bytes that are too many to be read to their end
abbrev pub too_long_words : List ℕ
too_long_words = codes "the scenario is longer than 16,777,216 bytes"

-- the words explain a fault of bytes that were not read to their end. Any words explain a fault other than `BadLimit`
abbrev pub ExplainsUnread : IoFault → List ℕ → Type 0
ExplainsUnread BadLimit words = words ≡ too_long_words
ExplainsUnread fault words = Unit {0}
