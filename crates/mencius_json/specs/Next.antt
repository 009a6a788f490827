-- The next value in a list of tokens.
use Rattle.std.specs.Prelude.{◌≡◌, ◌-◌, ℕ, List, length, Bool, true, false, Option, Some, None}
use Rattle.json.specs.Token.{Token}
use Rattle.json.specs.Token as token
use Rattle.json.specs.Json.{items, members, parse_map, value}
use Rattle.serde_json.specs.Data.{Data, Items, Members, array, no_members, object}
use Rattle.serde_json.specs.Find.{as_array, as_object}
use Rattle.serde_json.specs.Read.{converted, of_items, of_json, of_members}

-- the value at the beginning of some tokens, which nests at most `depth` deep, and the tokens after it
abbrev pub next_value : ℕ → List Token → Option (Data × List Token)
next_value depth ts = converted of_json (value depth ts)

-- the items of a list, and the tokens after its closing bracket. `ts` begins after the opening bracket, and each item
-- nests at most `depth` deep
abbrev pub next_items : ℕ → List Token → Option (Items × List Token)
next_items depth ts = converted of_items (items (value depth) (length ts) ts)

-- the fields of an object, and the tokens after its closing brace. `ts` begins after the opening brace, and each value
-- nests at most `depth` deep
abbrev pub next_members : ℕ → List Token → Option (Members × List Token)
next_members depth ts = converted (λ ms. of_members ms no_members) (members (value depth) (length ts) ts)

-- either a list was entered, and its items come next in `new`, or another value was passed
abbrev pub EntersArray : ℕ → List Token → List Token → Bool → Type 0
EntersArray depth old new true = next_value depth old ≡ parse_map array (next_items (depth - 1) new)
EntersArray depth old new false = (d : Data) × (next_value depth old ≡ Some (d, new)) × (as_array d ≡ None)

-- either an object was entered, and its fields come next in `new`, or another value was passed
abbrev pub EntersObject : ℕ → List Token → List Token → Bool → Type 0
EntersObject depth old new true = next_value depth old ≡ parse_map object (next_members (depth - 1) new)
EntersObject depth old new false = (d : Data) × (next_value depth old ≡ Some (d, new)) × (as_object d ≡ None)

-- ---- the first token of a value

-- the text of a string token
abbrev pub text_of : Token → Option (List ℕ)
text_of (token.string s) = Some s
text_of _ = None

-- the text of a number token
abbrev pub number_text : Token → Option (List ℕ)
number_text (token.number s) = Some s
number_text _ = None

-- whether a token begins a list
abbrev pub is_begin_array : Token → Bool
is_begin_array token.begin_array = true
is_begin_array _ = false

-- whether a token begins an object
abbrev pub is_begin_object : Token → Bool
is_begin_object token.begin_object = true
is_begin_object _ = false
