-- The form of a text in the words of an explanation.
use Rattle.std.specs.Prelude.{ℕ, ◌==◌, ◌&&◌, ◌||◌, ◌++◌, List, [], ◌∷◌, length, take, flat_map, Bool, false, codes, nat_lt, nat_le, if◌then◌else◌}
use Rattle.std.specs.Fmt.{digits}
use Rattle.std.specs.Str.{chars}
use Rattle.std.specs.Char.{encode_utf8}

-- whether the number of a character is at least `from` and below `end`
abbrev pub is_among : ℕ → ℕ → ℕ → Bool
is_among from end c = nat_le from c && nat_lt c end

-- whether a character is a control character, shows nothing, ends a line, or reverses the direction of the text after
-- it
abbrev pub is_hidden : ℕ → Bool
is_hidden c =
    nat_lt c 0x20 || is_among 0x7f 0xa0 c || is_among 0x200b 0x2010 c || is_among 0x2028 0x2030 c
    || is_among 0x2060 0x2070 c || (c == 0xfeff)

-- a character as its number, in base 16
abbrev pub shown_number : ℕ → List ℕ
shown_number c = codes "\\u{" ++ digits 16 false c ++ codes "}"

-- a character as it is shown. A quote or a backslash gets a backslash before it, and a hidden character is its number
unfoldable pub shown_char : ℕ → List ℕ
shown_char c =
    if is_hidden c then shown_number c
    else (if c == 34 then codes "\\\""
    else (if c == 92 then codes "\\\\"
    else encode_utf8 c))

-- the greatest length of a text that is shown whole, in characters
abbrev pub most_shown : ℕ
most_shown = 60

-- two dots after a text of more than `most_shown` characters, and nothing after any other text
abbrev pub dots : List ℕ → List ℕ
dots cs = if nat_lt most_shown (length cs) then codes ".." else []

-- a text in quotes, which is cut off if it is long
abbrev pub shown_text : List ℕ → List ℕ
shown_text text = 34 ∷ flat_map shown_char (take most_shown (chars text)) ++ dots (chars text) ++ 34 ∷ []
