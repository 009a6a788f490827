-- The words of a text, and the words that are numbers or names.
use Rattle.std.specs.Prelude.{ℕ, ◌==◌, ◌&&◌, ◌^◌, List, [], ◌∷◌, length, Bool, false, Option, Some, None, nat_lt, if◌then◌else◌}
use Rattle.std.specs.List.{slice_split, list_all}
use Rattle.std.specs.Char.{is_ascii_digit}
use Rattle.std.specs.Str.Parse.{digits_value}
use Rattle.mencius_base.specs.Command.{is_name}

-- the parts of a text that is split at each byte `mark`. A part may be empty
abbrev pub parts : ℕ → List ℕ → List (List ℕ)
parts mark text = slice_split (λ byte. byte == mark) text

-- the words of a text. One space separates each word from the next, and a word may be empty
abbrev pub words : List ℕ → List (List ℕ)
words text = parts 32 text

-- the words that are left of a text, of which nothing may be left
abbrev pub words_left : Option (List ℕ) → List (List ℕ)
words_left None = []
words_left (Some text) = words text

-- the word is `0`, or a digit from 1 to 9 followed by any number of digits
abbrev pub is_number : List ℕ → Bool
is_number [] = false
is_number (byte ∷ bytes) =
    if byte == 48 then length bytes == 0 else is_ascii_digit byte && list_all is_ascii_digit bytes

-- the number of a word in decimal digits, or None if the word is not a number
unfoldable pub number_of : List ℕ → Option ℕ
number_of word = if is_number word then Some (digits_value 10 word) else None

-- the word itself, or None if it has a byte that is not allowed in a key or a text
unfoldable pub name_of : List ℕ → Option (List ℕ)
name_of word = if is_name word then Some word else None

-- the value that `read` gives for the only word, or None if there is not exactly one word
abbrev pub single_word : {X : Type 0} → (List ℕ → Option X) → List (List ℕ) → Option X
single_word read (word ∷ []) = read word
single_word read _ = None

-- the number fits into one byte
abbrev pub is_u8 : ℕ → Bool
is_u8 n = nat_lt n (2 ^ 8)

-- the number fits into four bytes
abbrev pub is_u32 : ℕ → Bool
is_u32 n = nat_lt n (2 ^ 32)
