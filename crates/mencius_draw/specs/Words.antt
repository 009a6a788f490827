-- The words of a line of a trace. One space separates each word from the next.
use Rattle.std.specs.Prelude.{ℕ, zero, suc, ◌+◌, ◌-◌, ◌*◌, ◌^◌, ◌==◌, ◌&&◌, ◌||◌, List, [], ◌∷◌, Bool, Option, Some, None, nat_le, min, map, not, take, drop, if◌then◌else◌}
use Rattle.std.specs.List.{position}

abbrev pub cut_behind : List ℕ → Option ℕ → List ℕ
cut_behind line None = []
cut_behind line (Some place) = drop (place + 1) line

abbrev pub cut_before : List ℕ → Option ℕ → List ℕ
cut_before line None = line
cut_before line (Some place) = take place line

-- the rest of a line after the first space, which is empty if the line has no space
abbrev pub behind_first_word : List ℕ → List ℕ
behind_first_word line = cut_behind line (position (λ b. b == 32) line)

-- the part of a line before the first space, or the whole line if it has no space
abbrev pub first_word : List ℕ → List ℕ
first_word line = cut_before line (position (λ b. b == 32) line)

-- the rest of a line after its first n words
abbrev pub rest : ℕ → List ℕ → List ℕ
rest zero line = line
rest (suc n) line = behind_first_word (rest n line)

-- the word at a place of a line, counted from 0. It is empty if the line has fewer words
unfoldable pub word : ℕ → List ℕ → List ℕ
word place line = first_word (rest place line)

abbrev pub greatest_number : ℕ
greatest_number = 2 ^ 32 - 1

abbrev pub number_from : ℕ → List ℕ → ℕ
number_from n [] = n
number_from n (b ∷ bs) = number_from (min (min (n * 10) greatest_number + (b - 48)) greatest_number) bs

-- the number that the digits write, but at most the greatest number of 32 bits
unfoldable pub number : List ℕ → ℕ
number bytes = number_from 0 bytes

abbrev pub is_between : ℕ → ℕ → ℕ → Bool
is_between first last b = nat_le first b && nat_le b last

-- whether a byte is a line end, or a printable byte other than `<`, `>`, `&`, `'` and `"`
abbrev pub is_plain : ℕ → Bool
is_plain b =
    is_between 32 126 b && not (b == 34 || b == 38 || b == 39 || b == 60 || b == 62) || b == 10

-- a plain byte as it is, and a question mark for any other byte
unfoldable pub plain_byte : ℕ → ℕ
plain_byte b = if is_plain b then b else 63

abbrev pub plain_text : List ℕ → List ℕ
plain_text bytes = map plain_byte bytes

-- the byte inside a tag, where values are between apostrophes. A `/` also becomes a question mark
unfoldable pub tag_byte : ℕ → ℕ
tag_byte b = if b == 39 then b else (if b == 47 then 63 else plain_byte b)

abbrev pub tag_text : List ℕ → List ℕ
tag_text bytes = map tag_byte bytes
