-- The words that say where a text stops being JSON.
use Rattle.std.specs.Prelude.{ℕ, ◌≡◌, ◌≤◌, ◌+◌, ◌++◌, ◌==◌, List, [], ◌∷◌, Bool, true, false, bit_and, codes, decimal, fold, length, not, take, if◌then◌else◌}
use Rattle.std.specs.List.{filter, starts_with}
use Rattle.std.specs.Str.{IsUtf8}
use Rattle.std.specs.Str.Lossy.{utf8_valid_len}

-- ---- lines and columns, which count from 1 (a column counts characters)

-- the line and column after a byte that comes at a line and column
abbrev pub behind_one : ℕ × ℕ → ℕ → ℕ × ℕ
behind_one place byte =
    if byte == 10 then (place.0 + 1, 1)
    else if bit_and byte 0xc0 == 0x80 then place else (place.0, place.1 + 1)

-- the line and column after the bytes `front`
abbrev pub place_behind : List ℕ → ℕ × ℕ
place_behind front = fold behind_one (1, 1) front

-- the number of characters that begin in some bytes
abbrev pub characters_in : List ℕ → ℕ
characters_in bytes = length (filter (λ byte. not (bit_and byte 0xc0 == 0x80)) bytes)

-- ---- the words

-- the words that report a problem at a line and column
abbrev pub stop_words : ℕ × ℕ → List ℕ → List ℕ
stop_words place wrong =
    codes "line " ++ decimal place.0 ++ codes ", column " ++ decimal place.1 ++ codes ": " ++ wrong

-- whether bytes begin with a byte order mark
abbrev pub has_mark : List ℕ → Bool
has_mark bytes = starts_with ◌==◌ bytes (0xef ∷ 0xbb ∷ 0xbf ∷ [])

-- an offset within the bytes, with a problem there. A byte order mark is reported first, at 0. Without a mark, bytes
-- that are not UTF-8 are reported at the end of their longest valid front
pub record IsWrongAt (bytes : List ℕ) (offset : ℕ) (wrong : List ℕ) : Type 0 where
  pub within : offset ≤ length bytes
  pub mark : has_mark bytes ≡ true → (offset ≡ 0) × (wrong ≡ codes "a byte order mark, which JSON does not have")
  pub utf8 : has_mark bytes ≡ false → (IsUtf8 bytes → ⊥)
      → (offset ≡ utf8_valid_len bytes) × (wrong ≡ codes "not UTF-8")

-- the words name a problem and the line and column of its offset, and `IsWrongAt` holds for this offset and problem
abbrev pub IsStop : List ℕ → List ℕ → Type 0
IsStop bytes words =
    (offset : ℕ) × (wrong : List ℕ) × IsWrongAt bytes offset wrong
    × (words ≡ stop_words (place_behind (take offset bytes)) wrong)
