-- The line after a text follows from its line feeds, and the column from the characters of its last line.
use Rattle.std.proofs.Common.{◌≡◌, ◌∙◌, ◌==◌, ℕ, ◌+◌, ◌-◌, ◌≤◌, ◌<◌, List, [], ◌∷◌, ap, ap₂, arith, bit_and, drop, fold, get_or, length, not, refl, suc, sym, take, zero}
use Rattle.std.proofs.lemmas.List.{length-drop, take-append-drop}
use Rattle.std.proofs.lemmas.List.Sums.{fold-append, fold_more}
use native.Mathlib.Numerals.{unary_clauses}
use Rattle.std.specs.List.{filter}
use Rattle.mencius_json.proofs.Counts.{within_all}
use Rattle.mencius_json.specs.Stops.{behind_one, characters_in, place_behind}

abbrev feeds_in : List ℕ → ℕ
feeds_in xs = length (filter (λ byte. byte == 10) xs)

-- the characters after any offset of a text are at most its bytes in number
pub characters_within : (front : List ℕ) (start : ℕ) → characters_in (drop start front) ≤ length front
characters_within front start =
    omega (arith, within_all (λ byte. not (bit_and byte 0xc0 == 0x80)) (drop start front), length-drop start front)

-- each line feed raises the line by 1, and no other byte changes it
lines_behind : (place : ℕ × ℕ) (xs : List ℕ) → (fold behind_one place xs).0 ≡ place.0 + feeds_in xs
lines_behind place [] = omega arith
lines_behind place (x ∷ xs) = let e = lines_behind (behind_one place x) xs in grind (arith, e)

-- without line feeds, each character raises the column by 1
columns_behind : (place : ℕ × ℕ) (xs : List ℕ) → feeds_in xs ≡ 0
    → (fold behind_one place xs).1 ≡ place.1 + characters_in xs
columns_behind place [] none = omega arith
columns_behind place (x ∷ xs) none = let e = columns_behind (behind_one place x) xs in grind (arith, e)

-- the column after a line feed is 1
first_column : (place : ℕ × ℕ) (front : List ℕ) (start : ℕ) → start < length front → get_or front start 0 ≡ 10
    → (fold behind_one place (take (start + 1) front)).1 ≡ 1
first_column place front start less feed =
    ap (λ (p : ℕ × ℕ). p.1) (fold_more behind_one place front start 0 less)
    ∙ ap (λ byte. (behind_one (fold behind_one place (take start front)) byte).1) feed

-- the column is 1 at the beginning of a text and after each of its line feeds
before_line : (front : List ℕ) (start : ℕ) → start ≤ length front → (0 < start → get_or front (start - 1) 0 ≡ 10)
    → (fold behind_one (1, 1) (take start front)).1 ≡ 1
before_line front zero within line = refl
before_line front (suc n) within line =
    simp unary_clauses at (first_column (1, 1) front n (omega (arith, within)) (simp unary_clauses at (line (omega arith))))

-- the column after a text is 1 plus the number of characters in its last line
last_column : (front : List ℕ) (start : ℕ) → start ≤ length front → feeds_in (drop start front) ≡ 0
    → (0 < start → get_or front (start - 1) 0 ≡ 10)
    → 1 + characters_in (drop start front) ≡ (place_behind front).1
last_column front start within none line =
    let before : ℕ × ℕ = fold behind_one (1, 1) (take start front) in
    let parts : place_behind front ≡ fold behind_one before (drop start front) =
    ap (fold behind_one (1, 1)) (sym (take-append-drop start front))
    ∙ fold-append behind_one (1, 1) (take start front) (drop start front) in
    sym (ap (λ (p : ℕ × ℕ). p.1) parts ∙ columns_behind before (drop start front) none
    ∙ ap (λ k. k + characters_in (drop start front)) (before_line front start within line))

pub place_by_lines : (front : List ℕ) (start : ℕ) → start ≤ length front → feeds_in (drop start front) ≡ 0
    → (0 < start → get_or front (start - 1) 0 ≡ 10)
    → (1 + feeds_in front, 1 + characters_in (drop start front)) ≡ place_behind front
place_by_lines front start within none line =
    ap₂ (λ (a b : ℕ). (a, b)) (sym (lines_behind (1, 1) front)) (last_column front start within none line)
