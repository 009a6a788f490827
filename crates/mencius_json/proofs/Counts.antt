-- A count of elements that pass a test can be made one element at a time, and never exceeds the number of elements.
use Rattle.std.proofs.Common.{◌≡◌, ◌∙◌, ◌||◌, ◌==◌, ℕ, ◌+◌, ◌≤◌, ◌<◌, Bool, true, false, List, [], ◌∷◌, ap, arith, cond, get_or, length, refl, sym, take}
use Rattle.std.proofs.lemmas.List.Filters.{length-filter_more}
use Rattle.std.proofs.lemmas.List.Sums.{count_by-le-length, length-filter}
use Rattle.std.specs.List.{filter}
use mir.Val.{bool_byte}

said : (b : Bool) → cond b 1 0 ≡ bool_byte b
said true = refl
said false = refl

at_most_one : (b : Bool) → bool_byte b ≤ 1
at_most_one true = omega arith
at_most_one false = omega arith

-- the next element raises the count by 1 if it passes, and by 0 otherwise
pub one_more : (test : ℕ → Bool) (xs : List ℕ) (n count : ℕ) → n < length xs → count ≡ length (filter test (take n xs))
    → count + bool_byte (test (get_or xs n 0)) ≡ length (filter test (take (n + 1) xs))
one_more test xs n count less so_far =
    let this : ℕ = bool_byte (test (get_or xs n 0)) in
    ap (λ k. k + this) so_far
    ∙ sym (length-filter_more test xs n 0 less ∙ ap (λ k. length (filter test (take n xs)) + k) (said (test (get_or xs n 0))))

-- the next element raises a count by at most 1
pub next_within : (count n : ℕ) (b : Bool) → count ≤ n → count + bool_byte b ≤ n + 1
next_within count n b within = omega (arith, within, at_most_one b)

-- the number of elements that pass is at most the number of elements
pub within_all : (test : ℕ → Bool) (xs : List ℕ) → length (filter test xs) ≤ length xs
within_all test xs = rw (length-filter test xs) (count_by-le-length test xs)

-- the number of commas and colons is the number of commas plus the number of colons
pub of_either : (xs : List ℕ)
    → length (filter (λ byte. (byte == 44) || (byte == 58)) xs)
    ≡ length (filter (λ byte. byte == 44) xs) + length (filter (λ byte. byte == 58) xs)
of_either [] = refl
of_either (x ∷ xs) = let e = of_either xs in grind (arith, e)

-- the number of commas plus the number of colons is at most the number of bytes
pub either_within : (xs : List ℕ) (commas colons : ℕ) → commas ≡ length (filter (λ byte. byte == 44) xs)
    → colons ≡ length (filter (λ byte. byte == 58) xs) → commas + colons ≤ length xs
either_within xs commas colons first second =
    rw (first, second, ← of_either xs) (within_all (λ byte. (byte == 44) || (byte == 58)) xs)
