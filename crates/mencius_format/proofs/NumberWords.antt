-- The parser of std accepts a number exactly if its type can hold it.
use Rattle.std.proofs.Common.{◌≡◌, ◌<◌, ◌≤◌, ◌^◌, ℕ, List, [], ◌∷◌, ◌&&◌, length, true, false, Bool, arith, Result, Ok, Err, Some, None, cond, ◌==◌, refl, ap, sym, nat_lt, drop, slice_index_or}
use Rattle.std.specs.Result.{OkIff}
use Rattle.std.specs.Char.{is_ascii_digit, digit_value}
use Rattle.std.specs.List.{list_all}
use Rattle.std.specs.Str.Parse.{AllDigits, IsNumeral, digits_value, ParsesUnsigned, without_leading_plus}
use Rattle.std.proofs.lemmas.Str.Parse.{numerals_by_value, tells_digits, parse_digits}
use Rattle.std.proofs.lemmas.Bool.{and_from, and_parts, le-ltb}
use Rattle.std.proofs.lemmas.Bool.Decides.{nat_tests}
use Rattle.mencius_io.specs.declared.fault.IoFault.TheVariants.{BadLimit}
use Rattle.mencius_format.specs.ValuesOrFaults.{value_or_fault}
use Rattle.mencius_format.specs.Words.{is_number, number_of}

zero_digit : (byte : ℕ) → true ≡ (byte == 48) → is_ascii_digit byte ≡ true
zero_digit byte e = grind (arith, nat_tests)

digits_from_first : (z : Bool) (byte : ℕ) (bytes : List ℕ) → z ≡ (byte == 48)
    → cond z (length bytes == 0) (is_ascii_digit byte && list_all is_ascii_digit bytes) ≡ true
    → list_all is_ascii_digit (byte ∷ bytes) ≡ true
digits_from_first true byte [] z e = and_from (is_ascii_digit byte) true (zero_digit byte z) refl
digits_from_first true byte (x ∷ bytes) z e = absurd (grind (arith, nat_tests))
digits_from_first false byte bytes z e = e

-- a number consists of digits
pub number_digits : (word : List ℕ) → is_number word ≡ true → list_all is_ascii_digit word ≡ true
number_digits [] e = refl
number_digits (byte ∷ bytes) e = digits_from_first (byte == 48) byte bytes refl e

pub number_length : (word : List ℕ) → is_number word ≡ true → 0 < length word
number_length [] e = absurd (cc)
number_length (byte ∷ bytes) e = omega arith

digit_below : (byte : ℕ) → is_ascii_digit byte ≡ true → digit_value byte < 10
digit_below byte e = grind (arith, nat_tests)

pub all_digits : (bytes : List ℕ) → list_all is_ascii_digit bytes ≡ true → AllDigits 10 bytes
all_digits [] e = tt
all_digits (byte ∷ bytes) e =
    let parts = and_parts (is_ascii_digit byte) (list_all is_ascii_digit bytes) e in
    (digit_below byte parts.0, all_digits bytes parts.1)

weaker : {E : Type 0} (r : Result ℕ E) (P Q : Type 0) (value : ℕ) → OkIff r (P × Q) value → P → OkIff r Q value
weaker (Ok x) P Q value h holds = (h.0.1, h.1)
weaker (Err x) P Q value h holds = λ other. h (holds, other)

-- std's parser returns the value of a number exactly if the type of this many bits can hold it
pub parsed : {E : Type 0} (bits : ℕ) (word : List ℕ) (r : Result ℕ E) → ParsesUnsigned bits 10 word r
    → is_number word ≡ true
    → OkIff r (digits_value 10 word < 2 ^ bits) (digits_value 10 word)
parsed bits word r h e =
    weaker r (0 < length word) (digits_value 10 word < 2 ^ bits) (digits_value 10 word)
    (parse_digits (numerals_by_value (AllDigits 10) tells_digits) bits word r h
    (all_digits word (number_digits word e))) (number_length word e)

-- if std's parser rejects a number, the number is past the limit
pub past_limit : {E : Type 0} (bits : ℕ) (word : List ℕ) (e : E) → ParsesUnsigned bits 10 word (Err e)
    → is_number word ≡ true
    → value_or_fault (λ n. nat_lt n (2 ^ bits)) (number_of word) ≡ Err BadLimit
unfolding number_of
past_limit bits word e h n =
    rw (
      n,
      le-ltb (digits_value 10 word) (2 ^ bits)
          (not_less (digits_value 10 word) (2 ^ bits) (parsed bits word (Err e) h n)),
    ) refl
  where
    not_less : (x y : ℕ) → (x < y → ⊥) → y ≤ x
    not_less x y h = grind arith

digit_byte : (byte : ℕ) → digit_value byte < 10 → is_ascii_digit byte ≡ true
digit_byte byte e = grind (arith, nat_tests)

digit_bytes : (bytes : List ℕ) → AllDigits 10 bytes → list_all is_ascii_digit bytes ≡ true
digit_bytes [] h = refl
digit_bytes (byte ∷ bytes) h =
    and_from (is_ascii_digit byte) (list_all is_ascii_digit bytes) (digit_byte byte h.0) (digit_bytes bytes h.1)

-- a numeral that begins with 1 to 9 is a number of the same value
pub number_read : (word : List ℕ) (n : ℕ) → IsNumeral 10 (without_leading_plus word)
    → n ≡ digits_value 10 (without_leading_plus word) → 49 ≤ slice_index_or word 0 0
    → slice_index_or word 0 0 ≤ 57 → number_of word ≡ Some n
unfolding number_of
number_read [] n numeral is low high = absurd (omega arith)
number_read (byte ∷ bytes) n numeral is low high = by_tests (byte == 43) refl (byte == 48) refl numeral is
  where
    by_tests : (a : Bool) → (byte == 43) ≡ a → (z : Bool) → (byte == 48) ≡ z
        → IsNumeral 10 (drop (cond a 1 0) (byte ∷ bytes)) → n ≡ digits_value 10 (drop (cond a 1 0) (byte ∷ bytes))
        → cond (cond z (length bytes == 0) (is_ascii_digit byte && list_all is_ascii_digit bytes))
        (Some (digits_value 10 (byte ∷ bytes))) None ≡ Some n
    by_tests true plus z zero numeral is = absurd (grind (arith, nat_tests))
    by_tests false plus true zero numeral is = absurd (grind (arith, nat_tests))
    by_tests false plus false zero numeral is =
        let digits : (is_ascii_digit byte && list_all is_ascii_digit bytes) ≡ true =
        digit_bytes (byte ∷ bytes) numeral.1 in
        rw digits (ap Some (sym is))
