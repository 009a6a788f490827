-- Bits in lists of words of 64 bits.
use Rattle.std.proofs.Common.{◌≡◌, ◌≢◌, ◌⊎◌, inl, inr, ℕ, zero, suc, ◌+◌, ◌*◌, ◌/◌, ◌%◌, ◌^◌, ◌<◌, ◌≤◌, ◌==◌, Bool, true, false, List, [], ◌∷◌, length, get_or, set, replicate, min, max, arith, bit_and, bit_or, refl, sym, ap, ◌∙◌, ⊎_elim}
use Rattle.std.specs.Int.{bit_at, bit_not, w64}
use Rattle.std.proofs.Math.Nat.{div-add-mod, mod-lt}
use Rattle.std.proofs.lemmas.Bool.{cases_Bool, cases_eq, cases_lt, eq-eqb, eqb-true}
use Rattle.std.proofs.lemmas.List.{get_or-set_other, get_or-set_same}
use Rattle.std.proofs.lemmas.Nat.Bits.{bit_at-lt, bit_at-zero, bit_at_and, bit_at_clear_other, bit_at_clear_same, bit_at_or, bit_at_set_other, bit_at_set_same}
use Rattle.mencius_log.specs.declared.observation.Observation.{Observation}
use Rattle.mencius_clients.specs.Configurations.{AreLost, Calls, IsLess, has_slot, no_slots}
use Rattle.mencius_clients.specs.declared.slot_set.SlotSet.{SlotSet}

-- whether a bit of a list of words is set
abbrev has_bit : List ℕ → ℕ → Bool
has_bit words t = bit_at (get_or words (t / 64) 0) (t % 64) == 1

get_past : (words : List ℕ) (k : ℕ) → length words ≤ k → get_or words k 0 ≡ 0
get_past [] k past = refl
get_past (x ∷ words) zero past = absurd (omega (arith, past))
get_past (x ∷ words) (suc k) past = get_past words k (omega (arith, past))

get_zeros : (n k : ℕ) → get_or (replicate {A = ℕ} n 0) k 0 ≡ 0
get_zeros zero k = refl
get_zeros (suc n) zero = refl
get_zeros (suc n) (suc k) = get_zeros n k

pub no_slot : (t : ℕ) → has_slot no_slots t ≡ false
unfolding no_slots
no_slot t = ap (λ w. bit_at w (t % 64) == 1) (get_zeros 64 (t / 64)) ∙ ap (λ n. n == 1) (bit_at-zero (t % 64))

-- ---- one bit

below : (t : ℕ) → t % 64 < 64
below t = mod-lt t (omega arith)

apart : (t s : ℕ) → t ≢ s → t / 64 ≡ s / 64 → t % 64 ≢ s % 64
apart t s ne same rest = ne (sym (div-add-mod t 64) ∙ ap (λ n. 64 * n + t % 64) same
    ∙ ap (λ n. 64 * (s / 64) + n) rest ∙ div-add-mod s 64)

pub set_here : (words : List ℕ) (t : ℕ) → t / 64 < length words
    → has_bit (set words (t / 64) (bit_or (get_or words (t / 64) 0) (1 * 2 ^ (t % 64) % 2 ^ 64))) t ≡ true
set_here words t less =
    ap (λ w. bit_at w (t % 64) == 1) (get_or-set_same words (t / 64) _ 0 less)
    ∙ ap (λ n. n == 1) (bit_at_set_same w64 (get_or words (t / 64) 0) (t % 64) (below t))

pub set_there : (words : List ℕ) (t other : ℕ) → t / 64 < length words → other ≢ t
    → has_bit (set words (t / 64) (bit_or (get_or words (t / 64) 0) (1 * 2 ^ (t % 64) % 2 ^ 64))) other ≡ has_bit words other
set_there words t other less ne = ⊎_elim
    (λ (same : other / 64 ≡ t / 64).
    ap (λ k. bit_at (get_or (set words (t / 64) (bit_or (get_or words (t / 64) 0) (1 * 2 ^ (t % 64) % 2 ^ 64))) k 0) (other % 64) == 1) same
    ∙ ap (λ w. bit_at w (other % 64) == 1) (get_or-set_same words (t / 64) _ 0 less)
    ∙ ap (λ n. n == 1) (bit_at_set_other w64 (get_or words (t / 64) 0) (t % 64) (below t) (other % 64) (apart other t ne same))
    ∙ ap (λ k. bit_at (get_or words k 0) (other % 64) == 1) (sym same))
    (λ (differ : other / 64 ≢ t / 64).
    ap (λ w. bit_at w (other % 64) == 1) (get_or-set_other words (t / 64) (other / 64) _ 0 differ))
    (cases_eq (other / 64) (t / 64))

pub clear_here : (words : List ℕ) (t : ℕ) → t / 64 < length words
    → has_bit (set words (t / 64) (bit_and (get_or words (t / 64) 0) (bit_not w64 (1 * 2 ^ (t % 64) % 2 ^ 64)))) t ≡ false
clear_here words t less =
    ap (λ w. bit_at w (t % 64) == 1) (get_or-set_same words (t / 64) _ 0 less)
    ∙ ap (λ n. n == 1) (bit_at_clear_same w64 (get_or words (t / 64) 0) (t % 64) (below t))

pub clear_there : (words : List ℕ) (t other : ℕ) → t / 64 < length words → other ≢ t
    → has_bit (set words (t / 64) (bit_and (get_or words (t / 64) 0) (bit_not w64 (1 * 2 ^ (t % 64) % 2 ^ 64)))) other
    ≡ has_bit words other
clear_there words t other less ne = ⊎_elim
    (λ (same : other / 64 ≡ t / 64).
    ap (λ k. bit_at (get_or (set words (t / 64) (bit_and (get_or words (t / 64) 0) (bit_not w64 (1 * 2 ^ (t % 64) % 2 ^ 64)))) k 0) (other % 64) == 1) same
    ∙ ap (λ w. bit_at w (other % 64) == 1) (get_or-set_same words (t / 64) _ 0 less)
    ∙ ap (λ n. n == 1) (bit_at_clear_other w64 (get_or words (t / 64) 0) (t % 64) (below t) (other % 64) (below other) (apart other t ne same))
    ∙ ap (λ k. bit_at (get_or words k 0) (other % 64) == 1) (sym same))
    (λ (differ : other / 64 ≢ t / 64).
    ap (λ w. bit_at w (other % 64) == 1) (get_or-set_other words (t / 64) (other / 64) _ 0 differ))
    (cases_eq (other / 64) (t / 64))

-- ---- one word has the other one's bits and some lost ones

module _ (some most lost : ℕ) (e : bit_or some (bit_and most lost) ≡ most) where
  bits : (i : ℕ) → bit_at most i ≡ max (bit_at some i) (min (bit_at most i) (bit_at lost i))
  bits i =
      ap (λ n. bit_at n i) (sym e) ∙ bit_at_or some (bit_and most lost) i
      ∙ ap (max (bit_at some i)) (bit_at_and most lost i)

  zero_bit : (n : ℕ) → n < 2 → (n == 1) ≡ false → n ≡ 0
  zero_bit n small h = ⊎_elim (λ (z : n ≡ 0). z) (λ (one : n ≡ 1). let there = eq-eqb n 1 one in absurd (cc)) (either n small)
    where
      either : (m : ℕ) → m < 2 → (m ≡ 0) ⊎ (m ≡ 1)
      either m less_two = grind arith

  same_bit : (i : ℕ) → (bit_at lost i == 1) ≡ false → (bit_at some i == 1) ≡ (bit_at most i == 1)
  same_bit i h =
      let equal : bit_at some i ≡ bit_at most i = omega (arith, bits i, zero_bit (bit_at lost i) (bit_at-lt lost i) h) in
      ap (λ n. n == 1) equal

  within_bit : (i : ℕ) → (bit_at some i == 1) ≡ true → (bit_at most i == 1) ≡ true
  within_bit i h =
      let one : bit_at some i ≡ 1 = eqb-true (bit_at some i) 1 h in
      let above : bit_at most i ≡ 1 = omega (arith, bits i, one, bit_at-lt most i) in
      eq-eqb (bit_at most i) 1 above

-- ---- all words

module _ (some most lost : SlotSet) (count : ℕ) (short : length some.words ≤ count) (short_too : length most.words ≤ count)
    (words : (k : ℕ) → k < count
    → bit_or (get_or some.words k 0) (bit_and (get_or most.words k 0) (get_or lost.words k 0)) ≡ get_or most.words k 0) where
  past : (xs : List ℕ) (t : ℕ) → length xs ≤ count → count ≤ t / 64 → has_bit xs t ≡ false
  past xs t few more =
      ap (λ w. bit_at w (t % 64) == 1) (get_past xs (t / 64) (omega (arith, few, more))) ∙ ap (λ n. n == 1) (bit_at-zero (t % 64))

  same_all : (t : ℕ) → has_slot lost t ≡ false → has_slot some t ≡ has_slot most t
  same_all t h = elim (cases_lt (t / 64) count) [
    | inl less ↦ same_bit _ _ _ (words (t / 64) less) (t % 64) h
    | inr more ↦ past some.words t short more ∙ sym (past most.words t short_too more)
  ]

  within_all : (t : ℕ) → has_slot some t ≡ true → has_slot most t ≡ true
  within_all t h = elim (cases_lt (t / 64) count) [
    | inl less ↦ within_bit _ _ _ (words (t / 64) less) (t % 64) h
    | inr more ↦ let none = past some.words t short more in absurd (cc)
  ]

  pub less : (log : List Observation) (calls : Calls) → AreLost log calls lost → IsLess log calls some most
  less log calls gone = record {
    same = λ t f at there. ⊎_elim
        (λ (yes_lost : has_slot lost t ≡ true). absurd (gone t f at yes_lost there))
        (λ (kept : has_slot lost t ≡ false). same_all t kept)
        (cases_Bool (has_slot lost t));
    within = within_all;
  }
