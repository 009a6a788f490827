-- The number of places below a bound that pass a test, and its changes with the bound and with the test.
use Rattle.std.proofs.Common.{◌≡◌, ℕ, zero, suc, ◌+◌, ◌-◌, ◌<◌, ◌≤◌, Bool, true, false, refl, sym, ◌∙◌, ap, arith, inl, inr, ⊎_elim}
use Rattle.std.specs.Prelude.{nat_lt}
use Rattle.std.specs.List.{count_by, list_any}
use Rattle.std.proofs.lemmas.Bool.{cases_Bool, cases_eq, le-ltb, lt-ltb}
use Rattle.mencius_base.specs.Members.{numbers_below, instances}
use Rattle.mencius_model.proofs.trace.NumberLists.{any-instances, any-instances_found, count_by-below_le, count_by-below_more, count_by-below_none, count_by-below_zero, instances-below}
use Rattle.mencius_server.proofs.intervals.IntervalCounts.{bit, count_same}
use Rattle.mencius_base.specs.Limits.{instance_count}

pub count_few : (f : ℕ → Bool) (n : ℕ) → count_by f (numbers_below n) ≤ n
count_few f zero = omega (arith, count_by-below_zero f)
count_few f (suc n) =
    let next : suc n ≡ n + 1 = omega arith in
    rw next (omega (arith, count_by-below_more f n, count_few f n, bit_small (f n)))
  where
    bit_small : (a : Bool) → bit a ≤ 1
    bit_small true = omega arith
    bit_small false = omega arith

pub count_one : (f : ℕ → Bool) (i n : ℕ) → i < n → bit (f i) ≤ count_by f (numbers_below n)
count_one f i n less =
    omega (arith, count_by-below_more f i, count_by-below_le f (i + 1) n (omega arith))

-- If each place that passes one test also passes another, the second count is at least the first.
pub count_less : (f g : ℕ → Bool) (n : ℕ) → ((j : ℕ) → j < n → f j ≡ true → g j ≡ true)
    → count_by f (numbers_below n) ≤ count_by g (numbers_below n)
count_less f g zero h = omega (arith, count_by-below_zero f, count_by-below_zero g)
count_less f g (suc n) h =
    let next : suc n ≡ n + 1 = omega arith in
    let before = count_less f g n (λ j l. h j (omega arith)) in
    let here = bit_less (f n) (g n) (h n (omega arith)) in
    rw next (omega (arith, count_by-below_more f n, count_by-below_more g n, before, here))
  where
    bit_less : (a d : Bool) → (a ≡ true → d ≡ true) → bit a ≤ bit d
    bit_less false d each = omega arith
    bit_less true d each = let one : bit d ≡ 1 = ap bit (each refl) in omega (arith, one)

-- The counts of two tests that differ at one place differ only by the results of the tests at that place.
pub count_but : (f g : ℕ → Bool) (n i : ℕ) → i < n → ((j : ℕ) → (j ≡ i → ⊥) → f j ≡ g j)
    → count_by f (numbers_below n) + bit (g i) ≡ count_by g (numbers_below n) + bit (f i)
count_but f g zero i less same = absurd (omega arith)
count_but f g (suc n) i less same =
    let next : suc n ≡ n + 1 = omega arith in
    let more_f = count_by-below_more f n in
    let more_g = count_by-below_more g n in
    rw next (⊎_elim
    (λ (last : i ≡ n).
    let before = count_same f g n (λ j l. same j (λ e. absurd (omega arith))) in
    rw last (omega (arith, more_f, more_g, before)))
    (λ (off : i ≡ n → ⊥).
    let before = count_but f g n i (omega arith) same in
    let here : bit (f n) ≡ bit (g n) = ap bit (same n (λ e. off (sym e))) in
    omega (arith, more_f, more_g, before, here))
    (cases_eq i n))

-- Some instance passes a test exactly if its count is above 0.
pub any_counted : (f : ℕ → Bool) → list_any f instances ≡ nat_lt 0 (count_by f instances)
any_counted f = elim (cases_Bool (list_any f instances)) [
  | inl some ↦
      let found = any-instances_found f some in
      let one : bit (f found.0) ≡ 1 = ap bit found.2 in
      let all : count_by f instances ≡ count_by f (numbers_below instance_count) = ap (count_by f) instances-below in
      some ∙ sym (lt-ltb 0 (count_by f instances) (omega (arith, one, all, count_one f found.0 instance_count found.1)))
  | inr none ↦
      let zero_all : count_by f (numbers_below instance_count) ≡ count_by f (numbers_below 0) =
      count_by-below_none f 0 instance_count (λ j low high. unfound none j high) in
      let all : count_by f instances ≡ count_by f (numbers_below instance_count) = ap (count_by f) instances-below in
      none ∙ sym (le-ltb 0 (count_by f instances) (omega (arith, all, zero_all, count_by-below_zero f)))
]
  where
    unfound : list_any f instances ≡ false → (j : ℕ) → j < instance_count → f j ≡ false
    unfound none j small = elim (cases_Bool (f j)) [
      | inl passes ↦ let no : true ≡ false = sym (any-instances f j small passes) ∙ none in absurd (cc)
      | inr fails ↦ fails
    ]

-- If no place between two places passes the test, the count stays the same.
pub count_still : (f : ℕ → Bool) (a n : ℕ) → a ≤ n → ((j : ℕ) → a ≤ j → j < n → f j ≡ false)
    → count_by f (numbers_below n) ≡ count_by f (numbers_below a)
count_still f a n h none =
    let all : a + (n - a) ≡ n = omega arith in
    sym (ap (λ (m : ℕ). count_by f (numbers_below m)) all)
    ∙ count_by-below_none f a (n - a) (λ j low high. none j low (omega (arith, all)))
