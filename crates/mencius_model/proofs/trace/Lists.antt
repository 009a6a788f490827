-- Membership, tests and counts over plain lists.
use Rattle.std.proofs.Common.{◌≡◌, ℕ, zero, suc, ◌+◌, ◌≤◌, Bool, true, false, cond, ◌&&◌, List, [], ◌∷◌, ◌++◌, length, ◌⊎◌, inl, inr, refl, arith, Some, slice_get, count_by, eqb, leb-true, le-leb}
use Rattle.std.specs.List.{list_any}
use Rattle.std.proofs.lemmas.Bool.Decides.{nat_tests}
use Rattle.std.proofs.lemmas.List.Sums.{sum_by-cons, sum_by-le-sum_by}
use Rattle.std.proofs.lemmas.List.FromFn.{length-range_with_len}
use Rattle.std.proofs.lemmas.Bool.{or_cases, or_left, or_right, and_parts, cases_Bool}
use Rattle.mencius_base.specs.Members.{Membership, majority, numbers_below}
use Rattle.mencius_model.specs.Instance.{are_majority}

-- The order of its arguments does not change an equality test.
pub eqb_swap : (x y : ℕ) → eqb x y ≡ eqb y x
eqb_swap x y = grind (arith, nat_tests)

abbrev pub IsIn : {A : Type 0} → A → List A → Type 0
IsIn a [] = ⊥
IsIn a (x ∷ xs) = (a ≡ x) ⊎ IsIn a xs

pub in_append_left : {A : Type 0} (a : A) (xs ys : List A) → IsIn a xs → IsIn a (xs ++ ys)
in_append_left a [] ys h = absurd h
in_append_left a (x ∷ xs) ys (inl e) = inl e
in_append_left a (x ∷ xs) ys (inr h) = inr (in_append_left a xs ys h)

pub in_append_right : {A : Type 0} (a : A) (xs ys : List A) → IsIn a ys → IsIn a (xs ++ ys)
in_append_right a [] ys h = h
in_append_right a (x ∷ xs) ys h = inr (in_append_right a xs ys h)

pub in_append : {A : Type 0} (a : A) (xs ys : List A) → IsIn a (xs ++ ys) → IsIn a xs ⊎ IsIn a ys
in_append a [] ys h = inr h
in_append a (x ∷ xs) ys (inl e) = inl (inl e)
in_append a (x ∷ xs) ys (inr h) = elim (in_append a xs ys h) [ inl there ↦ inl (inr there) | inr there ↦ inr there ]

pub any_in : {A : Type 0} (test : A → Bool) (xs : List A) → list_any test xs ≡ true
    → (x : A) × IsIn x xs × (test x ≡ true)
any_in test [] h = absurd (cc)
any_in test (x ∷ xs) h =
    elim (or_cases (test x) (list_any test xs) h) [
      | inl e ↦ (x, inl refl, e)
      | inr later ↦ let r = any_in test xs later in (r.0, inr r.1, r.2)
    ]

pub in_any : {A : Type 0} (test : A → Bool) (x : A) (xs : List A) → IsIn x xs → test x ≡ true → list_any test xs ≡ true
in_any test x [] h e = absurd h
in_any test x (y ∷ xs) (inl same) e = or_left (test y) (list_any test xs) (rw (← same) e)
in_any test x (y ∷ xs) (inr later) e = or_right (test y) (list_any test xs) (in_any test x xs later e)

pub none_in : {A : Type 0} (test : A → Bool) (x : A) (xs : List A) → list_any test xs ≡ false → IsIn x xs
    → test x ≡ true → ⊥
none_in test x xs h inside e = let holds : list_any test xs ≡ true = in_any test x xs inside e in cc

pub get_in : {A : Type 0} (xs : List A) (n : ℕ) (x : A) → slice_get xs n ≡ Some x → IsIn x xs
get_in [] n x h = absurd (cc)
get_in (y ∷ xs) zero x h = inl (cc)
get_in (y ∷ xs) (suc n) x h = inr (get_in xs n x h)

one_more : (a d : Bool) → cond a 1 0 + cond d 1 0 ≤ 1 + cond (a && d) 1 0
one_more true true = omega arith
one_more true false = omega arith
one_more false true = omega arith
one_more false false = omega arith

count_cons : (test : ℕ → Bool) (x : ℕ) (xs : List ℕ) → count_by test (x ∷ xs) ≡ cond (test x) 1 0 + count_by test xs
count_cons test x xs = sum_by-cons (λ y. cond (test y) 1 0) x xs

both_count : (test other : ℕ → Bool) (xs : List ℕ)
    → count_by test xs + count_by other xs ≤ length xs + count_by (λ x. test x && other x) xs
both_count test other [] = omega arith
both_count test other (x ∷ xs) =
    omega (
      arith,
      count_cons test x xs,
      count_cons other x xs,
      count_cons (λ y. test y && other y) x xs,
      one_more (test x) (other x),
      both_count test other xs,
    )

bit_none : (a : Bool) → a ≡ false → cond a 1 0 ≤ 0
bit_none true e = absurd (cc)
bit_none false e = omega arith

counted : (test : ℕ → Bool) (xs : List ℕ) → 1 ≤ count_by test xs → (x : ℕ) × (test x ≡ true)
counted test [] h = absurd (omega arith)
counted test (x ∷ xs) h =
    elim (cases_Bool (test x)) [
      | inl e ↦ (x, e)
      | inr e ↦ counted test xs (omega (arith, count_cons test x xs, bit_none (test x) e, h))
    ]

pub length_below : (n : ℕ) → length (numbers_below n) ≡ n
unfolding numbers_below
length_below n = length-range_with_len 0 n

-- Two majorities share a member.
pub majorities_meet : (m : Membership) (test other : ℕ → Bool) → are_majority m test ≡ true
    → are_majority m other ≡ true
    → (x : ℕ) × (test x ≡ true) × (other x ≡ true)
majorities_meet m test other h holds =
    let a : majority m ≤ count_by test (numbers_below m.count) = leb-true _ _ h in
    let within : majority m ≤ count_by other (numbers_below m.count) = leb-true _ _ holds in
    let both = both_count test other (numbers_below m.count) in
    let r = counted (λ x. test x && other x) (numbers_below m.count) (omega (arith, a, within, both, length_below m.count)) in
    let parts = and_parts (test r.0) (other r.0) r.1 in
    (r.0, parts.0, parts.1)

bit_le : (a d : Bool) → (a ≡ true → d ≡ true) → cond a 1 0 ≤ cond d 1 0
bit_le true d h = let e : d ≡ true = h refl in rw e (omega arith)
bit_le false d h = omega arith

pub majority_more : (m : Membership) (test other : ℕ → Bool) → ((x : ℕ) → test x ≡ true → other x ≡ true)
    → are_majority m test ≡ true
    → are_majority m other ≡ true
majority_more m test other h holds =
    let a : majority m ≤ count_by test (numbers_below m.count) = leb-true _ _ holds in
    let s = sum_by-le-sum_by (λ y. cond (test y) 1 0) (λ y. cond (other y) 1 0) (numbers_below m.count)
    (λ x. bit_le (test x) (other x) (h x)) in
    le-leb _ _ (omega (arith, a, s))
