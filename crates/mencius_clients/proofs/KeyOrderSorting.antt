-- A stable sort by moments gives one list.
use Rattle.std.proofs.Common.{◌≡◌, inl, inr, ℕ, suc, ◌<◌, ◌≤◌, ◌&&◌, not, Bool, true, false, cond, List, [], ◌∷◌, length, get_or, arith, refl, sym, subst, ap, ◌∙◌}
use Rattle.std.specs.List.{filter}
use Rattle.std.specs.List.Sorted.{IsNonDecreasingBy, IsStableByKey}
use Rattle.std.specs.Ordering.{is_lt, nat_cmp}
use Rattle.std.proofs.lemmas.Bool.{cases_Bool, cases_order}
use Rattle.std.proofs.lemmas.Bool.Decides.{nat_tests}
use Rattle.mencius_clients.specs.declared.timed_command.TimedCommand.{TimedCommand}
use Rattle.mencius_clients.proofs.LocalitySorting.{Each, IsFirst, IsSorted, each_more, filter_none, kept_order, sorted_sorted}
use Rattle.mencius_clients.specs.KeyOrders.{sorted}

-- whether two numbers are equal, by the order of numbers
abbrev is_equal : ℕ → ℕ → Bool
is_equal a b = not (is_lt (nat_cmp a b)) && not (is_lt (nat_cmp b a))

equal_same : (a : ℕ) → is_equal a a ≡ true
equal_same a = grind (arith, nat_tests)

equal_is : (a b : ℕ) → is_equal a b ≡ true → a ≡ b
equal_is a b e = grind (arith, nat_tests)

equal_less : (a b : ℕ) → a < b → is_equal a b ≡ false
equal_less a b less = grind (arith, nat_tests)

abbrev tie : TimedCommand → TimedCommand → Bool
tie c d = is_equal c.moment d.moment

-- ---- lists

each_passing : (P : TimedCommand → Type 0) (q : TimedCommand → Bool) (cs : List TimedCommand)
    → ((c : TimedCommand) → q c ≡ true → P c) → Each P (filter q cs)
each_passing P q [] f = tt
each_passing P q (c ∷ cs) f =
    elim (cases_Bool (q c)) [
      | inl e ↦ subst (λ d. Each P (cond d (c ∷ filter q cs) (filter q cs))) (sym e) (f c e, each_passing P q cs f)
      | inr e ↦ subst (λ d. Each P (cond d (c ∷ filter q cs) (filter q cs))) (sym e) (each_passing P q cs f)
    ]

each_from : (P : TimedCommand → Type 0) (cs : List TimedCommand)
    → ((j : ℕ) (d : TimedCommand) → j < length cs → P (get_or cs j d)) → Each P cs
each_from P [] h = tt
each_from P (c ∷ cs) h = (h 0 c (omega arith), each_from P cs (λ j d less. h (suc j) d (omega (arith, less))))

pub sorted_from : (cs : List TimedCommand) → IsNonDecreasingBy (λ (c : TimedCommand). c.moment) cs → IsSorted cs
sorted_from [] h = tt
sorted_from (c ∷ cs) h = (
  each_from (λ d. c.moment ≤ d.moment) cs (λ j d less. h 0 (suc j) d (omega arith) (omega (arith, less))),
  sorted_from cs (λ i j d less within. h (suc i) (suc j) d (omega (arith, less)) (omega (arith, within))),
)

-- ---- commands with one moment

ties_sorted : (z : TimedCommand) (cs : List TimedCommand) → IsSorted (filter (tie z) cs)
ties_sorted z [] = tt
ties_sorted z (c ∷ cs) =
    elim (cases_Bool (tie z c)) [
      | inl e ↦
          subst (λ d. IsSorted (cond d (c ∷ filter (tie z) cs) (filter (tie z) cs))) (sym e) (
            each_passing (λ d. c.moment ≤ d.moment) (tie z) cs (λ d g.
                let same = equal_is z.moment c.moment e in
                let other = equal_is z.moment d.moment g in
                omega arith),
            ties_sorted z cs,
          )
      | inr e ↦ subst (λ d. IsSorted (cond d (c ∷ filter (tie z) cs) (filter (tie z) cs))) (sym e) (ties_sorted z cs)
    ]

-- the first command has an earlier moment than all of the list, so none of them has its moment
none_tie : (x y : TimedCommand) (ys : List TimedCommand) → x.moment < y.moment → IsFirst y ys
    → filter (tie x) (y ∷ ys) ≡ []
none_tie x y ys less first =
    filter_none (tie x) (y ∷ ys) (
      equal_less x.moment y.moment less,
      each_more (λ d. y.moment ≤ d.moment) (λ d. tie x d ≡ false) ys
          (λ d g. equal_less x.moment d.moment (omega (arith, less, g))) first,
    )

own_tie : (x : TimedCommand) (xs : List TimedCommand) → filter (tie x) (x ∷ xs) ≡ x ∷ filter (tie x) xs
own_tie x xs = ap (λ d. cond d (x ∷ filter (tie x) xs) (filter (tie x) xs)) (equal_same x.moment)

same_rest : (b : Bool) (x : TimedCommand) (xs ys : List TimedCommand) → cond b (x ∷ xs) xs ≡ cond b (x ∷ ys) ys → xs ≡ ys
same_rest true x xs ys e = cc
same_rest false x xs ys e = e

-- two sorted lists are the same if they have the same commands at each moment, in the same order
same_sorts : (xs ys : List TimedCommand) → IsSorted xs → IsSorted ys
    → ((z : TimedCommand) → filter (tie z) xs ≡ filter (tie z) ys) → xs ≡ ys
same_sorts [] [] s t h = refl
same_sorts [] (y ∷ ys) s t h = let e : [] ≡ y ∷ filter (tie y) ys = h y ∙ own_tie y ys in absurd (cc)
same_sorts (x ∷ xs) [] s t h = let e : x ∷ filter (tie x) xs ≡ [] = sym (own_tie x xs) ∙ h x in absurd (cc)
same_sorts (x ∷ xs) (y ∷ ys) s t h =
    elim (cases_order x.moment y.moment) [
      | inl same ↦
          let tied : tie x y ≡ true = subst (λ n. is_equal x.moment n ≡ true) same (equal_same x.moment) in
          let e : x ∷ filter (tie x) xs ≡ y ∷ filter (tie x) ys =
          sym (own_tie x xs) ∙ h x ∙ ap (λ d. cond d (y ∷ filter (tie x) ys) (filter (tie x) ys)) tied in
          let one : x ≡ y = cc in
          let after : xs ≡ ys = same_sorts xs ys s.1 t.1 (λ z.
          same_rest (tie z x) x (filter (tie z) xs) (filter (tie z) ys)
          (h z ∙ sym (ap (λ c. cond (tie z c) (c ∷ filter (tie z) ys) (filter (tie z) ys)) one))) in
          cc
      | inr (inl less) ↦
          let e : x ∷ filter (tie x) xs ≡ [] = sym (own_tie x xs) ∙ h x ∙ none_tie x y ys less t.0 in absurd (cc)
      | inr (inr less) ↦
          let e : y ∷ filter (tie y) ys ≡ [] = sym (own_tie y ys) ∙ sym (h y) ∙ none_tie y x xs less s.0 in absurd (cc)
    ]

pub from_sort : (xs ys : List TimedCommand) → IsNonDecreasingBy (λ (c : TimedCommand). c.moment) ys
    → IsStableByKey (λ (c : TimedCommand). c.moment) nat_cmp xs ys → ys ≡ sorted xs
from_sort xs ys rising stable =
    same_sorts ys (sorted xs) (sorted_from ys rising) (sorted_sorted xs)
    (λ z. stable z ∙ sym (kept_order (tie z) xs (ties_sorted z xs)))
