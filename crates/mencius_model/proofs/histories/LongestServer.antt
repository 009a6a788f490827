-- The longest history, and the lowest server that has it.
use Rattle.std.proofs.Common.{◌≡◌, ℕ, zero, suc, ◌+◌, ◌-◌, ◌<◌, ◌≤◌, cond, ltb, ltb-true, ltb-false, fold, inl, inr, refl, sym, ap, subst, ◌∙◌, arith, [], ◌∷◌, length}
use Rattle.std.proofs.lemmas.Bool.{cases_Bool, cases_lt, le-ltb, lt-ltb}
use Rattle.std.proofs.lemmas.List.Sums.{fold-append}
use Rattle.mencius_base.specs.Numbers.{ServerId}
use Rattle.mencius_base.specs.Members.{Membership, numbers_below}
use Rattle.mencius_model.specs.Trace.{Trace}
use Rattle.mencius_model.proofs.trace.NumberLists.{below-more}
use Rattle.mencius_model.specs.Replies.{longest_at}
use Rattle.mencius_model.specs.Executed.{history}
use Rattle.mencius_model.proofs.trace.Parts.{longest_below}

-- Among the first n numbers, p is the lowest that has the greatest value of f.
pub record IsFurthest (f : ServerId → ℕ) (n : ℕ) (p : ServerId) : Type 0 where
  pub member : p ≤ n - 1
  pub longest : (q : ServerId) → q < n → f q ≤ f p
  pub least : (q : ServerId) → q < p → f q < f p

abbrev pub further : (ServerId → ℕ) → ServerId → ServerId → ServerId
further f p q = cond (ltb (f p) (f q)) q p

one_further : (f : ℕ → ℕ) (n p : ℕ) → IsFurthest f n p → IsFurthest f (n + 1) (further f p n)
one_further f n p h =
    elim (cases_Bool (ltb (f p) (f n))) [
      | inl e ↦
          let more = ltb-true (f p) (f n) e in
          rw e (record {
            member = omega arith;
            longest = λ q lt. elim (cases_lt q n) [
              | inl below ↦ omega (arith, h.longest q below, more)
              | inr last ↦ let same : q ≡ n = omega arith in subst (λ x. f q ≤ f x) same (omega arith)
            ];
            least = λ q lt. omega (arith, h.longest q lt, more);
          })
      | inr e ↦
          let less = ltb-false (f p) (f n) e in
          rw e (record {
            member = let so = h.member in omega arith;
            longest = λ q lt. elim (cases_lt q n) [
              | inl below ↦ h.longest q below
              | inr last ↦ let same : n ≡ q = omega arith in subst (λ x. f x ≤ f p) same less
            ];
            least = h.least;
          })
    ]

furthest : (f : ℕ → ℕ) (n : ℕ) → IsFurthest f n (fold (further f) 0 (numbers_below n))
unfolding numbers_below
furthest f zero =
    record { member = omega arith; longest = λ q h. absurd (omega arith); least = λ q h. absurd (omega arith) }
furthest f (suc n) =
    let next : suc n ≡ n + 1 = omega arith in
    let more : fold (further f) 0 (numbers_below (n + 1)) ≡ further f (fold (further f) 0 (numbers_below n)) n =
    ap (fold (further f) 0) (below-more n) ∙ fold-append (further f) 0 (numbers_below n) (n ∷ []) in
    subst (λ y. IsFurthest f y (fold (further f) 0 (numbers_below y))) (sym next)
    (subst (IsFurthest f (n + 1)) (sym more) (one_further f n (fold (further f) 0 (numbers_below n)) (furthest f n)))

-- The longest history among p + 1 servers is found from the longest among the first p servers and from server p.
pub longest-more : (w : Trace) (p : ℕ)
    → fold (longest_below w) 0 (numbers_below (p + 1)) ≡ longest_below w (fold (longest_below w) 0 (numbers_below p)) p
longest-more w p = ap (fold (longest_below w) 0) (below-more p) ∙ fold-append (longest_below w) 0 (numbers_below p) (p ∷ [])

pub longest-none : (w : Trace) → fold (longest_below w) 0 (numbers_below 0) ≡ 0
unfolding numbers_below
longest-none w = refl

pub longest_is : (m : Membership) (w : Trace) → IsFurthest (λ p. length (history w p)) m.count (longest_at m w)
longest_is m w = furthest (λ p. length (history w p)) m.count

pub is_longer : (w : Trace) (p q : ℕ) → length (history w p) < length (history w q) → q ≡ longest_below w p q
is_longer w p q h = sym (ap (λ a. cond a q p) (lt-ltb (length (history w p)) (length (history w q)) h))

pub is_no_longer : (w : Trace) (p q : ℕ) → length (history w q) ≤ length (history w p) → p ≡ longest_below w p q
is_no_longer w p q h = sym (ap (λ a. cond a q p) (le-ltb (length (history w p)) (length (history w q)) h))
