-- Intervals of learned instances stay right when an interval is recorded, and a search may leap over them.
use Rattle.std.proofs.Common.{◌≡◌, ℕ, ◌+◌, ◌<◌, ◌≤◌, Bool, false, List, cond, eqb, ltb, sym, ◌∙◌, ap, subst, arith, inl, inr, ◌⊎◌, ⊎_elim}
use Rattle.std.proofs.lemmas.Bool.{cases_eq, cases_lt, eq-eqb, le-ltb, lt-ltb, ne_eqb}
use Rattle.mencius_base.specs.Limits.{greatest_front, instance_count}
use Rattle.mencius_base.specs.Members.{Membership, owner}
use Rattle.mencius_server.specs.LearnedIntervals.{AreLearnedIntervals, interval_end}

-- If no interval is known, the table of intervals is right.
pub no_learned_intervals : (m : Membership) (f : ℕ → Bool) (ends : List ℕ) → ((i : ℕ) → interval_end ends i ≡ 0)
    → AreLearnedIntervals m f ends
no_learned_intervals m f ends none = record {
  own = λ i less. absurd (omega (arith, less, none i));
  near = λ i. omega (arith, none i);
  closed = λ i j from less own small. absurd (omega (arith, less, none i));
}

-- The table stays right if no further instance becomes open.
pub intervals_stay : (m : Membership) (f g : ℕ → Bool) (ends : List ℕ)
    → ((j : ℕ) → j < instance_count → f j ≡ false → g j ≡ false) → AreLearnedIntervals m f ends
    → AreLearnedIntervals m g ends
intervals_stay m f g ends stays h = record {
  own = h.own;
  near = h.near;
  closed = λ i j from less own small. stays j small (h.closed i j from less own small);
}

-- The table is also right for an equal membership.
pub intervals_of : (m n : Membership) (f : ℕ → Bool) (ends : List ℕ) → m ≡ n → AreLearnedIntervals m f ends
    → AreLearnedIntervals n f ends
intervals_of m n f ends same h = subst (λ (x : Membership). AreLearnedIntervals x f ends) same h

-- The table stays right when another interval without open instances is recorded.
pub interval_put : (m : Membership) (f : ℕ → Bool) (ends more : List ℕ) (first end : ℕ)
    → ((i : ℕ) → interval_end more i ≡ cond (eqb i first) end (interval_end ends i))
    → owner m end ≡ owner m first → end ≤ greatest_front
    → ((j : ℕ) → first ≤ j → j < end → owner m j ≡ owner m first → j < instance_count → f j ≡ false)
    → AreLearnedIntervals m f ends → AreLearnedIntervals m f more
interval_put m f ends more first end puts own near closed h = record {
  own = λ i less. ⊎_elim
      (λ (at : i ≡ first). ap (owner m) (here i at) ∙ own ∙ ap (owner m) (sym at))
      (λ (off : i ≡ first → ⊥). ap (owner m) (there i off) ∙ h.own i (omega (arith, less, there i off)))
      (cases_eq i first);
  near = λ i. ⊎_elim
      (λ (at : i ≡ first). omega (arith, near, here i at))
      (λ (off : i ≡ first → ⊥). omega (arith, h.near i, there i off))
      (cases_eq i first);
  closed = λ i j from less mine small. ⊎_elim
      (λ (at : i ≡ first).
      closed j (omega (arith, from, at)) (omega (arith, less, here i at)) (mine ∙ ap (owner m) at) small)
      (λ (off : i ≡ first → ⊥). h.closed i j from (omega (arith, less, there i off)) mine small)
      (cases_eq i first);
}
  where
    here : (i : ℕ) → i ≡ first → interval_end more i ≡ end
    here i at = puts i ∙ ap (λ bit. cond bit end (interval_end ends i)) (eq-eqb i first at)

    there : (i : ℕ) → (i ≡ first → ⊥) → interval_end more i ≡ interval_end ends i
    there i off = puts i ∙ ap (λ bit. cond bit end (interval_end ends i)) (ne_eqb i first off)

-- The place after an instance is the end of the interval that is known to begin there, or the next instance.
module _ (m : Membership) (ends : List ℕ) (i next past : ℕ)
    (is : past ≡ cond (ltb i (interval_end ends i)) (interval_end ends i) next) (above : i + 1 ≤ next)
    (owned : owner m next ≡ owner m i) where
  place : ((i < interval_end ends i) × (past ≡ interval_end ends i)) ⊎ (past ≡ next)
  place = ⊎_elim
      (λ (less : i < interval_end ends i).
      inl (less, is ∙ ap (λ bit. cond bit (interval_end ends i) next) (lt-ltb i (interval_end ends i) less)))
      (λ (none : interval_end ends i ≤ i).
      inr (is ∙ ap (λ bit. cond bit (interval_end ends i) next) (le-ltb i (interval_end ends i) none)))
      (cases_lt i (interval_end ends i))

  pub past_above : i + 1 ≤ past
  past_above = ⊎_elim
      (λ (leap : (i < interval_end ends i) × (past ≡ interval_end ends i)). omega (arith, leap.0, leap.1))
      (λ (one : past ≡ next). omega (arith, one, above))
      place

  module _ (f : ℕ → Bool) (h : AreLearnedIntervals m f ends) where
    pub past_owned : owner m past ≡ owner m i
    past_owned = ⊎_elim
        (λ (leap : (i < interval_end ends i) × (past ≡ interval_end ends i)). ap (owner m) leap.1 ∙ h.own i leap.0)
        (λ (one : past ≡ next). ap (owner m) one ∙ owned)
        place

    pub past_near : next ≤ greatest_front → past ≤ greatest_front
    past_near near = ⊎_elim
        (λ (leap : (i < interval_end ends i) × (past ≡ interval_end ends i)). omega (arith, leap.1, h.near i))
        (λ (one : past ≡ next). omega (arith, one, near))
        place

    pub past_closed : ((j : ℕ) → i + 1 ≤ j → owner m j ≡ owner m i → next ≤ j) → f i ≡ false
        → (j : ℕ) → i ≤ j → j < past → owner m j ≡ owner m i → j < instance_count → f j ≡ false
    past_closed least here j from less mine small = ⊎_elim
        (λ (leap : (i < interval_end ends i) × (past ≡ interval_end ends i)).
        h.closed i j from (omega (arith, less, leap.1)) mine small)
        (λ (one : past ≡ next). ⊎_elim
        (λ (at : j ≡ i). ap f at ∙ here)
        (λ (off : j ≡ i → ⊥). absurd (omega (arith, less, one, least j (omega (arith, from, off)) mine)))
        (cases_eq j i))
        place
