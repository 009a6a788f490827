-- The tallies of all servers stay right as their instances change.
use Rattle.std.proofs.Common.{◌≡◌, ℕ, ◌+◌, ◌-◌, ◌<◌, ◌≤◌, Bool, true, false, cond, ◌&&◌, List, Option, eqb, min, refl, sym, ◌∙◌, ap, subst, arith, ⊎_elim}
use Rattle.std.specs.Prelude.{is_none, nat_lt}
use Rattle.std.specs.List.{count_by}
use Rattle.std.proofs.lemmas.Bool.{and_left, cases_eq, eq-eqb, lt-ltb, ne_eqb}
use Rattle.mencius_base.specs.Members.{Membership, numbers_below, instances, owner}
use Rattle.mencius_model.proofs.trace.NumberLists.{any-filter, count_by-below_none, instances-below}
use Rattle.coord_paxos.specs.SlotState.{SlotState}
use Rattle.mencius_server.specs.Instances.{AreSlotsAndSkips, InstancesState, instance_slot, instance_slot_in, instances_in, is_covered_stored, is_spent_stored}
use Rattle.mencius_server.specs.LearnedIntervals.{AreLearnedIntervals, interval_end}
use Rattle.mencius_server.specs.Tallies.{IsInstancesInside, IsSurvey, IsTally, is_spent_of, is_open_of, tally_after, no_tally, tally_of}
use Rattle.mencius_server.specs.declared.skipped_intervals.Interval.{Interval}
use Rattle.mencius_server.specs.declared.tally.Tally.{Tally}
use Rattle.mencius_server.proofs.intervals.IntervalCounts.{count_same}
use Rattle.mencius_server.proofs.stored.InstanceGaps.{unrevoked_past}
use Rattle.mencius_server.proofs.stored.StoredInstances.{seen}
use Rattle.mencius_server.proofs.suspicions.IntervalLeaps.{intervals_stay, no_learned_intervals}
use Rattle.mencius_base.specs.Limits.{instance_count}
use Rattle.mencius_server.specs.Machine.{is_spent}
use Rattle.mencius_server.proofs.tallies.CountsBelow.{any_counted}
use Rattle.mencius_server.proofs.tallies.OneTally.{IsAlike, alike_same, tally_after_is, tally_alike, tally_none}

-- ---- the instances that a suspicion would revoke

module _ (m : Membership) (slots : List (Option SlotState)) (rs : List (List Interval)) (now : InstancesState)
    (shown : instances_in m slots rs ≡ now) (q reach : ℕ) (d : Tally) (h : IsTally m (instance_slot_in m slots rs) q d)
    (stop : d.stop ≡ min reach instance_count) where
  same_members : m ≡ now.members
  same_members = ap (λ (x : InstancesState). x.members) shown

  open_at : (j : ℕ) → j < d.stop → is_open_of m (instance_slot_in m slots rs) q j ≡ is_covered_stored now q reach j
  open_at j l =
      let reached : j < reach = omega (arith, stop) in
      let small : j < instance_count = omega (arith, stop) in
      ap (λ (s : SlotState). eqb (owner m j) q && is_none s.learned) (sym (seen m slots rs now shown j small))
      ∙ ap (λ n. eqb (owner n j) q && is_none (instance_slot now j).learned) same_members
      ∙ ap (λ y. y && is_none (instance_slot now j).learned)
      (sym (ap (λ y. eqb (owner now.members j) q && y) (lt-ltb j reach reached)
      ∙ and-true (eqb (owner now.members j) q)))
    where
      and-true : (y : Bool) → (y && true) ≡ y
      and-true true = refl
      and-true false = refl

  spent_here : (j : ℕ) → j < d.stop
      → is_spent_of m (instance_slot_in m slots rs) q j ≡ (is_covered_stored now q reach j && is_spent_stored now j)
  spent_here j l =
      let small : j < instance_count = omega (arith, stop) in
      ap (λ y. y && is_spent m (instance_slot_in m slots rs j)) (open_at j l)
      ∙ ap (λ (s : SlotState). is_covered_stored now q reach j && is_spent m s)
      (sym (seen m slots rs now shown j small))
      ∙ ap (λ n. is_covered_stored now q reach j && is_spent n (instance_slot now j)) same_members

  count_all : (f g : ℕ → Bool) → ((j : ℕ) → j < d.stop → f j ≡ g j)
      → ((j : ℕ) → d.stop ≤ j → j < instance_count → g j ≡ false)
      → count_by f (numbers_below d.stop) ≡ count_by g instances
  count_all f g same past =
      let all : d.stop + (instance_count - d.stop) ≡ instance_count = omega (arith, h.small) in
      count_same f g d.stop same
      ∙ sym (ap (count_by g) instances-below ∙ ap (λ n. count_by g (numbers_below n)) (sym all)
      ∙ count_by-below_none g d.stop (instance_count - d.stop) (λ j low high. past j low (omega (arith, all))))

  closed_past : (j : ℕ) → d.stop ≤ j → j < instance_count → is_covered_stored now q reach j ≡ false
  closed_past j low small =
      unrevoked_past now.members q reach j (instance_slot now j) (omega (arith, stop))

  pub tally_survey : IsSurvey now q reach d
  tally_survey = record {
    open_count =
        h.open_count ∙ count_all (is_open_of m (instance_slot_in m slots rs) q) (is_covered_stored now q reach) open_at
        closed_past;
    spent_count =
        ap (nat_lt 0) (h.spent_count ∙ count_all (is_spent_of m (instance_slot_in m slots rs) q)
        (λ j. is_covered_stored now q reach j && is_spent_stored now j) spent_here
        (λ j low small. and_left _ _ (closed_past j low small)))
        ∙ sym (any-filter (is_covered_stored now q reach) (is_spent_stored now) instances
        ∙ any_counted (λ j. is_covered_stored now q reach j && is_spent_stored now j));
  }

-- ---- the tallies of all servers

-- The fields of the instances still fit together after a change was refused.
pub unchanged : (m : Membership) (slots new : List (Option SlotState)) (rs : List (List Interval)) (low : ℕ)
    (tallies : List Tally) (ends : List ℕ) → new ≡ slots → IsInstancesInside m slots rs low tallies ends
    → IsInstancesInside m new rs low tallies ends
unchanged m slots new rs low tallies ends same h = subst (λ ss. IsInstancesInside m ss rs low tallies ends) (sym same) h

-- The fields of the instances fit together if nothing was counted and no interval is known.
pub uncounted : (m : Membership) (slots : List (Option SlotState)) (rs : List (List Interval)) (low : ℕ)
    (tallies : List Tally) (ends : List ℕ) → AreSlotsAndSkips m slots rs low
    → ((q : ℕ) → tally_of tallies q ≡ no_tally) → ((i : ℕ) → interval_end ends i ≡ 0)
    → IsInstancesInside m slots rs low tallies ends
uncounted m slots rs low tallies ends sound none start = record {
  sound = sound;
  counted = λ q. tally_none m (instance_slot_in m slots rs) q _ (none q);
  learned_intervals = no_learned_intervals m _ ends start;
}

-- All tallies stay right if each instance still counts the same.
pub counts_kept : (m : Membership) (slots new : List (Option SlotState)) (rs intervals : List (List Interval))
    (low next : ℕ)
    (tallies : List Tally) (ends : List ℕ) → AreSlotsAndSkips m new intervals next
    → ((j : ℕ) → j < instance_count → IsAlike m (instance_slot_in m slots rs j) (instance_slot_in m new intervals j))
    → IsInstancesInside m slots rs low tallies ends → IsInstancesInside m new intervals next tallies ends
counts_kept m slots new rs intervals low next tallies ends sound alike h = record {
  sound = sound;
  counted = λ q. tally_alike m (instance_slot_in m slots rs) (instance_slot_in m new intervals) q (tally_of tallies q)
      (λ j small own. alike j small) (h.counted q);
  learned_intervals = intervals_stay m _ _ ends (λ j small closed. sym (alike j small).open_count ∙ closed)
      h.learned_intervals;
}

-- All tallies are right after one slot changes and the tally of its owner is updated.
pub counts_after : (m : Membership) (slots new : List (Option SlotState)) (rs : List (List Interval)) (low next i : ℕ)
    (tallies more : List Tally) (ends : List ℕ) (s r : SlotState) → instance_slot_in m slots rs i ≡ s
    → instance_slot_in m new rs i ≡ r
    → ((j : ℕ) → (j ≡ i → ⊥) → instance_slot_in m slots rs j ≡ instance_slot_in m new rs j)
    → (is_none s.learned ≡ false → is_none r.learned ≡ false)
    → ((q : ℕ) → tally_of more q
    ≡ cond (eqb q (owner m i)) (tally_after m i (tally_of tallies q) s r) (tally_of tallies q))
    → AreSlotsAndSkips m new rs next → IsInstancesInside m slots rs low tallies ends
    → IsInstancesInside m new rs next more ends
counts_after m slots new rs low next i tallies more ends s r was is rest stays moves sound h = record {
  sound = sound;
  counted = λ q. subst (IsTally m (instance_slot_in m new rs) q) (sym (moves q)) (⊎_elim
      (λ (own : owner m i ≡ q).
      subst (λ bit. IsTally m (instance_slot_in m new rs) q
      (cond bit (tally_after m i (tally_of tallies q) s r) (tally_of tallies q))) (sym (eq-eqb q (owner m i) (sym own)))
      (subst (λ x. IsTally m (instance_slot_in m new rs) q (tally_after m i (tally_of tallies q) x r)) was
      (subst (λ x. IsTally m (instance_slot_in m new rs) q
      (tally_after m i (tally_of tallies q) (instance_slot_in m slots rs i) x)) is
      (tally_after_is m (instance_slot_in m slots rs) q i (tally_of tallies q) own (h.counted q)
      (instance_slot_in m new rs) rest))))
      (λ (other : owner m i ≡ q → ⊥).
      subst (λ bit. IsTally m (instance_slot_in m new rs) q
      (cond bit (tally_after m i (tally_of tallies q) s r) (tally_of tallies q)))
      (sym (ne_eqb q (owner m i) (λ e. other (sym e))))
      (tally_alike m (instance_slot_in m slots rs) (instance_slot_in m new rs) q (tally_of tallies q)
      (λ j small own. alike_same m _ _ (rest j (λ e. other (ap (owner m) (sym e) ∙ own)))) (h.counted q)))
      (cases_eq (owner m i) q));
  learned_intervals = intervals_stay m _ _ ends (λ j small closed. ⊎_elim
      (λ (at : j ≡ i).
      let here : instance_slot_in m new rs j ≡ r = ap (instance_slot_in m new rs) at ∙ is in
      let before : instance_slot_in m slots rs j ≡ s = ap (instance_slot_in m slots rs) at ∙ was in
      ap (λ (x : SlotState). is_none x.learned) here
      ∙ stays (sym (ap (λ (x : SlotState). is_none x.learned) before) ∙ closed))
      (λ (off : j ≡ i → ⊥).
      sym (ap (λ (x : SlotState). is_none x.learned) (rest j off)) ∙ closed)
      (cases_eq j i)) h.learned_intervals;
}

-- All tallies are right after one server's instances are counted again or further, if all other instances still count
-- the same.
pub counts_put : (m : Membership) (slots new : List (Option SlotState)) (rs intervals : List (List Interval))
    (low next : ℕ)
    (tallies more : List Tally) (ends : List ℕ) (p : ℕ) → AreSlotsAndSkips m new intervals next
    → ((j : ℕ) → j < instance_count → (owner m j ≡ p → ⊥)
    → IsAlike m (instance_slot_in m slots rs j) (instance_slot_in m new intervals j))
    → ((j : ℕ) → j < instance_count → is_none (instance_slot_in m slots rs j).learned ≡ false
    → is_none (instance_slot_in m new intervals j).learned ≡ false)
    → IsTally m (instance_slot_in m new intervals) p (tally_of more p)
    → ((q : ℕ) → (q ≡ p → ⊥) → tally_of more q ≡ tally_of tallies q)
    → IsInstancesInside m slots rs low tallies ends → IsInstancesInside m new intervals next more ends
counts_put m slots new rs intervals low next tallies more ends p sound alike stays here rest h = record {
  sound = sound;
  counted = λ q. ⊎_elim
      (λ (at : q ≡ p). subst (λ q. IsTally m (instance_slot_in m new intervals) q (tally_of more q)) (sym at) here)
      (λ (off : q ≡ p → ⊥).
      subst (IsTally m (instance_slot_in m new intervals) q) (sym (rest q off))
      (tally_alike m (instance_slot_in m slots rs) (instance_slot_in m new intervals) q (tally_of tallies q)
      (λ j small own. alike j small (λ e. off (sym own ∙ e))) (h.counted q)))
      (cases_eq q p);
  learned_intervals = intervals_stay m _ _ ends stays h.learned_intervals;
}

-- The fields of the instances still fit together with another table of learned intervals.
pub intervals_kept : (m : Membership) (slots : List (Option SlotState)) (rs : List (List Interval)) (low : ℕ)
    (tallies : List Tally) (ends more : List ℕ)
    → AreLearnedIntervals m (λ j. is_none (instance_slot_in m slots rs j).learned) more
    → IsInstancesInside m slots rs low tallies ends → IsInstancesInside m slots rs low tallies more
intervals_kept m slots rs low tallies ends more learned_intervals h =
    record { sound = h.sound; counted = h.counted; learned_intervals = learned_intervals }
