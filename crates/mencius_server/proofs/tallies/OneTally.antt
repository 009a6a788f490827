-- The tally of one server stays right as its instances change and as more of them are counted.
use Rattle.std.proofs.Common.{◌≡◌, ℕ, ◌+◌, ◌<◌, ◌≤◌, Bool, false, cond, ◌&&◌, List, Option, None, Some, eqb, refl, sym, ◌∙◌, ap, subst, arith, ⊎_elim}
use Rattle.std.specs.Prelude.{is_none}
use Rattle.std.specs.List.{count_by}
use Rattle.std.proofs.lemmas.Bool.{and_left, and_right, cases_eq, cases_lt, eq-eqb, le-ltb, lt-ltb, ne_eqb}
use Rattle.mencius_base.specs.Members.{Membership, numbers_below, owner}
use Rattle.mencius_model.proofs.trace.NumberLists.{count_by-below_zero}
use Rattle.coord_paxos.specs.SlotState.{SlotState}
use Rattle.mencius_server.specs.Instances.{AreSlotsAndSkips, instance_slot_in}
use Rattle.mencius_server.specs.Slots.{stored_at}
use Rattle.mencius_server.specs.Tallies.{HasCounted, IsTally, IsTallyFrom, LearnedWhereSkipped, spent_one, is_spent_of, is_open_of, tally_after, no_tally, open_one, tally_sum, with_counted, without_counted}
use Rattle.mencius_server.specs.declared.skipped_intervals.Interval.{Interval}
use Rattle.mencius_server.specs.declared.tally.Tally.{Tally}
use Rattle.mencius_server.proofs.intervals.IntervalCounts.{bit, count_same}
use Rattle.mencius_server.proofs.stored.InstanceGaps.{count_gap, count_to}
use Rattle.mencius_server.proofs.stored.SkipLoop.{IsCountUpTo, count_more}
use Rattle.mencius_base.specs.Limits.{instance_count}
use Rattle.mencius_server.specs.Machine.{is_spent}
use Rattle.mencius_server.proofs.tallies.CountsBelow.{count_but, count_few, count_one, count_still}

-- An instance of another server is not counted.
pub other_open : (m : Membership) (f : ℕ → SlotState) (q j : ℕ) → (owner m j ≡ q → ⊥) → is_open_of m f q j ≡ false
other_open m f q j other = and_left _ _ (ne_eqb (owner m j) q other)

pub own_open : (m : Membership) (f : ℕ → SlotState) (q j : ℕ) → owner m j ≡ q
    → is_open_of m f q j ≡ is_none (f j).learned
own_open m f q j own = ap (λ bit. bit && is_none (f j).learned) (eq-eqb (owner m j) q own)

pub own_spent : (m : Membership) (f : ℕ → SlotState) (q j : ℕ) → owner m j ≡ q
    → is_spent_of m f q j ≡ (is_none (f j).learned && is_spent m (f j))
own_spent m f q j own = ap (λ bit. (bit && is_none (f j).learned) && is_spent m (f j)) (eq-eqb (owner m j) q own)

-- Two slots count the same.
pub record IsAlike (m : Membership) (s r : SlotState) : Type 0 where
  pub open_count : is_none s.learned ≡ is_none r.learned
  pub spent_count : (is_none s.learned && is_spent m s) ≡ (is_none r.learned && is_spent m r)

pub alike_same : (m : Membership) (s r : SlotState) → s ≡ r → IsAlike m s r
alike_same m s r e = record {
  open_count = ap (λ (x : SlotState). is_none x.learned) e;
  spent_count = ap (λ (x : SlotState). is_none x.learned && is_spent m x) e;
}

pub tally_alike : (m : Membership) (f g : ℕ → SlotState) (q : ℕ) (a : Tally)
    → ((j : ℕ) → j < instance_count → owner m j ≡ q → IsAlike m (f j) (g j)) → IsTally m f q a → IsTally m g q a
tally_alike m f g q a alike h = record {
  small = h.small;
  open_count = h.open_count ∙ count_same (is_open_of m f q) (is_open_of m g q) a.stop
      (λ j l. ⊎_elim
      (λ (own : owner m j ≡ q). own_open m f q j own ∙ (alike j (omega (arith, h.small)) own).open_count
      ∙ sym (own_open m g q j own))
      (λ (other : owner m j ≡ q → ⊥). other_open m f q j other ∙ sym (other_open m g q j other))
      (cases_eq (owner m j) q));
  spent_count = h.spent_count ∙ count_same (is_spent_of m f q) (is_spent_of m g q) a.stop
      (λ j l. ⊎_elim
      (λ (own : owner m j ≡ q). own_spent m f q j own ∙ (alike j (omega (arith, h.small)) own).spent_count
      ∙ sym (own_spent m g q j own))
      (λ (other : owner m j ≡ q → ⊥). and_left _ _ (other_open m f q j other)
      ∙ sym (and_left _ _ (other_open m g q j other)))
      (cases_eq (owner m j) q));
}

pub tally_none : (m : Membership) (f : ℕ → SlotState) (q : ℕ) (a : Tally) → a ≡ no_tally → IsTally m f q a
tally_none m f q a e = rw e (record {
  small = omega arith;
  open_count = sym (count_by-below_zero (is_open_of m f q));
  spent_count = sym (count_by-below_zero (is_spent_of m f q));
})

module _ (m : Membership) (f : ℕ → SlotState) (q i : ℕ) (a : Tally) (own : owner m i ≡ q) (h : IsTally m f q a) where
  open_bit : bit (is_open_of m f q i) ≡ open_one (f i)
  open_bit = ap bit (own_open m f q i own)

  spent_bit : bit (is_spent_of m f q i) ≡ spent_one m (f i)
  spent_bit = ap bit (own_spent m f q i own)

  -- The slot of an instance below the end of a tally was counted.
  pub has_counted : i < a.stop → HasCounted m a (f i)
  has_counted less = record {
    open_count = omega (arith, open_bit, h.open_count, count_one (is_open_of m f q) i a.stop less);
    spent_count = omega (arith, spent_bit, h.spent_count, count_one (is_spent_of m f q) i a.stop less);
    few = omega (arith, h.open_count, h.small, count_few (is_open_of m f q) a.stop);
    fewer = omega (arith, h.spent_count, h.small, count_few (is_spent_of m f q) a.stop);
  }

  module _ (g : ℕ → SlotState) (rest : (j : ℕ) → (j ≡ i → ⊥) → f j ≡ g j) where
    open_rest : (j : ℕ) → (j ≡ i → ⊥) → is_open_of m f q j ≡ is_open_of m g q j
    open_rest j off = ap (λ (s : SlotState). eqb (owner m j) q && is_none s.learned) (rest j off)

    spent_rest : (j : ℕ) → (j ≡ i → ⊥) → is_spent_of m f q j ≡ is_spent_of m g q j
    spent_rest j off =
        ap (λ (s : SlotState). (eqb (owner m j) q && is_none s.learned) && is_spent m s) (rest j off)

    new_open : bit (is_open_of m g q i) ≡ open_one (g i)
    new_open = ap bit (own_open m g q i own)

    new_spent : bit (is_spent_of m g q i) ≡ spent_one m (g i)
    new_spent = ap bit (own_spent m g q i own)

    counted_anew : i < a.stop → IsTally m g q (with_counted m (without_counted m a (f i)) (g i))
    counted_anew less =
        let was = has_counted less in
        record {
          small = h.small;
          open_count = omega (
            arith,
            open_bit,
            new_open,
            h.open_count,
            was.open_count,
            count_but (is_open_of m f q) (is_open_of m g q) a.stop i less open_rest,
          );
          spent_count = omega (
            arith,
            spent_bit,
            new_spent,
            h.spent_count,
            was.spent_count,
            count_but (is_spent_of m f q) (is_spent_of m g q) a.stop i less spent_rest,
          );
        }

    -- The tally is right after one slot changes and the tally is updated.
    pub tally_after_is : IsTally m g q (tally_after m i a (f i) (g i))
    tally_after_is =
        ⊎_elim
        (λ (less : i < a.stop).
        subst (λ bit. IsTally m g q (cond bit (with_counted m (without_counted m a (f i)) (g i)) a))
        (sym (lt-ltb i a.stop less))
        (counted_anew less))
        (λ (past : a.stop ≤ i).
        subst (λ bit. IsTally m g q (cond bit (with_counted m (without_counted m a (f i)) (g i)) a))
        (sym (le-ltb i a.stop past))
        (record {
          small = h.small;
          open_count = h.open_count ∙ count_same (is_open_of m f q) (is_open_of m g q) a.stop
              (λ j l. open_rest j (λ e. absurd (omega arith)));
          spent_count = h.spent_count ∙ count_same (is_spent_of m f q) (is_spent_of m g q) a.stop
              (λ j l. spent_rest j (λ e. absurd (omega arith)));
        }))
        (cases_lt i a.stop)

-- ---- continuing a count

-- The tally `a` counts q's instances from `first` up to, but not including, the instance i of q. No instance of q from
-- `stop` on is below i.
pub record IsTalliedTo (m : Membership) (f : ℕ → SlotState) (q first stop : ℕ) (a : Tally) (i : ℕ) : Type 0 where
  pub own : owner m i ≡ q
  pub over : (j : ℕ) → stop ≤ j → j < i → owner m j ≡ q → ⊥
  pub opens : IsCountUpTo (is_open_of m f q) i (a.open_count + count_by (is_open_of m f q) (numbers_below first))
  pub spent : IsCountUpTo (is_spent_of m f q) i (a.spent_count + count_by (is_spent_of m f q) (numbers_below first))

module _ (m : Membership) (f : ℕ → SlotState) (q first stop : ℕ) where
  pub tallied_start : (a : Tally) (i : ℕ) → a.open_count ≡ 0 → a.spent_count ≡ 0 → first ≤ stop → owner m i ≡ q
      → first ≤ i → ((j : ℕ) → first ≤ j → owner m j ≡ q → i ≤ j) → IsTalliedTo m f q first stop a i
  tallied_start a i no_open no_spent ahead own low least = record {
    own = own;
    over = λ j past less mine. let far = least j (omega arith) mine in absurd (omega (arith, far));
    opens = count_gap (is_open_of m f q) first i _ low unowned_open (record { counted = omega (arith, no_open) });
    spent = count_gap (is_spent_of m f q) first i _ low (λ j from less. and_left _ _ (unowned_open j from less))
        (record { counted = omega (arith, no_spent) });
  }
    where
      unowned_open : (j : ℕ) → first ≤ j → j < i → is_open_of m f q j ≡ false
      unowned_open j from less =
          other_open m f q j (λ mine. let far = least j from mine in absurd (omega (arith, far)))

  pub tallied_few : (a : Tally) (i : ℕ) → i < stop → stop ≤ instance_count → IsTalliedTo m f q first stop a i
      → (a.open_count ≤ instance_count) × (a.spent_count ≤ instance_count)
  tallied_few a i less small h = (
    omega (arith, h.opens.counted, count_few (is_open_of m f q) i),
    omega (arith, h.spent.counted, count_few (is_spent_of m f q) i),
  )

  pub tallied_more : (a d : Tally) (i next : ℕ) → i < stop → i + 1 ≤ next → owner m next ≡ owner m i
      → ((j : ℕ) → i + 1 ≤ j → owner m j ≡ owner m i → next ≤ j) → d ≡ with_counted m a (f i)
      → IsTalliedTo m f q first stop a i → IsTalliedTo m f q first stop d next
  tallied_more a d i next less ahead own least is h =
      subst (λ (x : Tally). IsTalliedTo m f q first stop x next) (sym is) (record {
        own = own ∙ h.own;
        over = λ j past before mine.
            let far = least j (omega arith) (mine ∙ sym h.own) in absurd (omega (arith, far));
        opens = count_gap (is_open_of m f q) (i + 1) next _ ahead between
            (one_more (is_open_of m f q) a.open_count (open_one (f i)) (count_by (is_open_of m f q) (numbers_below first))
            (sym (ap bit (own_open m f q i h.own))) h.opens);
        spent = count_gap (is_spent_of m f q) (i + 1) next _ ahead (λ j low high. and_left _ _ (between j low high))
            (one_more (is_spent_of m f q) a.spent_count (spent_one m (f i)) (count_by (is_spent_of m f q) (numbers_below first))
            (sym (ap bit (own_spent m f q i h.own))) h.spent);
      })
    where
      between : (j : ℕ) → i + 1 ≤ j → j < next → is_open_of m f q j ≡ false
      between j low high =
          other_open m f q j (λ mine. let far = least j low (mine ∙ sym h.own) in absurd (omega (arith, far)))

      one_more : (test : ℕ → Bool) (count n base : ℕ) → n ≡ cond (test i) 1 0 → IsCountUpTo test i (count + base)
          → IsCountUpTo test (i + 1) ((count + n) + base)
      one_more test count n base here before =
          let next = count_more test i (count + base) n here before in record { counted = omega (arith, next.counted) }

  pub tallied_all : (a : Tally) (i : ℕ) → first ≤ stop → stop ≤ i → stop ≤ instance_count → a.stop ≡ stop
      → IsTalliedTo m f q first stop a i → IsTallyFrom m f q first a
  tallied_all a i ahead past small end h = record {
    ahead = omega (arith, end);
    small = omega (arith, end);
    open_count = (count_to (is_open_of m f q) i stop _ (λ j low high. absurd (omega arith))
        (λ j low high. other_open m f q j (h.over j low high)) h.opens).counted
        ∙ ap (λ n. count_by (is_open_of m f q) (numbers_below n)) (sym end);
    spent_count = (count_to (is_spent_of m f q) i stop _ (λ j low high. absurd (omega arith))
        (λ j low high. and_left _ _ (other_open m f q j (h.over j low high))) h.spent).counted
        ∙ ap (λ n. count_by (is_spent_of m f q) (numbers_below n)) (sym end);
  }

-- Each instance in a skipped interval is learned.
pub sound_learned : (m : Membership) (slots : List (Option SlotState)) (rs : List (List Interval)) (low : ℕ)
    → AreSlotsAndSkips m slots rs low → LearnedWhereSkipped m slots rs
sound_learned m slots rs low h j small passed = go (stored_at slots j) refl
  where
    go : (o : Option SlotState) → stored_at slots j ≡ o → is_none (instance_slot_in m slots rs j).learned ≡ false
    go None e = rw (e, passed) refl
    go (Some s) e = rw e (h.learned_where_skipped j s small passed e)

-- The sum of a tally and a later count is a tally if no instance between the two is open.
pub tally_further : (m : Membership) (f : ℕ → SlotState) (q first : ℕ) (a d : Tally) → a.stop ≤ first
    → ((j : ℕ) → a.stop ≤ j → j < first → is_none (f j).learned ≡ false) → IsTally m f q a
    → IsTallyFrom m f q first d → IsTally m f q (tally_sum a d)
tally_further m f q first a d ahead closed h further = record {
  small = further.small;
  open_count = omega (
    arith,
    h.open_count,
    further.open_count,
    count_still (is_open_of m f q) a.stop first ahead (λ j low high. and_right _ _ (closed j low high)),
  );
  spent_count = omega (
    arith,
    h.spent_count,
    further.spent_count,
    count_still (is_spent_of m f q) a.stop first ahead
        (λ j low high. and_left _ _ (and_right (eqb (owner m j) q) _ (closed j low high))),
  );
}

pub tally_few : (m : Membership) (f : ℕ → SlotState) (q : ℕ) (d : Tally) → IsTally m f q d
    → (d.open_count ≤ instance_count) × (d.spent_count ≤ instance_count)
tally_few m f q d h = (
  omega (arith, h.open_count, h.small, count_few (is_open_of m f q) d.stop),
  omega (arith, h.spent_count, h.small, count_few (is_spent_of m f q) d.stop),
)
