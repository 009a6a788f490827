-- Hearing a Skip changes the stored slots and the skipped intervals as the rule of a Skip says.
use Rattle.std.proofs.Common.{◌≡◌, ℕ, ◌<◌, ◌≤◌, Bool, true, false, cond, ◌&&◌, ◌||◌, not, List, [], Option, None, Some, eqb, get_or, length, map, min, set, refl, sym, ◌∙◌, ap, subst, arith, ⊎_elim}
use Rattle.std.specs.Prelude.{is_none, is_some, nat_le, nat_lt, unwrap_or}
use Rattle.std.specs.List.{count_by}
use Rattle.std.specs.Option.{option_map}
use Rattle.std.proofs.lemmas.List.{get_or-set_other, length-set}
use Rattle.std.proofs.lemmas.Grind.{get_or-set_at}
use Rattle.std.proofs.lemmas.Bool.{cases_Bool, cases_eq, cases_lt, eq-eqb, eqb-true, leb-true, ltb-true, ne_eqb, and_left, and_parts, and_right}
use Rattle.mencius_base.specs.declared.message.Value.TheVariants.{Noop}
use Rattle.mencius_base.specs.Members.{Membership, instances, owner}
use Rattle.mencius_model.proofs.trace.NumberLists.{instances-below, map-instances_same}
use Rattle.coord_paxos.specs.SlotState.{SlotState}
use Rattle.coord_paxos.specs.Slot.{after_learn}
use Rattle.coord_paxos.specs.Fresh.{new_slot}
use Rattle.mencius_server.specs.Machine.{is_newly_skipped_slot, is_skipped, slot_after_skip}
use Rattle.mencius_server.specs.Intervals.{AreSkippedIntervals, is_between, is_in_any}
use Rattle.mencius_server.specs.Slots.{is_in, is_learned, slot_after_skip_in, stored_at}
use Rattle.mencius_server.specs.Instances.{AreSlotsAndSkips, InstancesState, IsSorted, instance_slot, instance_slot_in, instances_after_skip, instances_in, is_in_skipped, is_newly_skipped_in, newly_skipped_stored, slot_by_skip}
use Rattle.mencius_server.specs.Tallies.{LearnedWhereSkipped}
use Rattle.mencius_server.specs.declared.skipped_intervals.Interval.{Interval}
use Rattle.mencius_server.specs.declared.owned_interval.OwnedInterval.{OwnedInterval}
use Rattle.mencius_server.proofs.intervals.IntervalCounts.{count_same}
use Rattle.mencius_server.proofs.stored.InstanceGaps.{unskipped_other}
use Rattle.mencius_server.proofs.stored.StoredInstances.{same_instances, seen}
use Rattle.mencius_server.proofs.intervals.RisingIntervals.{within_before, within_past, within_yes}
use Rattle.mencius_base.specs.Limits.{instance_count}

noop_again : (a : Bool) (s : SlotState)
    → cond a (after_learn (after_learn s Noop) Noop) (after_learn s Noop) ≡ after_learn s Noop
noop_again false s = refl
noop_again true s = go (is_none s.learned) refl
  where
    go : (d : Bool) → is_none s.learned ≡ d → after_learn (after_learn s Noop) Noop ≡ after_learn s Noop
    go true e = rw e refl
    go false e = rw (e, e) refl

-- At an instance without a stored slot, adding the interval has the effect of the Skip.
by_skip_after_skip : (a : OwnedInterval) (m : Membership) (j : ℕ) (d x : Bool) → is_in a j ≡ x
    → slot_by_skip m (d || x) ≡ slot_after_skip_in a j (slot_by_skip m d)
by_skip_after_skip a m j true x e = sym (noop_again (is_in a j) (new_slot m))
by_skip_after_skip a m j false true e = rw e refl
by_skip_after_skip a m j false false e = rw e refl

stays_learned : (a : OwnedInterval) (j : ℕ) (s : SlotState) → is_none s.learned ≡ false
    → is_none (slot_after_skip_in a j s).learned ≡ false
stays_learned a j s h = go (is_in a j)
  where
    go : (d : Bool) → is_none (cond d (after_learn s Noop) s).learned ≡ false
    go false = h
    go true = rw h h

pub learned_noop : (s : SlotState) → is_none (after_learn s Noop).learned ≡ false
learned_noop s = go (is_none s.learned) refl
  where
    go : (d : Bool) → is_none s.learned ≡ d → is_none (after_learn s Noop).learned ≡ false
    go true e = rw e refl
    go false e = rw (e, e) refl

-- A slot stays as it was if it is learned or its instance lies outside the interval.
after_skip_none : (d : OwnedInterval) (j : ℕ) (s : SlotState) → (is_in d j && is_none s.learned) ≡ false
    → slot_after_skip_in d j s ≡ s
after_skip_none d j s e = go (is_in d j) (is_none s.learned) refl e
  where
    go : (a x : Bool) → is_none s.learned ≡ x → (a && x) ≡ false → cond a (after_learn s Noop) s ≡ s
    go false x same h = refl
    go true false same h = rw same refl
    go true true same h = absurd (cc)

module _ (m : Membership) (a : OwnedInterval) (members : a.members ≡ m) (slots new : List (Option SlotState))
    (rs : List (List Interval)) (member : a.server < length rs)
    (ys : List Interval) (covered : (j : ℕ) → j < instance_count → owner a.members j ≡ a.server
    → is_in_any ys j ≡ (is_in_any (get_or rs a.server []) j || is_between a.first a.stop j))
    (gives : (j : ℕ) → j < instance_count → stored_at new j ≡ option_map (slot_after_skip_in a j) (stored_at slots j))
  where
    skipped_theirs : (j : ℕ) → (owner m j ≡ a.server → ⊥) → is_in_skipped m (set rs a.server ys) j ≡ is_in_skipped m rs j
    skipped_theirs j other = ap (λ xs. is_in_any xs j) (get_or-set_other rs a.server (owner m j) ys [] other)

    skipped_own : (j : ℕ) → j < instance_count → owner m j ≡ a.server
        → is_in_skipped m (set rs a.server ys) j ≡ (is_in_skipped m rs j || is_between a.first a.stop j)
    skipped_own j small own =
        ap (λ xs. is_in_any xs j) (get_or-set_at rs a.server (owner m j) ys [] own member)
        ∙ covered j small (ap (λ n. owner n j) members ∙ own)
        ∙ ap (λ x. is_in_any (get_or rs x []) j || is_between a.first a.stop j) (sym own)

    in_own : (j : ℕ) → owner m j ≡ a.server → is_in a j ≡ is_between a.first a.stop j
    in_own j own = rw (eq-eqb a.server (owner a.members j) (sym (ap (λ n. owner n j) members ∙ own))) refl

    in_theirs : (j : ℕ) → (owner m j ≡ a.server → ⊥) → is_in a j ≡ false
    in_theirs j other =
        unskipped_other a.members a.server a.first a.stop j
        (ne_eqb (owner a.members j) a.server (λ e. other (sym (ap (λ n. owner n j) members) ∙ e)))

    skip_at : (j : ℕ) → j < instance_count → (o : Option SlotState) → stored_at slots j ≡ o
        → instance_slot_in m new (set rs a.server ys) j ≡ slot_after_skip_in a j (instance_slot_in m slots rs j)
    skip_at j small (Some r) e =
        ap (λ o. unwrap_or o (slot_by_skip m (is_in_skipped m (set rs a.server ys) j))) (gives j small
        ∙ ap (option_map (slot_after_skip_in a j)) e)
        ∙ sym (ap (λ o. slot_after_skip_in a j (unwrap_or o (slot_by_skip m (is_in_skipped m rs j)))) e)
    skip_at j small None e =
        ap (λ o. unwrap_or o (slot_by_skip m (is_in_skipped m (set rs a.server ys) j))) (gives j small
        ∙ ap (option_map (slot_after_skip_in a j)) e)
        ∙ ⊎_elim
        (λ (own : owner m j ≡ a.server). ap (slot_by_skip m) (skipped_own j small own)
        ∙ by_skip_after_skip a m j (is_in_skipped m rs j) (is_between a.first a.stop j) (in_own j own))
        (λ (other : owner m j ≡ a.server → ⊥).
        ap (slot_by_skip m) (skipped_theirs j other)
        ∙ sym (ap
        (λ d. cond d (after_learn (slot_by_skip m (is_in_skipped m rs j)) Noop)
        (slot_by_skip m (is_in_skipped m rs j))) (in_theirs j other)))
        (cases_eq (owner m j) a.server)
        ∙ sym (ap (λ o. slot_after_skip_in a j (unwrap_or o (slot_by_skip m (is_in_skipped m rs j)))) e)

    -- The server learns no-op at each unlearned instance that the Skip gives up.
    pub skip_gives : (j : ℕ) → j < instance_count
        → instance_slot_in m new (set rs a.server ys) j ≡ slot_after_skip_in a j (instance_slot_in m slots rs j)
    skip_gives j small = skip_at j small (stored_at slots j) refl

    -- A learned instance stays learned.
    pub skip_stays : (j : ℕ) → j < instance_count → is_none (instance_slot_in m slots rs j).learned ≡ false
        → is_none (instance_slot_in m new (set rs a.server ys) j).learned ≡ false
    skip_stays j small h = rw (skip_gives j small) (stays_learned a j (instance_slot_in m slots rs j) h)

    -- The knowledge about an instance stays as it was if the instance is learned or lies outside the interval.
    pub skip_kept : (j : ℕ) → j < instance_count → (is_in a j && is_none (instance_slot_in m slots rs j).learned) ≡ false
        → instance_slot_in m new (set rs a.server ys) j ≡ instance_slot_in m slots rs j
    skip_kept j small e = skip_at j small (stored_at slots j) refl ∙ after_skip_none a j (instance_slot_in m slots rs j) e

    pub skip_theirs : (j : ℕ) → j < instance_count → (owner m j ≡ a.server → ⊥)
        → instance_slot_in m new (set rs a.server ys) j ≡ instance_slot_in m slots rs j
    skip_theirs j small other = skip_kept j small (and_left _ _ (in_theirs j other))

    stored_same : (j : ℕ) → j < instance_count → is_some (stored_at new j) ≡ is_some (stored_at slots j)
    stored_same j small = ap is_some (gives j small) ∙ kept (stored_at slots j)
      where
        kept : (o : Option SlotState) → is_some (option_map (slot_after_skip_in a j) o) ≡ is_some o
        kept None = refl
        kept (Some r) = refl

    pub skip_shows : (now : InstancesState) → instances_in m slots rs ≡ now
        → instances_in m new (set rs a.server ys)
        ≡ record now { slots = map (λ j. slot_after_skip_in a j (instance_slot now j)) instances }
    skip_shows now shown =
        same_instances m (instance_slot_in m new (set rs a.server ys)) (λ j. slot_after_skip_in a j (instance_slot now j))
        (λ j. is_some (stored_at new j)) (λ j. is_some (stored_at slots j))
        (λ j small. skip_at j small (stored_at slots j) refl
        ∙ ap (slot_after_skip_in a j) (sym (seen m slots rs now shown j small))) stored_same
        ∙ ap (λ (y : InstancesState).
        record y { slots = map (λ j. slot_after_skip_in a j (instance_slot now j)) instances }) shown

    pub skip_sorted : AreSkippedIntervals m a.server ys → IsSorted m rs → IsSorted m (set rs a.server ys)
    skip_sorted skipped h = record {
      count = length-set rs a.server ys ∙ h.count;
      intervals = λ p inside. ⊎_elim
          (λ (e : p ≡ a.server).
          subst (AreSkippedIntervals m p) (sym (get_or-set_at rs a.server p ys [] e member))
          (subst (λ q. AreSkippedIntervals m q ys) (sym e) skipped))
          (λ (ne : p ≡ a.server → ⊥).
          subst (AreSkippedIntervals m p) (sym (get_or-set_other rs a.server p ys [] ne)) (h.intervals p inside))
          (cases_eq p a.server);
    }

    pub skip_sound : (low more : ℕ) → IsSorted m (set rs a.server ys) → more ≤ instance_count
        → ((j : ℕ) → low ≤ j → j < more → is_none (instance_slot_in m new (set rs a.server ys) j).learned ≡ false)
        → (more < instance_count → is_none (instance_slot_in m new (set rs a.server ys) more).learned ≡ true)
        → AreSlotsAndSkips m slots rs low → AreSlotsAndSkips m new (set rs a.server ys) more
    skip_sound low more sorted small further least h = record {
      sorted = sorted;
      learned_where_skipped = λ j r l passed stored. skipped_at j r l passed (stored_at slots j) refl
          (sym (gives j l) ∙ stored);
      small = small;
      learned = λ j l. ⊎_elim
          (λ (before : j < low).
          let inside : j < instance_count = omega (arith, h.small) in
          rw (skip_at j inside (stored_at slots j) refl)
          (stays_learned a j (instance_slot_in m slots rs j) (h.learned j before)))
          (λ (from : low ≤ j). further j from l)
          (cases_lt j low);
      least = least;
    }
      where
        skipped_at : (j : ℕ) (r : SlotState) → j < instance_count → is_in_skipped m (set rs a.server ys) j ≡ true
            → (o : Option SlotState) → stored_at slots j ≡ o
            → option_map (slot_after_skip_in a j) (stored_at slots j) ≡ Some r
            → is_none r.learned ≡ false
        skipped_at j r l passed None e stored =
            let no : Some r ≡ None = sym stored ∙ ap (option_map (slot_after_skip_in a j)) e in absurd (cc)
        skipped_at j r l passed (Some value) e stored =
            let both : Some (slot_after_skip_in a j value) ≡ Some r = sym (ap (option_map (slot_after_skip_in a j)) e)
            ∙ stored in
            let is : slot_after_skip_in a j value ≡ r = cc in
            rw (← is)
            (⊎_elim
            (λ (own : owner m j ≡ a.server). by_interval (is_in_skipped m rs j)
            (is_between a.first a.stop j) refl (in_own j own) (sym (skipped_own j l own)
            ∙ passed) (λ y. h.learned_where_skipped j value l y e))
            (λ (other : owner m j ≡ a.server
            → ⊥). stays_learned a j value (h.learned_where_skipped j value l (sym (skipped_theirs j other) ∙ passed) e))
            (cases_eq (owner m j) a.server))
          where
            by_interval : (d z : Bool) → is_in_skipped m rs j ≡ d → is_in a j ≡ z → (d || z) ≡ true
                → (d ≡ true → is_none value.learned ≡ false) → is_none (slot_after_skip_in a j value).learned ≡ false
            by_interval true z same s y old = stays_learned a j value (old refl)
            by_interval false true same s y old = rw s (learned_noop value)
            by_interval false false same s y old = absurd (cc)

-- If the whole interval was skipped before, nothing changes.
pub skip_again : (m : Membership) (d : OwnedInterval) (slots : List (Option SlotState)) (rs : List (List Interval))
    (now : InstancesState) → d.members ≡ m → instances_in m slots rs ≡ now → LearnedWhereSkipped m slots rs
    → ((j : ℕ) → d.first ≤ j → j < d.stop → is_in_any (get_or rs d.server []) j ≡ true)
    → now ≡ record now { slots = map (λ j. slot_after_skip_in d j (instance_slot now j)) instances }
skip_again m d slots rs now members shown learned_where_skipped covered =
    sym shown
    ∙ same_instances m (instance_slot_in m slots rs) (λ j. slot_after_skip_in d j (instance_slot now j))
    (λ j. is_some (stored_at slots j))
    (λ j. is_some (stored_at slots j))
    (λ j small. sym (after_skip_none d j (instance_slot_in m slots rs j) (closed j small))
    ∙ ap (slot_after_skip_in d j) (sym (seen m slots rs now shown j small))) (λ j small. refl)
    ∙ ap (λ (s : InstancesState).
    record s { slots = map (λ j. slot_after_skip_in d j (instance_slot now j)) instances }) shown
  where
    closed : (j : ℕ) → j < instance_count → (is_in d j && is_none (instance_slot_in m slots rs j).learned) ≡ false
    closed j small =
        ⊎_elim
        (λ (inside : is_in d j ≡ true).
        let parts = and_parts _ _ inside in
        let mine = and_parts _ _ parts.0 in
        let own : owner m j ≡ d.server =
        ap (λ n. owner n j) (sym members) ∙ sym (eqb-true d.server (owner d.members j) mine.0) in
        and_right _ _ (learned_where_skipped j small
        (ap (λ s. is_in_any (get_or rs s []) j) own
        ∙ covered j (leb-true d.first j mine.1) (ltb-true j d.stop parts.1))))
        (λ (out : is_in d j ≡ false). and_left _ _ out)
        (cases_Bool (is_in d j))

-- The same instances are newly skipped by the stored slots and intervals as by the knowledge about each instance.
after_skip_same : (m : Membership) (d : OwnedInterval) (slots : List (Option SlotState)) (rs : List (List Interval))
    (low : ℕ)
    → d.members ≡ m → AreSlotsAndSkips m slots rs low
    → (j : ℕ) → j < instance_count
    → is_newly_skipped_in d (get_or rs d.server []) slots j
    ≡ (is_in d j && is_none (instance_slot_in m slots rs j).learned)
after_skip_same m d slots rs low members h j small =
    ⊎_elim
    (λ (own : owner d.members j ≡ d.server).
    ap (λ y. is_in d j && y)
    (ap (λ x. not (is_in_any (get_or rs x []) j) && not (is_learned (stored_at slots j))) (sym own
    ∙ ap (λ n. owner n j) members) ∙ go (stored_at slots j) refl (is_in_skipped m rs j) refl))
    (λ (other : owner d.members j ≡ d.server → ⊥).
    let no = unskipped_other d.members d.server d.first d.stop j (ne_eqb (owner d.members j) d.server other) in
    and_left _ (not (is_in_any (get_or rs d.server []) j) && not (is_learned (stored_at slots j))) no
    ∙ sym (and_left _ (is_none (instance_slot_in m slots rs j).learned) no))
    (cases_eq (owner d.members j) d.server)
  where
    twice : (y : Bool) → not (not y) ≡ y
    twice true = refl
    twice false = refl

    go : (o : Option SlotState) → stored_at slots j ≡ o → (y : Bool) → is_in_skipped m rs j ≡ y
        → (not (is_in_skipped m rs j) && not (is_learned (stored_at slots j)))
        ≡ is_none (instance_slot_in m slots rs j).learned
    go None e true same = rw (e, same) refl
    go None e false same = rw (e, same) refl
    go (Some s) e true same = let so = h.learned_where_skipped j s small same e in rw (e, same, so) refl
    go (Some s) e false same = rw (e, same) (twice (is_none s.learned))

-- The interval `a` of q begins at q's first instance at or above `first`, and ends at q's first instance at or above
-- `stop`. A `stop` above 4,096 counts as 4,096.
pub record IsAligned (q first stop : ℕ) (a : OwnedInterval) : Type 0 where
  pub server : a.server ≡ q
  pub above_first : first ≤ a.first
  pub least_first : (i : ℕ) → first ≤ i → owner a.members i ≡ q → a.first ≤ i
  pub above_stop : min stop instance_count ≤ a.stop
  pub least_stop : (i : ℕ) → min stop instance_count ≤ i → owner a.members i ≡ q → a.stop ≤ i

pub aligned_in : (q first stop : ℕ) (d : OwnedInterval) → IsAligned q first stop d → (j : ℕ) → j < instance_count
    → is_in d j ≡ is_skipped d.members q first stop j
aligned_in q first stop d al j small =
    ⊎_elim
    (λ (own : owner d.members j ≡ q).
    regroup (eqb d.server (owner d.members j)) (nat_le d.first j) (nat_lt j d.stop)
    ∙ ap (λ q. eqb q (owner d.members j) && is_between d.first d.stop j) al.server
    ∙ ap (λ x. eqb q (owner d.members j) && x) (within own)
    ∙ sym (regroup (eqb q (owner d.members j)) (nat_le first j) (nat_lt j stop)))
    (λ (other : owner d.members j ≡ q → ⊥).
    unskipped_other d.members d.server d.first d.stop j
    (ne_eqb (owner d.members j) d.server (λ e. other (e ∙ al.server)))
    ∙ sym (unskipped_other d.members q first stop j (ne_eqb (owner d.members j) q other)))
    (cases_eq (owner d.members j) q)
  where
    regroup : (a x y : Bool) → ((a && x) && y) ≡ (a && (x && y))
    regroup true x y = refl
    regroup false x y = refl

    within : owner d.members j ≡ q → is_between d.first d.stop j ≡ is_between first stop j
    within own =
        ⊎_elim
        (λ (before : j < first). within_before d.first d.stop j (omega (arith, al.above_first))
        ∙ sym (within_before first stop j before))
        (λ (from : first ≤ j).
        let low = al.least_first j from own in
        ⊎_elim
        (λ (less : j < stop). within_yes d.first d.stop j low (omega (arith, al.above_stop))
        ∙ sym (within_yes first stop j from less))
        (λ (past : stop ≤ j). let high = al.least_stop j (omega arith) own in within_past d.first d.stop j high
        ∙ sym (within_past first stop j past))
        (cases_lt j stop))
        (cases_lt j first)

-- The effect of the whole Skip, and the number of instances where it is news.
module _ (q first stop : ℕ) (a : OwnedInterval) (al : IsAligned q first stop a) (now : InstancesState)
    (same : a.members ≡ now.members) where
  in_is : (j : ℕ) → j < instance_count → is_in a j ≡ is_skipped now.members q first stop j
  in_is j small = aligned_in q first stop a al j small ∙ ap (λ n. is_skipped n q first stop j) same

  pub skip_is : ◌≡◌ {A = InstancesState}
      (record now { slots = map (λ j. slot_after_skip_in a j (instance_slot now j)) instances })
      (instances_after_skip now q first stop)
  skip_is =
      ap (λ xs. record now { slots = xs })
      (map-instances_same (λ j. slot_after_skip_in a j (instance_slot now j))
      (λ j. slot_after_skip now.members q first stop j (instance_slot now j)) (new_slot now.members)
      (λ j small. ap (λ bit. cond bit (after_learn (instance_slot now j) Noop) (instance_slot now j)) (in_is j small)))

  pub news_is : (m : Membership) (slots : List (Option SlotState)) (rs : List (List Interval)) (low : ℕ)
      → instances_in m slots rs ≡ now → AreSlotsAndSkips m slots rs low
      → count_by (is_newly_skipped_in a (get_or rs a.server []) slots) instances ≡ newly_skipped_stored now q first stop
  news_is m slots rs low shown sound =
      let members : a.members ≡ m = same ∙ sym (ap (λ (x : InstancesState). x.members) shown) in
      ap (count_by (is_newly_skipped_in a (get_or rs a.server []) slots)) instances-below
      ∙ count_same (is_newly_skipped_in a (get_or rs a.server []) slots)
      (λ j. is_newly_skipped_slot now.members q first stop j (instance_slot now j)) instance_count
      (λ j small. after_skip_same m a slots rs low members sound j small
      ∙ ap (λ bit. bit && is_none (instance_slot_in m slots rs j).learned) (in_is j small)
      ∙ ap (λ (s : SlotState). is_skipped now.members q first stop j && is_none s.learned)
      (sym (seen m slots rs now shown j small)))
      ∙ ap (count_by (λ j. is_newly_skipped_slot now.members q first stop j (instance_slot now j)))
      (sym instances-below)
