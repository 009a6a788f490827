-- A suspicion changes the stored slots, and sends Prepares, as the rule of a suspicion says.
use Rattle.std.proofs.Common.{◌≡◌, ℕ, zero, suc, ◌+◌, ◌-◌, ◌/◌, ◌<◌, ◌≤◌, Bool, true, false, cond, ◌&&◌, ◌||◌, not, List, [], ◌∷◌, ◌++◌, Option, None, Some, filter, get_or, map, refl, sym, ◌∙◌, ap, subst, arith, inl, inr}
use Rattle.std.specs.Prelude.{is_none, is_some, unwrap_or}
use Rattle.std.specs.List.{count_by}
use Rattle.std.specs.Option.{option_map}
use Rattle.std.proofs.lemmas.List.{get_or_default, map-append}
use Rattle.std.proofs.lemmas.Bool.{cases_Bool, and_left, and_parts, and_right, eqb-true, le-ltb, ltb-true, ne_eqb}
use Rattle.std.proofs.Math.Nat.{zero-div}
use Rattle.mencius_base.specs.declared.message.Message.{Message}
use Rattle.mencius_base.specs.Members.{Membership, numbers_below, instances, owner}
use Rattle.mencius_model.proofs.trace.NumberLists.{count_by-below_none, filter-below_more, filter-below_none, filter-below_zero, get_or-map-instances, instances-below}
use Rattle.coord_paxos.specs.SlotState.{SlotState}
use Rattle.coord_paxos.specs.Fresh.{new_slot}
use Rattle.mencius_server.specs.Machine.{is_spent, next_prepare, next_round_of, with_next_phase}
use Rattle.mencius_server.specs.Intervals.{is_in_any}
use Rattle.mencius_server.specs.LearnedIntervals.{AreLearnedIntervals}
use Rattle.mencius_server.specs.Slots.{PassesLearnedIntervals, is_covered_slot, is_in, is_lacking, is_unlearned, new_slot_at, prepare_of, slot_after_phase, stored_after_phase, stored_at}
use Rattle.mencius_server.specs.Instances.{AreSlotsAndSkips, InstancesState, has_slot, instance_slot, instance_slot_in, instances_after_suspect, instances_in, is_covered_stored, is_in_skipped, is_open_in, prepare_stored, prepares_in, prepares_stored, slot_by_skip, with_first_phases, with_open_stored}
use Rattle.mencius_server.specs.Tallies.{IsOpenInterval}
use Rattle.mencius_server.specs.declared.skipped_intervals.Interval.{Interval}
use Rattle.mencius_server.specs.declared.owned_interval.OwnedInterval.{OwnedInterval}
use Rattle.mencius_server.proofs.intervals.IntervalCounts.{count_same}
use Rattle.mencius_server.proofs.stored.InstanceGaps.{unskipped_other, unskipped_past}
use Rattle.mencius_server.proofs.stored.StoredInstances.{instance_there, same_instances, seen, seen_none, seen_some, seen_stored}
use Rattle.mencius_server.proofs.suspicions.OpenInstances.{open_by_skip, open_same}
use Rattle.mencius_server.proofs.tallies.OneTally.{IsAlike, alike_same}
use Rattle.mencius_server.proofs.suspicions.IntervalLeaps.{intervals_of, intervals_stay}
use Rattle.mencius_server.proofs.suspicions.SuspicionReach.{clash}
use Rattle.mencius_base.specs.Limits.{greatest_round, instance_count}

-- An instance of an interval belongs to its server and lies below its end.
in_own : (a : OwnedInterval) (j : ℕ) → is_in a j ≡ true → owner a.members j ≡ a.server
in_own a j e = sym (eqb-true _ _ (and_parts _ _ (and_parts _ _ e).0).0)

in_low : (a : OwnedInterval) (j : ℕ) → is_in a j ≡ true → j < a.stop
in_low a j e = ltb-true j a.stop (and_parts _ _ e).1

-- Two lists of messages are equal if their tests agree and their messages agree at each place that passes.
sent_same : (f g : ℕ → Message) (a test : ℕ → Bool) (n : ℕ) → ((j : ℕ) → j < n → a j ≡ test j)
    → ((j : ℕ) → j < n → a j ≡ true → f j ≡ g j)
    → map f (filter a (numbers_below n)) ≡ map g (filter test (numbers_below n))
sent_same f g a test zero e h = ap (map f) (filter-below_zero a) ∙ sym (ap (map g) (filter-below_zero test))
sent_same f g a test (suc n) e h =
    let next : suc n ≡ n + 1 = omega arith in
    let before = sent_same f g a test n (λ j l. e j (omega arith)) (λ j l passes. h j (omega arith) passes) in
    let tests : a n ≡ test n = e n (omega arith) in
    rw next
    (ap (map f) (filter-below_more a n) ∙ map-append f (filter a (numbers_below n)) _
    ∙ ap (λ xs. xs ++ map f (cond (a n) (n ∷ []) [])) before
    ∙ ap (λ xs. map g (filter test (numbers_below n)) ++ xs) (last (a n) refl ∙ ap (λ d. map g (cond d (n ∷ []) [])) tests)
    ∙ sym (ap (map g) (filter-below_more test n) ∙ map-append g (filter test (numbers_below n)) _))
  where
    last : (d : Bool) → a n ≡ d → map f (cond (a n) (n ∷ []) []) ≡ map g (cond (a n) (n ∷ []) [])
    last true same = rw same (ap (λ x. x ∷ []) (h n (omega arith) same))
    last false same = rw same refl

-- An instance without a stored slot has a further round.
unspent_by_skip : (m : Membership) (a : Bool) → is_spent m (slot_by_skip m a) ≡ false
unspent_by_skip m a = go a (0 / m.count) refl (zero-div m.count)
  where
    go : (a : Bool) (n : ℕ) → 0 / m.count ≡ n → n ≡ 0 → is_spent m (slot_by_skip m a) ≡ false
    go true n is e = rw (is, e) refl
    go false n is e = rw (is, e) refl

module _ (m : Membership) (slots : List (Option SlotState)) (rs : List (List Interval)) (low : ℕ) (now : InstancesState)
    (shown : instances_in m slots rs ≡ now) (sound : AreSlotsAndSkips m slots rs low)
    (a : OwnedInterval) (alike : a.members ≡ now.members) (small : a.stop ≤ instance_count) where
  members : a.members ≡ m
  members = alike ∙ sym (ap (λ (y : InstancesState). y.members) shown)

  in_small : (j : ℕ) → is_in a j ≡ true → j < instance_count
  in_small j e = let l = in_low a j e in omega (arith, l, small)

  -- ---- storing slots
  module _ (r d : List Interval) (member : a.server < a.members.count) (indexed : r ≡ get_or rs a.server d) where
    same_intervals : r ≡ get_or rs a.server []
    same_intervals =
        indexed ∙ get_or_default rs a.server d []
        (omega (arith, member, sound.sorted.count, ap (λ (n : Membership). n.count) members))

    covered_is : (j : ℕ) → is_in a j ≡ true → is_in_any r j ≡ is_in_skipped m rs j
    covered_is j e =
        ap (λ xs. is_in_any xs j)
        (same_intervals ∙ ap (λ y. get_or rs y []) (sym (in_own a j e) ∙ ap (λ n. owner n j) members))

    -- An instance without a stored slot is open exactly if it lacks a slot.
    open_bare : (j : ℕ) → j < instance_count → stored_at slots j ≡ None
        → (is_in a j && not (is_in_any r j)) ≡ is_open_in now a j
    open_bare j l e = elim (cases_Bool (is_in a j)) [
      | inl left ↦
          ap (λ z. z && not (is_in_any r j)) left ∙ ap not (covered_is j left)
          ∙ sym (ap (λ z. z && is_none (instance_slot now j).learned) left
          ∙ ap (λ (s : SlotState). is_none s.learned) (seen_none m slots rs now shown j l e)
          ∙ open_by_skip m (is_in_skipped m rs j))
      | inr right ↦ and_left _ _ right ∙ sym (and_left _ _ right)
    ]

    lacking_open : (j : ℕ) → j < instance_count → (o : Option SlotState) → stored_at slots j ≡ o
        → is_lacking a r slots j ≡ true → is_open_in now a j ≡ true
    lacking_open j l None e h =
        let parts = and_parts _ _ h in
        let clear = (and_parts _ _ parts.1).0 in
        sym (open_bare j l e) ∙ ap (λ z. z && not (is_in_any r j)) parts.0 ∙ clear
    lacking_open j l (Some s) e h =
        absurd (clash (is_none (stored_at slots j)) (and_parts _ _ (and_parts _ _ h).1).1 (ap is_none e))

    -- No instance in an interval of learned instances lacks a slot.
    pub lacking_intervals : (ends : List ℕ)
        → AreLearnedIntervals m (λ j. is_none (instance_slot_in m slots rs j).learned) ends
        → AreLearnedIntervals a.members (is_lacking a r slots) ends
    lacking_intervals ends known = intervals_stay _ _ _ _ whole (intervals_of _ _ _ _ (sym members) known)
      where
        whole : (j : ℕ) → j < instance_count → is_none (instance_slot_in m slots rs j).learned ≡ false
            → is_lacking a r slots j ≡ false
        whole j l learned = elim (cases_Bool (is_lacking a r slots j)) [
          | inl lacks ↦ absurd (clash _ (and_parts _ _ (lacking_open j l (stored_at slots j) refl lacks)).1
              (ap (λ (s : SlotState). is_none s.learned) (seen m slots rs now shown j l) ∙ learned))
          | inr none ↦ none
        ]

    module _ (new : List (Option SlotState)) (stored : (j : ℕ)
        → stored_at new j ≡ new_slot_at a r j (stored_at slots j)) where
      stored_some : (j : ℕ) (s : SlotState) → stored_at slots j ≡ Some s → stored_at new j ≡ Some s
      stored_some j s e = stored j ∙ ap (new_slot_at a r j) e

      new_slot_none : (j : ℕ) → stored_at slots j ≡ None
          → stored_at new j ≡ cond (is_in a j && not (is_in_any r j)) (Some (new_slot a.members)) None
      new_slot_none j e = stored j ∙ ap (new_slot_at a r j) e

      stored_slot_is : (j : ℕ) → (o : Option SlotState) → stored_at slots j ≡ o
          → instance_slot_in m new rs j ≡ instance_slot_in m slots rs j
      stored_slot_is j (Some s) e =
          ap (λ o. unwrap_or o (slot_by_skip m (is_in_skipped m rs j))) (stored_some j s e ∙ sym e)
      stored_slot_is j None e = elim (cases_Bool (is_in a j && not (is_in_any r j))) [
        | inl z ↦
            let parts = and_parts _ _ z in
            let clear : is_in_skipped m rs j ≡ false = sym (covered_is j parts.0) ∙ turned (is_in_any r j) parts.1 in
            ap (λ o. unwrap_or o (slot_by_skip m (is_in_skipped m rs j))) (new_slot_none j e
            ∙ ap (λ bit. cond bit (Some (new_slot a.members)) None) z)
            ∙ ap new_slot members
            ∙ sym (ap (λ o. unwrap_or o (slot_by_skip m (is_in_skipped m rs j))) e ∙ ap (slot_by_skip m) clear)
        | inr z ↦ ap (λ o. unwrap_or o (slot_by_skip m (is_in_skipped m rs j))) (new_slot_none j e
            ∙ ap (λ bit. cond bit (Some (new_slot a.members)) None) z ∙ sym e)
      ]
        where
          turned : (z : Bool) → not z ≡ true → z ≡ false
          turned true y = absurd (cc)
          turned false y = refl

      stored_is_some : (j : ℕ) → j < instance_count → (o : Option SlotState) → stored_at slots j ≡ o
          → is_some (stored_at new j) ≡ (has_slot now j || is_open_in now a j)
      stored_is_some j l (Some s) e =
          ap is_some (stored_some j s e)
          ∙ sym (ap (λ z. z || is_open_in now a j) (seen_stored m slots rs now shown j l ∙ ap is_some e))
      stored_is_some j l None e =
          ap is_some (new_slot_none j e) ∙ made (is_in a j && not (is_in_any r j)) ∙ open_bare j l e
          ∙ sym (ap (λ z. z || is_open_in now a j) (seen_stored m slots rs now shown j l ∙ ap is_some e))
        where
          made : (z : Bool) → is_some (cond z (Some (new_slot a.members)) None) ≡ z
          made true = refl
          made false = refl

      pub open_stored_slot : (j : ℕ) → instance_slot_in m new rs j ≡ instance_slot_in m slots rs j
      open_stored_slot j = stored_slot_is j (stored_at slots j) refl

      pub open_stored_shows : instances_in m new rs ≡ with_open_stored now a
      open_stored_shows =
          same_instances m (instance_slot_in m new rs) (instance_slot_in m slots rs) (λ j. is_some (stored_at new j))
          (λ j. has_slot now j || is_open_in now a j)
          (λ j l. stored_slot_is j (stored_at slots j) refl) (λ j l. stored_is_some j l (stored_at slots j) refl)
          ∙ ap (λ (y : InstancesState). record y {
            is_stored = map
                (λ j. has_slot now j || is_open_in now a j) instances;
          }) shown

      pub open_stored_sound : AreSlotsAndSkips m new rs low
      open_stored_sound = record {
        sorted = sound.sorted;
        learned_where_skipped = λ j s l passed stored. learned_where_skipped j s l passed (stored_at slots j) refl
            stored;
        small = sound.small;
        learned = λ j l. rw (stored_slot_is j (stored_at slots j) refl) (sound.learned j l);
        least = λ l. rw (stored_slot_is low (stored_at slots low) refl) (sound.least l);
      }
        where
          learned_where_skipped : (j : ℕ) (s : SlotState) → j < instance_count → is_in_skipped m rs j ≡ true
              → (o : Option SlotState)
              → stored_at slots j ≡ o → stored_at new j ≡ Some s → is_none s.learned ≡ false
          learned_where_skipped j s l passed (Some old) e stored =
              let is : Some old ≡ Some s = sym (stored_some j old e) ∙ stored in
              let same : old ≡ s = cc in
              subst (λ (x : SlotState). is_none x.learned ≡ false) same (sound.learned_where_skipped j old l passed e)
          learned_where_skipped j s l passed None e stored = elim (cases_Bool (is_in a j && not (is_in_any r j))) [
            | inl z ↦ let parts =
                and_parts _ _ z in absurd (clash (not (is_in_any r j)) parts.1 (ap not (covered_is j parts.0 ∙ passed)))
            | inr z ↦ let no : Some s ≡ None =
                sym stored ∙ new_slot_none j e ∙ ap (λ bit. cond bit (Some (new_slot a.members)) None) z in absurd (cc)
          ]

  -- ---- first phases at stored slots
  module _ (stored : (j : ℕ) → j < instance_count → is_open_in now a j ≡ true → has_slot now j ≡ true) where
    phase_is : (j : ℕ) → j < instance_count → (o : Option SlotState) → stored_at slots j ≡ o
        → is_covered_slot a slots j ≡ is_open_in now a j
    phase_is j l (Some s) e =
        ap (λ o. is_in a j && is_unlearned o) e
        ∙ sym (ap (λ (s : SlotState). is_in a j && is_none s.learned) (seen_some m slots rs now shown j s l e))
    phase_is j l None e =
        ap (λ o. is_in a j && is_unlearned o) e ∙ and_right _ _ refl ∙ sym (elim (cases_Bool (is_open_in now a j)) [
          | inl z ↦ absurd (clash (has_slot now j) (stored j l z) (seen_stored m slots rs now shown j l ∙ ap is_some e))
          | inr z ↦ z
        ])

    -- No first phase starts at a learned instance.
    closed_slots : (j : ℕ) → j < instance_count → is_none (instance_slot_in m slots rs j).learned ≡ false
        → is_covered_slot a slots j ≡ false
    closed_slots j l learned =
        phase_is j l (stored_at slots j) refl
        ∙ and_right _ _ (ap (λ (s : SlotState). is_none s.learned) (seen m slots rs now shown j l) ∙ learned)

    pub phase_intervals : (ends : List ℕ)
        → AreLearnedIntervals m (λ j. is_none (instance_slot_in m slots rs j).learned) ends
        → AreLearnedIntervals a.members (is_covered_slot a slots) ends
    phase_intervals ends known = intervals_stay _ _ _ _ closed_slots (intervals_of _ _ _ _ (sym members) known)

    pub phase_count : count_by (is_covered_slot a slots) (numbers_below a.stop) ≡ count_by (is_open_in now a) (numbers_below a.stop)
    phase_count =
        count_same (is_covered_slot a slots) (is_open_in now a) a.stop
        (λ j l. phase_is j (omega (arith, small)) (stored_at slots j) refl)

    pub phase_rounds : ((j : ℕ) → j < instance_count → is_open_in now a j ≡ true
        → next_round_of now.members (instance_slot now j) ≤ greatest_round)
        → (j : ℕ) (s : SlotState) → is_covered_slot a slots j ≡ true → stored_at slots j ≡ Some s
        → next_round_of a.members s ≤ greatest_round
    phase_rounds rounds j s z e =
        let l = in_small j (and_parts _ _ z).0 in
        let opens = sym (phase_is j l (stored_at slots j) refl) ∙ z in
        subst (λ n. next_round_of n s ≤ greatest_round) (sym alike)
        (subst (λ (s : SlotState). next_round_of now.members s ≤ greatest_round)
        (seen_some m slots rs now shown j s l e) (rounds j l opens))

    pub phase_sent : (p : ℕ)
        → map (prepare_of a p slots) (filter (is_covered_slot a slots) (numbers_below a.stop)) ≡ prepares_in now p a
    phase_sent p =
        sent_same (prepare_of a p slots)
        (prepare_stored now p) (is_covered_slot a slots) (is_open_in now a) a.stop
        (λ j l. phase_is j (omega (arith, small)) (stored_at slots j) refl)
        (λ j l z. ap (next_prepare a.members p j)
        (there j (omega (arith, small)) (stored_at slots j) refl (and_parts _ _ z).1)
        ∙ ap (λ n. next_prepare n p j (instance_slot now j)) alike)
      where
        there : (j : ℕ) → j < instance_count → (o : Option SlotState) → stored_at slots j ≡ o
            → is_unlearned (stored_at slots j) ≡ true
            → unwrap_or (stored_at slots j) (new_slot a.members) ≡ instance_slot now j
        there j l None e h =
            let no : is_unlearned (stored_at slots j) ≡ false = ap is_unlearned e in
            absurd (clash (is_unlearned (stored_at slots j)) h no)
        there j l (Some s) e h =
            ap (λ o. unwrap_or o (new_slot a.members)) e ∙ sym (seen_some m slots rs now shown j s l e)

    module _ (p : ℕ) (new : List (Option SlotState)) (begins : (j : ℕ)
        → stored_at new j ≡ stored_after_phase a p j (stored_at slots j)) where
      phase_slot : (j : ℕ) → j < instance_count → (o : Option SlotState) → stored_at slots j ≡ o
          → instance_slot_in m new rs j
          ≡ cond (is_open_in now a j)
          (with_next_phase now.members p (instance_slot now j)) (instance_slot now j)
      phase_slot j l None e =
          let closed : is_open_in now a j ≡ false =
          sym (phase_is j l None e) ∙ ap (λ o. is_in a j && is_unlearned o) e ∙ and_right _ _ refl in
          ap (λ o. unwrap_or o (slot_by_skip m (is_in_skipped m rs j))) (begins j ∙ ap (stored_after_phase a p j) e
          ∙ nothing (is_in a j && false))
          ∙ sym (seen_none m slots rs now shown j l e)
          ∙ sym (ap (λ z. cond z
          (with_next_phase now.members p (instance_slot now j)) (instance_slot now j)) closed)
        where
          nothing : (z : Bool) → cond z (option_map (slot_after_phase a.members p) None) None ≡ None
          nothing true = refl
          nothing false = refl
      phase_slot j l (Some s) e =
          let is : instance_slot now j ≡ s = seen_some m slots rs now shown j s l e in
          ap (λ o. unwrap_or o (slot_by_skip m (is_in_skipped m rs j))) (begins j ∙ ap (stored_after_phase a p j) e)
          ∙ made (is_in a j) (is_none s.learned) refl
          ∙ sym (ap (λ (s : SlotState). cond (is_in a j && is_none s.learned)
          (with_next_phase now.members p s) s) is
          ∙ ap (λ n. cond (is_in a j && is_none s.learned) (with_next_phase n p s) s)
          (sym alike))
        where
          made : (d z : Bool) → is_none s.learned ≡ z
              → unwrap_or (cond (d && is_none s.learned) (option_map (slot_after_phase a.members p) (Some s)) (Some s))
              (slot_by_skip m (is_in_skipped m rs j))
              ≡ cond (d && is_none s.learned) (with_next_phase a.members p s) s
          made false z h = refl
          made true true h = rw h refl
          made true false h = rw h refl

      -- The knowledge about an instance that is not open stays as it was.
      phase_closed : (j : ℕ) → j < instance_count → is_open_in now a j ≡ false
          → instance_slot_in m new rs j ≡ instance_slot_in m slots rs j
      phase_closed j l closed =
          phase_slot j l (stored_at slots j) refl
          ∙ ap (λ z. cond z
          (with_next_phase now.members p (instance_slot now j)) (instance_slot now j)) closed
          ∙ seen m slots rs now shown j l

      pub phase_theirs : (j : ℕ) → j < instance_count → (owner m j ≡ a.server → ⊥)
          → instance_slot_in m new rs j ≡ instance_slot_in m slots rs j
      phase_theirs j l other =
          phase_closed j l (and_left _ _ (unskipped_other a.members a.server a.first a.stop j
          (ne_eqb (owner a.members j) a.server (λ e. other (sym (ap (λ n. owner n j) members) ∙ e)))))

      phase_stored : (j : ℕ) → (o : Option SlotState) → stored_at slots j ≡ o
          → is_some (stored_at new j) ≡ is_some (stored_at slots j)
      phase_stored j o e =
          ap is_some (begins j) ∙ kept (is_in a j && is_unlearned (stored_at slots j)) (stored_at slots j)
        where
          kept : (z : Bool) (x : Option SlotState)
              → is_some (cond z (option_map (slot_after_phase a.members p) x) x) ≡ is_some x
          kept true None = refl
          kept true (Some s) = refl
          kept false x = refl

      pub phase_shows : instances_in m new rs ≡ with_first_phases now p a
      phase_shows =
          same_instances m (instance_slot_in m new rs) _ (λ j. is_some (stored_at new j))
          (λ j. is_some (stored_at slots j))
          (λ j l. phase_slot j l (stored_at slots j) refl) (λ j l. phase_stored j (stored_at slots j) refl)
          ∙ ap (λ (y : InstancesState). record y {
            slots = map
                (λ j. cond (is_open_in now a j)
                (with_next_phase now.members p (instance_slot now j)) (instance_slot now j)) instances;
          }) shown

      pub phase_learned : (j : ℕ) → j < instance_count
          → is_none (instance_slot_in m new rs j).learned ≡ is_none (instance_slot_in m slots rs j).learned
      phase_learned j l =
          ap (λ (s : SlotState). is_none s.learned) (phase_slot j l (stored_at slots j) refl)
          ∙ kept (is_open_in now a j) ∙ ap (λ (s : SlotState). is_none s.learned) (seen m slots rs now shown j l)
        where
          kept : (z : Bool)
              → is_none
              (cond z (with_next_phase now.members p (instance_slot now j)) (instance_slot now j)).learned
              ≡ is_none (instance_slot now j).learned
          kept true = refl
          kept false = refl

      -- The intervals that the loop passed contain only learned instances.
      pub phase_passes : (old ends : List ℕ) → PassesLearnedIntervals a slots old ends
          → AreLearnedIntervals m (λ j. is_none (instance_slot_in m slots rs j).learned) old
          → AreLearnedIntervals m (λ j. is_none (instance_slot_in m new rs j).learned) ends
      phase_passes old ends passes known =
          intervals_of _ _ opens ends members
          (passes opens (intervals_of _ _ opens old (sym members)
          (intervals_stay _ _ opens old (λ j l learned. phase_learned j l ∙ learned) known)) closed)
        where
          opens : ℕ → Bool
          opens j = is_none (instance_slot_in m new rs j).learned

          closed : (j : ℕ) → is_in a j ≡ true → is_unlearned (stored_at slots j) ≡ false
              → is_none (instance_slot_in m new rs j).learned ≡ false
          closed j inside off =
              let l = in_small j inside in
              phase_learned j l ∙ ap (λ (s : SlotState). is_none s.learned) (sym (seen m slots rs now shown j l))
              ∙ ap (λ bit. bit && is_none (instance_slot now j).learned) (sym inside)
              ∙ sym (phase_is j l (stored_at slots j) refl) ∙ and_right _ _ off

      -- If no first phase is in the last round, the number of open instances stays the same, and each of them has a
      -- further round.
      module _ (rounds : (j : ℕ) → j < instance_count → is_open_in now a j ≡ true
          → next_round_of now.members (instance_slot now j) ≤ greatest_round)
          (last : (j : ℕ) (s : SlotState) → is_covered_slot a slots j ≡ true → stored_at new j ≡ Some s
          → is_spent a.members s ≡ false) where
        unspent_new : (j : ℕ) → is_covered_slot a slots j ≡ true → (o : Option SlotState) → stored_at new j ≡ o
            → is_spent m (instance_slot_in m new rs j) ≡ false
        unspent_new j z (Some s) e =
            ap (is_spent m) (instance_there m new rs j s e) ∙ ap (λ n. is_spent n s) (sym members) ∙ last j s z e
        unspent_new j z None e =
            ap (λ o. is_spent m (unwrap_or o (slot_by_skip m (is_in_skipped m rs j)))) e
            ∙ unspent_by_skip m (is_in_skipped m rs j)

        unspent_old : (j : ℕ) → j < instance_count → is_open_in now a j ≡ true
            → is_spent m (instance_slot_in m slots rs j) ≡ false
        unspent_old j l e =
            ap (is_spent m) (sym (seen m slots rs now shown j l))
            ∙ ap (λ n. is_spent n (instance_slot now j)) (ap (λ (y : InstancesState). y.members) shown)
            ∙ le-ltb greatest_round (next_round_of now.members (instance_slot now j)) (rounds j l e)

        pub phase_alike : (j : ℕ) → j < instance_count
            → IsAlike m (instance_slot_in m slots rs j) (instance_slot_in m new rs j)
        phase_alike j l = elim (cases_Bool (is_open_in now a j)) [
          | inl opens ↦ record {
            open_count = sym (phase_learned j l);
            spent_count = and_right _ _ (unspent_old j l opens)
                ∙ sym (and_right _ _
                (unspent_new j (phase_is j l (stored_at slots j) refl ∙ opens) (stored_at new j) refl));
          }
          | inr closed ↦ alike_same m _ _ (sym (phase_closed j l closed))
        ]

      pub phase_sound : AreSlotsAndSkips m new rs low
      phase_sound = record {
        sorted = sound.sorted;
        learned_where_skipped = λ j s l passed stored.
            ap (λ o. is_none (unwrap_or o (slot_by_skip m (is_in_skipped m rs j))).learned) (sym stored)
            ∙ phase_learned j l
            ∙ skipped_learned_at j l passed (stored_at slots j) refl;
        small = sound.small;
        learned = λ j l. phase_learned j (omega (arith, l, sound.small)) ∙ sound.learned j l;
        least = λ l. phase_learned low l ∙ sound.least l;
      }
        where
          skipped_learned_at : (j : ℕ) → j < instance_count → is_in_skipped m rs j ≡ true → (o : Option SlotState)
              → stored_at slots j ≡ o → is_none (instance_slot_in m slots rs j).learned ≡ false
          skipped_learned_at j l passed None e = rw (e, passed) refl
          skipped_learned_at j l passed (Some s) e = rw e (sound.learned_where_skipped j s l passed e)

-- ---- the interval of a suspicion

module _ (now : InstancesState) (q reach : ℕ) (a : OwnedInterval) (o : IsOpenInterval now q reach a) where
  low_stop : a.stop ≤ instance_count
  low_stop = omega (arith, o.stop)

  all_places : a.stop + (instance_count - a.stop) ≡ instance_count
  all_places = omega (arith, low_stop)

  past_closed : (j : ℕ) → a.stop ≤ j → is_open_in now a j ≡ false
  past_closed j h = and_left _ _ (unskipped_past a.members a.server a.first a.stop j h)

  count_all : (f g : ℕ → Bool) → ((j : ℕ) → a.stop ≤ j → f j ≡ false) → ((j : ℕ) → j < instance_count → f j ≡ g j)
      → count_by f (numbers_below a.stop) ≡ count_by g instances
  count_all f g past same =
      sym (ap (λ n. count_by f (numbers_below n)) (sym all_places)
      ∙ count_by-below_none f a.stop (instance_count - a.stop) (λ j low high. past j low))
      ∙ count_same f g instance_count same ∙ ap (count_by g) (sym instances-below)

  pub open_count : count_by (is_open_in now a) (numbers_below a.stop) ≡ count_by (is_covered_stored now q reach) instances
  open_count = count_all (is_open_in now a) (is_covered_stored now q reach) past_closed (open_same now q reach a o)

  pub open_sent : (p : ℕ) → prepares_in now p a ≡ prepares_stored now p q reach
  open_sent p =
      ap (map (prepare_stored now p))
      (sym (ap (λ n. filter (is_open_in now a) (numbers_below n)) (sym all_places)
      ∙ filter-below_none (is_open_in now a) a.stop (instance_count - a.stop) (λ j low high. past_closed j low)))
      ∙ sent_same (prepare_stored now p)
      (prepare_stored now p) (is_open_in now a) (is_covered_stored now q reach) instance_count
      (open_same now q reach a o) (λ j l d. refl)
      ∙ ap (λ xs. map (prepare_stored now p)
      (filter (is_covered_stored now q reach) xs)) (sym instances-below)

  pub stored_has : (j : ℕ) → j < instance_count → is_open_in now a j ≡ true → has_slot (with_open_stored now a) j ≡ true
  stored_has j l e =
      get_or-map-instances (λ i. has_slot now i || is_open_in now a i) j false l ∙ ap (λ d. has_slot now j || d) e
      ∙ or-true (has_slot now j)
    where
      or-true : (d : Bool) → (d || true) ≡ true
      or-true true = refl
      or-true false = refl

  pub suspect_is : (p : ℕ) → with_first_phases (with_open_stored now a) p a ≡ instances_after_suspect now p q reach
  suspect_is p =
      same_instances now.members
      (λ j. cond (is_open_in now a j)
      (with_next_phase now.members p (instance_slot now j)) (instance_slot now j))
      (λ j. cond (is_covered_stored now q reach j)
      (with_next_phase now.members p (instance_slot now j)) (instance_slot now j))
      (λ j. has_slot now j || is_open_in now a j) (λ j. has_slot now j || is_covered_stored now q reach j)
      (λ j l. ap (λ d. cond d
      (with_next_phase now.members p (instance_slot now j)) (instance_slot now j))
      (open_same now q reach a o j l))
      (λ j l. ap (λ d. has_slot now j || d) (open_same now q reach a o j l))
