-- The stored slots and the skipped intervals give a server's knowledge about each instance, before and after each
-- change.
use Rattle.std.proofs.Common.{◌≡◌, ℕ, zero, suc, ◌<◌, ◌≤◌, Bool, true, false, cond, List, [], ◌∷◌, ◌++◌, Option, None, Some, IsSome, eqb, get_or, length, map, set, refl, sym, ◌∙◌, ap, subst, arith, ⊎_elim}
use Rattle.std.specs.Prelude.{is_none, is_some, nat_le, unwrap_or}
use Rattle.std.specs.List.{count_by}
use Rattle.std.proofs.lemmas.List.Sums.{sum_by-cons}
use Rattle.std.proofs.lemmas.List.{get_or_past, get_or-set_other}
use Rattle.std.proofs.lemmas.Grind.{get_or-set_at}
use Rattle.std.proofs.lemmas.Bool.{cases_eq, cases_lt, eq-eqb, ne_eqb}
use Rattle.mencius_base.specs.Members.{Membership, instances, owner}
use Rattle.mencius_model.proofs.trace.NumberLists.{get_or-map-instances, length-map-instances, map-instances_same, map-instances_set}
use Rattle.coord_paxos.specs.SlotState.{SlotState}
use Rattle.coord_paxos.specs.Fresh.{new_slot}
use Rattle.coord_paxos.specs.Slot.{after_answer, due_decision, due_proposal, prepare_answer, with_acceptance, with_learned, with_promise, with_proposal}
use Rattle.mencius_base.specs.declared.message.Answer.{Answer}
use Rattle.mencius_base.specs.declared.message.Answer.TheVariants.{Promise as Promised, Known, Silent}
use Rattle.mencius_base.specs.declared.message.Value.{Value}
use Rattle.mencius_server.specs.Instances.{AreSlotsAndSkips, InstancesState, has_slot, instance_slot, instance_slot_in, instances_in, is_in_skipped, new_instances, slot_by_skip, with_stored}
use Rattle.mencius_server.specs.Slots.{stored_at}
use Rattle.mencius_server.specs.Changes.{slot_after_change}
use Rattle.mencius_server.specs.declared.change.Change.{Change}
use Rattle.mencius_server.specs.declared.change.Change.TheVariants.{Prepare, Accept, CountPromise, CountAcceptance, Learn}
use Rattle.mencius_server.specs.declared.skipped_intervals.Interval.{Interval}
use Rattle.mencius_base.specs.Limits.{instance_count}
use Rattle.mencius_server.proofs.intervals.IntervalCounts.{bit}

-- ---- the visible knowledge about an instance

module _ (m : Membership) (slots : List (Option SlotState)) (rs : List (List Interval)) (now : InstancesState)
    (shown : instances_in m slots rs ≡ now) where
  pub seen : (j : ℕ) → j < instance_count → instance_slot now j ≡ instance_slot_in m slots rs j
  seen j small =
      subst (λ (s : InstancesState). instance_slot s j ≡ instance_slot_in m slots rs j) shown
      (get_or-map-instances (instance_slot_in m slots rs) j (new_slot m) small)

  pub seen_some : (j : ℕ) (x : SlotState) → j < instance_count → stored_at slots j ≡ Some x → instance_slot now j ≡ x
  seen_some j x small e = seen j small ∙ ap (λ o. unwrap_or o (slot_by_skip m (is_in_skipped m rs j))) e

  pub seen_none : (j : ℕ) → j < instance_count → stored_at slots j ≡ None
      → instance_slot now j ≡ slot_by_skip m (is_in_skipped m rs j)
  seen_none j small e = seen j small ∙ ap (λ o. unwrap_or o (slot_by_skip m (is_in_skipped m rs j))) e

  pub seen_stored : (j : ℕ) → j < instance_count → has_slot now j ≡ is_some (stored_at slots j)
  seen_stored j small =
      subst (λ (s : InstancesState). has_slot s j ≡ is_some (stored_at slots j)) shown
      (get_or-map-instances (λ i. is_some (stored_at slots i)) j false small)

-- If a slot is stored at an instance, it contains the knowledge about the instance.
pub instance_there : (m : Membership) (slots : List (Option SlotState)) (rs : List (List Interval)) (j : ℕ)
    (s : SlotState)
    → stored_at slots j ≡ Some s → instance_slot_in m slots rs j ≡ s
instance_there m slots rs j s e = ap (λ o. unwrap_or o (slot_by_skip m (is_in_skipped m rs j))) e

-- If no slot is stored at an instance, the server promised, tried and proposed nothing there.
pub by_skip_quiet : (m : Membership) (a : Bool)
    → ((slot_by_skip m a).promised ≡ 0) × ((slot_by_skip m a).trying ≡ 0) × ((slot_by_skip m a).proposal ≡ None)
by_skip_quiet m true = (refl, refl, refl)
by_skip_quiet m false = (refl, refl, refl)

-- Two records of instances are equal if they agree at each instance.
pub same_instances : (m : Membership) (f g : ℕ → SlotState) (a test : ℕ → Bool)
    → ((j : ℕ) → j < instance_count → f j ≡ g j)
    → ((j : ℕ) → j < instance_count → a j ≡ test j)
    → ◌≡◌ {A = InstancesState} (record { members = m; slots = map f instances; is_stored = map a instances })
    (record { members = m; slots = map g instances; is_stored = map test instances })
same_instances m f g a test e h = rw (map-instances_same f g (new_slot m) e, map-instances_same a test false h)

-- ---- no knowledge yet

pub no_intervals_more : (xs : List (List Interval)) → ((q : ℕ) → get_or xs q [] ≡ []) → (q : ℕ)
    → get_or (xs ++ [] ∷ []) q [] ≡ []
no_intervals_more [] h zero = refl
no_intervals_more [] h (suc q) = refl
no_intervals_more (x ∷ xs) h zero = h 0
no_intervals_more (x ∷ xs) h (suc q) = no_intervals_more xs (λ q. h (suc q)) q

module _ (m : Membership) (slots : List (Option SlotState)) (rs : List (List Interval)) (empty : (j : ℕ)
    → stored_at slots j ≡ None) (none : (q : ℕ) → get_or rs q [] ≡ []) where
  by_skip_at : (j : ℕ) → instance_slot_in m slots rs j ≡ new_slot m
  by_skip_at j = rw (empty j, none (owner m j))

  pub new_sound : length rs ≡ m.count → AreSlotsAndSkips m slots rs 0
  new_sound count = record {
    sorted = record {
      count = count;
      intervals = λ q member. record { rising = rw (none q) tt; owned = rw (none q) tt };
    };
    learned_where_skipped = λ j t small passed stored. let no : Some t ≡ None = sym stored ∙ empty j in absurd (cc);
    small = omega arith;
    learned = λ j low. absurd (omega arith);
    least = λ low. rw (by_skip_at 0) refl;
  }

  pub new_shows : instances_in m slots rs ≡ new_instances m
  new_shows = same_instances m (instance_slot_in m slots rs) (λ j. new_slot m) (λ j. is_some (stored_at slots j))
      (λ j. false)
      (λ j small. by_skip_at j) (λ j small. ap is_some (empty j))

-- ---- storing a slot

module _ (m : Membership) (slots new : List (Option SlotState)) (rs : List (List Interval)) (i : ℕ)
    (empty : stored_at slots i ≡ None)
    (stored : (j : ℕ) → stored_at new j
    ≡ cond (eqb j i) (Some (slot_by_skip m (is_in_skipped m rs i))) (stored_at slots j)) where
  stored_here : (j : ℕ) → j ≡ i → stored_at new j ≡ Some (slot_by_skip m (is_in_skipped m rs i))
  stored_here j at =
      stored j ∙ ap (λ bit. cond bit (Some (slot_by_skip m (is_in_skipped m rs i))) (stored_at slots j)) (eq-eqb j i at)

  stored_off : (j : ℕ) → (j ≡ i → ⊥) → stored_at new j ≡ stored_at slots j
  stored_off j off =
      stored j ∙ ap (λ bit. cond bit (Some (slot_by_skip m (is_in_skipped m rs i))) (stored_at slots j))
      (ne_eqb j i off)

  pub store_same : (j : ℕ) → instance_slot_in m new rs j ≡ instance_slot_in m slots rs j
  store_same j =
      ⊎_elim
      (λ (at : j ≡ i).
      ap (λ o. unwrap_or o (slot_by_skip m (is_in_skipped m rs j))) (stored_here j at)
      ∙ ap (λ s. slot_by_skip m (is_in_skipped m rs s)) (sym at)
      ∙ sym (ap (λ o. unwrap_or o (slot_by_skip m (is_in_skipped m rs j))) (ap (stored_at slots) at ∙ empty)))
      (λ (off : j ≡ i → ⊥). ap (λ o. unwrap_or o (slot_by_skip m (is_in_skipped m rs j))) (stored_off j off))
      (cases_eq j i)

  pub store_shows : (now : InstancesState) → instances_in m slots rs ≡ now → instances_in m new rs ≡ with_stored now i
  store_shows now shown =
      subst (λ (s : InstancesState). instances_in m new rs ≡ with_stored s i) shown
      (rw (map-instances_same (instance_slot_in m new rs) (instance_slot_in m slots rs) (new_slot m)
      (λ j small. store_same j))
      (ap (λ (xs : List Bool). with_is_stored xs)
      (sym (map-instances_set (λ j. is_some (stored_at slots j)) (λ j. is_some (stored_at new j)) i true false
      (ap is_some (stored_here i refl)) (λ j small off. ap is_some (sym (stored_off j off)))))))
    where
      with_is_stored : List Bool → InstancesState
      with_is_stored xs = record { members = m; slots = map (instance_slot_in m slots rs) instances; is_stored = xs }

  pub store_sound : (low : ℕ) → AreSlotsAndSkips m slots rs low → AreSlotsAndSkips m new rs low
  store_sound low h = record {
    sorted = h.sorted;
    learned_where_skipped = λ j t small passed there. ⊎_elim
        (λ (at : j ≡ i).
        let is : Some t ≡ Some (slot_by_skip m (is_in_skipped m rs i)) = sym there ∙ stored_here j at in
        let same : t ≡ slot_by_skip m (is_in_skipped m rs i) = cc in
        rw (same, sym (ap (is_in_skipped m rs) at) ∙ passed) refl)
        (λ (off : j ≡ i → ⊥). h.learned_where_skipped j t small passed (sym (stored_off j off) ∙ there))
        (cases_eq j i);
    small = h.small;
    learned = λ j l. rw (store_same j) (h.learned j l);
    least = λ l. rw (store_same low) (h.least l);
  }

pub stored_has : (m : Membership) (slots new : List (Option SlotState)) (rs : List (List Interval)) (i : ℕ)
    → i < instance_count → (s : SlotState)
    → ((j : ℕ) → stored_at new j ≡ cond (eqb j i) (Some s) (stored_at slots j))
    → has_slot (instances_in m new rs) i ≡ true
stored_has m slots new rs i small s stored =
    get_or-map-instances (λ j. is_some (stored_at new j)) i false small
    ∙ ap is_some (stored i ∙ ap (λ bit. cond bit (Some s) (stored_at slots i)) (eq-eqb i i refl))

-- Once a slot is stored at an instance, it contains the earlier knowledge about the instance.
pub stored_slot : (m : Membership) (slots : List (Option SlotState)) (rs : List (List Interval))
    (now stored : InstancesState) (i : ℕ) (x : SlotState) → instances_in m slots rs ≡ stored
    → stored ≡ with_stored now i
    → i < instance_count → stored_at slots i ≡ Some x → instance_slot now i ≡ x
stored_slot m slots rs now stored i x shown ok small there =
    sym (ap (λ (s : InstancesState). instance_slot s i) ok) ∙ seen_some m slots rs stored shown i x small there

-- If a slot is stored already, storing one changes nothing.
pub stored_already : (m : Membership) (slots : List (Option SlotState))
    (rs : List (List Interval)) (now : InstancesState) (i : ℕ) → instances_in m slots rs ≡ now
    → is_some (stored_at slots i) ≡ true
    → now ≡ with_stored now i
stored_already m slots rs now i shown there =
    subst (λ (s : InstancesState). s ≡ with_stored s i) shown
    (ap with_is_stored
    (sym (map-instances_set (λ j. is_some (stored_at slots j))
    (λ j. is_some (stored_at slots j)) i true false there (λ j small off. refl))))
  where
    with_is_stored : List Bool → InstancesState
    with_is_stored xs = record { members = m; slots = map (instance_slot_in m slots rs) instances; is_stored = xs }

-- ---- changing a slot in place

module _ (m : Membership) (slots new : List (Option SlotState)) (rs : List (List Interval)) (i : ℕ) (old y : SlotState)
    (there : stored_at slots i ≡ Some old) (written : new ≡ set slots i (Some y)) where
  within : i < length slots
  within = past slots i there
    where
      past : (xs : List (Option SlotState)) (n : ℕ) → stored_at xs n ≡ Some old → n < length xs
      past [] n e = absurd (cc)
      past (x ∷ xs) zero e = omega arith
      past (x ∷ xs) (suc n) e = let l = past xs n e in omega (arith, l)

  written_here : (j : ℕ) → j ≡ i → stored_at new j ≡ Some y
  written_here j at = ap (λ xs. stored_at xs j) written ∙ get_or-set_at slots i j (Some y) None at within

  written_off : (j : ℕ) → (j ≡ i → ⊥) → stored_at new j ≡ stored_at slots j
  written_off j off = ap (λ xs. stored_at xs j) written ∙ get_or-set_other slots i j (Some y) None off

  pub at_here : (j : ℕ) → j ≡ i → instance_slot_in m new rs j ≡ y
  at_here j at = ap (λ o. unwrap_or o (slot_by_skip m (is_in_skipped m rs j))) (written_here j at)

  pub at_off : (j : ℕ) → (j ≡ i → ⊥) → instance_slot_in m new rs j ≡ instance_slot_in m slots rs j
  at_off j off = ap (λ o. unwrap_or o (slot_by_skip m (is_in_skipped m rs j))) (written_off j off)

  was_here : (j : ℕ) → j ≡ i → instance_slot_in m slots rs j ≡ old
  was_here j at = ap (λ o. unwrap_or o (slot_by_skip m (is_in_skipped m rs j))) (ap (stored_at slots) at ∙ there)

  pub written_shows : (now : InstancesState) → instances_in m slots rs ≡ now
      → instances_in m new rs ≡ record now { slots = set now.slots i y }
  written_shows now shown =
      subst (λ (s : InstancesState). instances_in m new rs ≡ record s { slots = set s.slots i y }) shown
      (rw (map-instances_same (λ j. is_some (stored_at new j)) (λ j. is_some (stored_at slots j)) false stored_same)
      (ap with_slots
      (sym (map-instances_set (instance_slot_in m slots rs) (instance_slot_in m new rs) i y (new_slot m)
      (at_here i refl)
      (λ j small off. sym (at_off j off))))))
    where
      with_slots : List SlotState → InstancesState
      with_slots xs = record { members = m; slots = xs; is_stored = map (λ j. is_some (stored_at slots j)) instances }

      stored_same : (j : ℕ) → j < instance_count → is_some (stored_at new j) ≡ is_some (stored_at slots j)
      stored_same j small =
          ⊎_elim
          (λ (at : j ≡ i). ap is_some (written_here j at) ∙ sym (ap is_some (ap (stored_at slots) at ∙ there)))
          (λ (off : j ≡ i → ⊥). ap is_some (written_off j off))
          (cases_eq j i)

  pub written_learned : (low : ℕ) → i < instance_count → (is_none old.learned ≡ false → is_none y.learned ≡ false)
      → AreSlotsAndSkips m slots rs low
      → (j : ℕ) (s : SlotState) → j < instance_count → is_in_skipped m rs j ≡ true → stored_at new j ≡ Some s
      → is_none s.learned ≡ false
  written_learned low inside stays h j s small passed stored =
      ⊎_elim
      (λ (at : j ≡ i).
      let is : Some s ≡ Some y = sym stored ∙ written_here j at in
      let same : s ≡ y = cc in
      rw same (stays (h.learned_where_skipped i old inside (sym (ap (is_in_skipped m rs) at) ∙ passed) there)))
      (λ (off : j ≡ i → ⊥). h.learned_where_skipped j s small passed (sym (written_off j off) ∙ stored))
      (cases_eq j i)

  pub written_slot : (j : ℕ) → (is_none old.learned ≡ false → is_none y.learned ≡ false)
      → is_none (instance_slot_in m slots rs j).learned ≡ false → is_none (instance_slot_in m new rs j).learned ≡ false
  written_slot j stays e =
      ⊎_elim
      (λ (at : j ≡ i). rw (at_here j at) (stays (sym (ap (λ (s : SlotState). is_none s.learned) (was_here j at)) ∙ e)))
      (λ (off : j ≡ i → ⊥). rw (at_off j off) e)
      (cases_eq j i)

  -- If another instance changes, the lowest unlearned instance stays the same.
  pub written_sound : (low : ℕ) → i < instance_count → (is_none old.learned ≡ false → is_none y.learned ≡ false)
      → (low ≡ i → ⊥) → AreSlotsAndSkips m slots rs low → AreSlotsAndSkips m new rs low
  written_sound low inside stays off h = record {
    sorted = h.sorted;
    learned_where_skipped = written_learned low inside stays h;
    small = h.small;
    learned = λ j l. written_slot j stays (h.learned j l);
    least = λ l. rw (at_off low off) (h.least l);
  }

  -- If the lowest unlearned instance changes, the search from it finds the new one.
  pub written_sound_from : (low next : ℕ) → i < instance_count
      → (is_none old.learned ≡ false → is_none y.learned ≡ false) → next ≤ instance_count
      → ((j : ℕ) → low ≤ j → j < next → is_none (instance_slot_in m new rs j).learned ≡ false)
      → (next < instance_count → is_none (instance_slot_in m new rs next).learned ≡ true)
      → AreSlotsAndSkips m slots rs low
      → AreSlotsAndSkips m new rs next
  written_sound_from low next inside stays small further least h = record {
    sorted = h.sorted;
    learned_where_skipped = written_learned low inside stays h;
    small = small;
    learned = λ j l. ⊎_elim (λ (before : j < low). written_slot j stays (h.learned j before))
        (λ (from : low ≤ j). further j from l) (cases_lt j low);
    least = least;
  }

  -- If the learned value of the changed slot stays, the lowest unlearned instance stays the same.
  pub written_quiet : (low : ℕ) → i < instance_count → y.learned ≡ old.learned → AreSlotsAndSkips m slots rs low
      → AreSlotsAndSkips m new rs low
  written_quiet low inside same h = record {
    sorted = h.sorted;
    learned_where_skipped = written_learned low inside stays h;
    small = h.small;
    learned = λ j l. written_slot j stays (h.learned j l);
    least = λ l. ⊎_elim
        (λ (at : low ≡ i). rw (at_here low at, same, ← was_here low at) (h.least l))
        (λ (off : low ≡ i → ⊥). rw (at_off low off) (h.least l))
        (cases_eq low i);
  }
    where
      stays : is_none old.learned ≡ false → is_none y.learned ≡ false
      stays e = ap is_none same ∙ e

-- The answer to a Prepare leaves a learned slot learned.
answered_learned : (s : SlotState) (b : ℕ) (answer : Answer) → is_none s.learned ≡ false
    → is_none (after_answer s b answer).learned ≡ false
answered_learned s b (Promised x) h = h
answered_learned s b (Known x) h = h
answered_learned s b Silent h = h

-- Each change leaves a learned slot learned.
pub change_learned : (s : SlotState) (a : Change) → is_none s.learned ≡ false
    → is_none (slot_after_change s a).learned ≡ false
change_learned s (Prepare b) h = answered_learned s b (prepare_answer s b) h
change_learned s (Accept b y) h = either (nat_le s.promised b)
  where
    either : (x : Bool)
        → is_none (cond x (record s { promised = b; vote = Some (record { ballot = b; value = y }) }) s).learned ≡ false
    either true = h
    either false = h
change_learned s (CountPromise q b y) h = counted (eqb b s.trying)
  where
    noted : (o : Option Value) → is_none (with_proposal (with_promise s q y) o).learned ≡ false
    noted None = h
    noted (Some x) = h

    counted : (x : Bool)
        → is_none (cond x (with_proposal (with_promise s q y) (due_proposal (with_promise s q y))) s).learned ≡ false
    counted true = noted (due_proposal (with_promise s q y))
    counted false = h
change_learned s (CountAcceptance q b) h = counted (eqb b s.trying)
  where
    noted : (o : Option Value) → is_none (with_learned (with_acceptance s q) o).learned ≡ false
    noted None = h
    noted (Some x) = refl

    counted : (x : Bool)
        → is_none (cond x (with_learned (with_acceptance s q) (due_decision (with_acceptance s q))) s).learned ≡ false
    counted true = noted (due_decision (with_acceptance s q))
    counted false = h
change_learned s (Learn y) h = rw h h

pub none_there : {A : Type 0} (o : Option A) (a : Bool) → a ≡ is_some o → a ≡ false → o ≡ None
none_there None a e fails = refl
none_there (Some x) a e fails = absurd (cc)

pub some_there : {A : Type 0} (o : Option A) → is_some o ≡ true → IsSome o
some_there o e = e

-- Two lists have equally many stored slots if they agree at each place on whether a slot is stored.
count_alike : (xs ys : List (Option SlotState))
    → ((j : ℕ) → is_some (get_or xs j None) ≡ is_some (get_or ys j None))
    → count_by is_some xs ≡ count_by is_some ys
count_alike [] [] h = refl
count_alike [] (y ∷ ys) h =
    let rest = count_alike [] ys (λ j. h (suc j)) in
    let none = ap bit (sym (h 0)) in
    omega (arith, rest, none, sum_by-cons (λ (o : Option SlotState). cond (is_some o) 1 0) y ys)
count_alike (x ∷ xs) [] h =
    let rest = count_alike xs [] (λ j. h (suc j)) in
    let none = ap bit (h 0) in
    omega (arith, rest, none, sum_by-cons (λ (o : Option SlotState). cond (is_some o) 1 0) x xs)
count_alike (x ∷ xs) (y ∷ ys) h =
    let rest = count_alike xs ys (λ j. h (suc j)) in
    let same = ap bit (h 0) in
    omega (
      arith,
      rest,
      same,
      sum_by-cons (λ (o : Option SlotState). cond (is_some o) 1 0) x xs,
      sum_by-cons
          (λ (o : Option SlotState). cond (is_some o) 1 0) y ys,
    )

-- The number of stored slots is the number of instances that have a stored slot.
pub stored_count : (m : Membership) (slots : List (Option SlotState)) (rs : List (List Interval)) (now : InstancesState)
    → instances_in m slots rs ≡ now → length slots ≤ instance_count
    → count_by is_some slots ≡ count_by (λ a. a) now.is_stored
stored_count m slots rs now shown few =
    count_alike slots (map (stored_at slots) instances) alike
    ∙ counts instances
    ∙ ap (λ (s : InstancesState). count_by (λ a. a) s.is_stored) shown
  where
    alike : (j : ℕ) → is_some (stored_at slots j) ≡ is_some (stored_at (map (stored_at slots) instances) j)
    alike j = ⊎_elim
        (λ (small : j < instance_count). ap is_some (sym (get_or-map-instances (stored_at slots) j None small)))
        (λ (past : instance_count ≤ j).
        ap is_some (get_or_past slots j None (omega (arith, few, past))
        ∙ sym (get_or_past (map (stored_at slots) instances) j None
        (let e = length-map-instances (stored_at slots) in omega (arith, e, past)))))
        (cases_lt j instance_count)

    counts : (xs : List ℕ)
        → count_by is_some (map (stored_at slots) xs) ≡ count_by (λ a. a) (map (λ j. is_some (stored_at slots j)) xs)
    counts [] = refl
    counts (x ∷ xs) =
        let rest = counts xs in
        omega (
          arith,
          rest,
          sum_by-cons (λ (o : Option SlotState). cond (is_some o) 1 0) (stored_at slots x) (map (stored_at slots) xs),
          sum_by-cons (λ (a : Bool). cond a 1 0) (is_some (stored_at slots x))
              (map (λ j. is_some (stored_at slots j)) xs),
        )
