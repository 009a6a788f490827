-- Each change of a server's fields keeps the facts that the server maintains over them.
use Rattle.std.proofs.Common.{◌≡◌, ℕ, ◌+◌, ◌<◌, ◌≤◌, ◌⊎◌, ◌&&◌, ◌||◌, Bool, true, false, Option, None, Some, inl, inr, ⊎_elim, cond, eqb, get_or, length, List, set, refl, sym, ◌∙◌, ap, subst, arith, filter, leb, map, ltb, min}
use Rattle.std.specs.Prelude.{is_none}
use Rattle.std.proofs.lemmas.Bool.{and_left, and_parts, and_right, cases_Bool, cases_lt, eqb-true, le-leb, leb-true, lt-leb, ne_eqb}
use Rattle.mencius_base.specs.declared.message.Value.{Value}
use Rattle.mencius_base.specs.declared.message.Value.TheVariants.{Noop, Ticket}
use Rattle.mencius_base.specs.Members.{Membership, instances, owner}
use Rattle.mencius_model.proofs.trace.NumberLists.{get_or-map-instances, length-map-instances}
use Rattle.coord_paxos.specs.SlotState.{SlotState}
use Rattle.coord_paxos.specs.Fresh.{new_slot}
use Rattle.coord_paxos.specs.Slot.{after_begin, after_learn}
use Rattle.mencius_server.specs.Inside.{IsServerInside}
use Rattle.mencius_server.specs.Notes.{NotesState}
use Rattle.mencius_server.specs.Machine.{IsFree, after_skip, after_submit, after_suspect, is_free_at, is_covered_in, is_spent_at, is_skipped, is_covered_at, is_ticket, next_prepare, reach_at, next_round_of, slot_after_skip, slot_after_suspect, stop_of, suggested_at, suggested_in, suspect_sent}
use Rattle.mencius_model.specs.Server.{ticket_of}
use Rattle.mencius_server.specs.State.{FitsAt, IsServer, ServerState, slot, with_slot_and_front}
use Rattle.mencius_server.specs.Instances.{InstancesState, instance_slot, instances_after_skip, instances_after_suspect, is_covered_stored, is_spent_stored, prepares_stored, reach_stored, with_instance_slot}
use Rattle.std.specs.List.{count_by, find, list_any}
use Rattle.std.proofs.lemmas.List.{get_or-set_other, get_or_past, length-set}
use Rattle.mencius_server.proofs.suspicions.FirstPhases.{IsServer-suspect}
use Rattle.mencius_server.proofs.stored.InstanceGaps.{free_facts, unrevoked_other}
use Rattle.mencius_server.proofs.invariant.ServerInvariant.{IsServer-with_slot, KeepsAt-fits, KeepsAt-suggested, set_keeps}
use Rattle.mencius_server.proofs.tickets.WaitingTickets.{SaysSame, past_same, suggested_again_later, tickets_later, waits_later, waits_none}
use Rattle.mencius_server.proofs.stored.SkipFromOutside.{IsServer-skip}
use Rattle.mencius_server.proofs.invariant.SlotFits.{SameAttempt-cond, SameAttempt-learn, SameAttempt-self}
use Rattle.mencius_base.specs.Limits.{greatest_front, greatest_round, instance_count, most_servers}
use Rattle.mencius_model.specs.Rules.{is_noop, is_open_from, reach_from}

with_slots : (m : Membership) (p f : ℕ) (xs ys : List SlotState) → xs ≡ ys
    → ◌≡◌ {A = ServerState} (record { members = m; id = p; front = f; slots = xs })
    (record { members = m; id = p; front = f; slots = ys })
with_slots m p f xs ys e = rw e

-- The server's knowledge about an instance is the slot that callers see.
pub instances_are : (m : Membership) (p f : ℕ) (x : InstancesState) (now : ServerState)
    → record { members = m; id = p; front = f; slots = x.slots } ≡ now → x.members ≡ m
    → (i : ℕ) → instance_slot x i ≡ slot now i
instances_are m p f x now shown same i =
    ap (λ (n : Membership). get_or x.slots i (new_slot n)) same ∙ ap (λ (s : ServerState). slot s i) shown

-- The invariant still holds for an equal server with an equal membership.
pub kept_as : (s y : ServerState) (m n : Membership) (noted : NotesState) → s ≡ y → n ≡ m → IsServerInside y m noted
    → IsServerInside s n noted
kept_as s y m n noted same members kept =
    subst (λ (x : ServerState). IsServerInside x n noted) (sym same)
    (subst (λ (x : Membership). IsServerInside y x noted) (sym members) kept)

-- An instance that is not free stays so if the front does not move back and learned instances stay learned.
unfree_stays : (s : ServerState) (f : ℕ) (xs : List SlotState) (j : ℕ) → s.front ≤ f
    → (is_none (slot s j).learned ≡ false → is_none (get_or xs j (new_slot s.members)).learned ≡ false)
    → is_free_at s j ≡ false → is_free_at (record s { front = f; slots = xs }) j ≡ false
unfree_stays s f xs j ahead stays unfree = elim (cases_Bool (eqb (owner s.members j) s.id)) [
  | inl mine ↦
      ⊎_elim
      (λ (before : j < f). and_left _ _ (and_right _ _ (lt-leb f j before)))
      (λ (from : f ≤ j).
      let reached : leb s.front j ≡ true = le-leb s.front j (omega arith) in
      and_right _ _ (stays (sym (ap (λ bit. (eqb (owner s.members j) s.id && bit) && is_none (slot s j).learned) reached
      ∙ ap (λ bit. (bit && true) && is_none (slot s j).learned) mine) ∙ unfree)))
      (cases_lt j f)
  | inr other ↦ and_left _ _ (and_left _ _ other)
]

-- The invariant still holds if the own suggestions are the same, no further instance is lost below `lost_from`, and no
-- instance becomes free.
same_keeps : (s x : ServerState) (m : Membership) (n after : NotesState) → SaysSame s x → IsServer x
    → length x.slots ≡ instance_count → m ≡ x.members → s.front ≤ x.front
    → after.lost_from ≤ n.lost_from → after.next_ticket ≡ n.next_ticket → after.suggested_again ≡ n.suggested_again
    → ((j : ℕ) → j < after.lost_from → is_noop (slot x j).learned ≡ true
    → (is_noop (slot s j).learned ≡ true) ⊎ (suggested_at s j ≡ None))
    → after.free_from ≡ n.free_from → ((j : ℕ) → j < instance_count → is_free_at s j ≡ false → is_free_at x j ≡ false)
    → IsServerInside s m n → IsServerInside x m after
same_keeps s x m n after said server full members ahead early next marks since place unfree kept = record {
  full = full;
  members = members;
  server = server;
  early = omega (arith, kept.early);
  lost = λ j low. waits_none s x said j (omega (arith, kept.early)) (kept.lost j (omega arith)) (since j low);
  bound = omega (arith, place, kept.bound);
  free = λ j low. unfree j (omega (arith, place, kept.bound)) (kept.free j (omega (arith, place)));
  tickets = λ j t small e. let low : t < n.next_ticket =
      kept.tickets j t small (sym (said.same j small) ∙ e) in omega arith;
  short = rw marks (omega (arith, kept.short));
  suggested_again = λ j t small e. past_same s x said t j ∙ kept.suggested_again j t small (sym (said.same j small) ∙ e)
      ∙ ap (λ (xs : List Bool). get_or xs j false) (sym marks);
}

-- Writing a slot that fits keeps the own suggestions.
put_says : (s : ServerState) (i f : ℕ) (x : SlotState) → FitsAt s f i x → SaysSame s (with_slot_and_front s i x f)
put_says s i f x fits = record { same = λ j small. go j (eqb (owner s.members j) s.id) refl } where
  go : (j : ℕ) (a : Bool) → eqb (owner s.members j) s.id ≡ a
      → suggested_at (with_slot_and_front s i x f) j ≡ suggested_at s j
  go j false other = rw other refl
  go j true mine =
      rw mine
      (set_keeps (λ (y : SlotState). ticket_of y.proposal
      ≡ ticket_of (slot s j).proposal) s.slots i j x (new_slot s.members)
      (λ at. ap ticket_of (fits.said (ap (owner s.members) (sym at) ∙ eqb-true _ _ mine))
      ∙ ap (λ (j : ℕ). ticket_of (slot s j).proposal) (sym at)) refl)

put_since : (s : ServerState) (i f l : ℕ) (x : SlotState)
    → (l ≤ i) ⊎ (owner s.members i ≡ s.id → is_noop x.learned ≡ false)
    → (j : ℕ) → j < l → is_noop (slot (with_slot_and_front s i x f) j).learned ≡ true
    → (is_noop (slot s j).learned ≡ true) ⊎ (suggested_at s j ≡ None)
put_since s i f l x (inl early) j low =
    set_keeps (λ (y : SlotState). is_noop y.learned ≡ true
    → (is_noop (slot s j).learned ≡ true) ⊎ (suggested_at s j ≡ None)) s.slots i j x (new_slot s.members)
    (λ at lost. absurd (omega arith)) (λ lost. inl lost)
put_since s i f l x (inr kept) j low =
    set_keeps (λ (y : SlotState). is_noop y.learned ≡ true
    → (is_noop (slot s j).learned ≡ true) ⊎ (suggested_at s j ≡ None)) s.slots i j x (new_slot s.members)
    (λ at lost. elim (cases_Bool (eqb (owner s.members j) s.id)) [
      | inl mine ↦ let no : is_noop x.learned ≡ false =
          kept (ap (owner s.members) (sym at) ∙ eqb-true _ _ mine) in absurd (cc)
      | inr other ↦ inr (rw other refl)
    ]) (λ lost. inl lost)

-- Writing a slot and the front keeps the invariant.
pub put_keeps : (now : ServerState) (m : Membership) (i g : ℕ) (s : SlotState) (n : NotesState) (l : ℕ)
    → l ≤ n.lost_from → (l ≤ i) ⊎ (owner now.members i ≡ now.id → is_noop s.learned ≡ false)
    → FitsAt now g i s → now.front ≤ g → g ≤ greatest_front
    → IsServerInside now m n → IsServerInside (with_slot_and_front now i s g) m (record n { lost_from = l })
put_keeps now m i g s n l early lost fits ahead near kept =
    same_keeps now (with_slot_and_front now i s g) m n _ (put_says now i g s fits)
    (IsServer-with_slot now i s g kept.server (KeepsAt-fits now g i s fits) ahead near) (length-set now.slots i s
    ∙ kept.full) kept.members ahead
    early refl refl (put_since now i g l s lost) refl
    (λ j small. unfree_stays now g (set now.slots i s) j ahead
    (set_keeps (λ (y : SlotState). is_none (slot now j).learned ≡ false
    → is_none y.learned ≡ false) now.slots i j s (new_slot now.members)
    (λ at known. fits.stays (ap (λ j. is_none (slot now j).learned) (sym at) ∙ known)) (λ known. known))) kept

pub put_shows : (m : Membership) (p f g : ℕ) (old new : InstancesState) (now : ServerState) (i : ℕ) (y : SlotState)
    → record { members = m; id = p; front = f; slots = old.slots } ≡ now → new ≡ with_instance_slot old i y
    → record { members = m; id = p; front = g; slots = new.slots } ≡ with_slot_and_front now i y g
put_shows m p f g old new now i y shown written =
    subst (λ (s : ServerState). record { members = m; id = p; front = g; slots = new.slots }
    ≡ with_slot_and_front s i y g) shown
    (with_slots m p g _ _ (ap (λ (x : InstancesState). x.slots) written))

-- The slot of an instance after a Skip is heard.
skip_slot : (s : ServerState) (q first stop j : ℕ) → j < instance_count
    → slot (after_skip s q first stop) j ≡ slot_after_skip s.members q first stop j (slot s j)
skip_slot s q first stop j small =
    get_or-map-instances (λ (i : ℕ). slot_after_skip s.members q first stop i (slot s i)) j (new_slot s.members) small

skip_since : (s : ServerState) (q first stop l : ℕ) → (l ≤ first) ⊎ (q ≡ s.id → ⊥) → (j : ℕ) → j < l
    → j < instance_count → is_noop (slot (after_skip s q first stop) j).learned ≡ true
    → (is_noop (slot s j).learned ≡ true) ⊎ (suggested_at s j ≡ None)
skip_since s q first stop l lost j low small noop =
    elim (cases_Bool (is_skipped s.members q first stop j)) [
      | inl given ↦
          let parts = and_parts _ _ (and_parts _ _ given).0 in
          let theirs : owner s.members j ≡ q = sym (eqb-true _ _ parts.0) in
          let above : first ≤ j = leb-true _ _ parts.1 in
          elim lost [
            | inl early ↦ absurd (omega arith)
            | inr other ↦ inr (rw (ne_eqb (owner s.members j) s.id (λ mine. other (sym theirs ∙ mine))) refl)
          ]
      | inr not_given ↦ inl (rw (skip_slot s q first stop j small, not_given) at noop)
    ]

after_skip_learned : (a : Bool) (s : SlotState) → is_none s.learned ≡ false
    → is_none (cond a (after_learn s Noop) s).learned ≡ false
after_skip_learned true s known = rw known known
after_skip_learned false s known = known

pub skip_keeps : (s : ServerState) (m : Membership) (q first stop : ℕ) (n : NotesState) (l : ℕ) → l ≤ n.lost_from
    → (l ≤ first) ⊎ (q ≡ s.id → ⊥) → IsServerInside s m n
    → IsServerInside (after_skip s q first stop) m (record n { lost_from = l })
skip_keeps s m q first stop n l early lost kept =
    same_keeps s (after_skip s q first stop) m n _
    (record {
      same = λ j small. ap (suggested_in s.members s.id j) (skip_slot s q first stop j small)
          ∙ ap (λ (o : Option Value). cond (eqb (owner s.members j) s.id) (ticket_of o) None)
          (SameAttempt-cond (is_skipped s.members q first stop j) (slot s j) (after_learn (slot s j) Noop) (slot s j)
          (SameAttempt-learn (slot s j) Noop) (SameAttempt-self (slot s j))).proposal;
    })
    (IsServer-skip s q first stop kept.server)
    (length-map-instances (λ (j : ℕ). slot_after_skip s.members q first stop j (slot s j))) kept.members (omega arith)
    early refl refl (λ j low noop. skip_since s q first stop l lost j low (omega (arith, kept.early)) noop) refl
    (λ j small. unfree_stays s s.front _ j (omega arith)
    (λ known. ap (λ (x : SlotState). is_none x.learned) (skip_slot s q first stop j small)
    ∙ after_skip_learned (is_skipped s.members q first stop j) (slot s j) known)) kept

pub skip_shown : (m : Membership) (p f : ℕ) (old new : InstancesState) (now : ServerState) (q first stop : ℕ)
    → record { members = m; id = p; front = f; slots = old.slots } ≡ now → old.members ≡ m
    → new ≡ instances_after_skip old q first stop
    → record { members = m; id = p; front = f; slots = new.slots } ≡ after_skip now q first stop
skip_shown m p f old new now q first stop shown same made =
    subst (λ (s : ServerState). record { members = m; id = p; front = f; slots = new.slots }
    ≡ after_skip s q first stop) shown
    (with_slots m p f _ _
    (ap (λ (x : InstancesState). x.slots) made
    ∙ ap (λ (n : Membership). map
    (λ (j : ℕ). slot_after_skip n q first stop j (get_or old.slots j (new_slot n))) instances) same))

-- The slot of an instance after a suspicion.
suspect_slot : (s : ServerState) (q j : ℕ) → j < instance_count
    → slot (after_suspect s q) j ≡ slot_after_suspect s.members s.id q (reach_at s q) j (slot s j)
suspect_slot s q j small =
    get_or-map-instances (λ (i : ℕ). slot_after_suspect s.members s.id q (reach_at s q) i (slot s i)) j (new_slot s.members) small

-- A suspicion of another server leaves the slots of own instances as they were.
suspect_own : (s : ServerState) (q j : ℕ) → (s.id ≡ q → ⊥) → j < instance_count → owner s.members j ≡ s.id
    → slot (after_suspect s q) j ≡ slot s j
suspect_own s q j other small mine =
    suspect_slot s q j small
    ∙ rw (unrevoked_other s.members q (reach_at s q) j (slot s j)
    (ne_eqb (owner s.members j) q (λ theirs. other (sym mine ∙ theirs)))) refl

suspect_says : (s : ServerState) (q j : ℕ) → (s.id ≡ q → ⊥) → j < instance_count → (a : Bool)
    → eqb (owner s.members j) s.id ≡ a → suggested_at (after_suspect s q) j ≡ suggested_at s j
suspect_says s q j other small true mine =
    rw mine (ap (λ (x : SlotState). ticket_of x.proposal) (suspect_own s q j other small (eqb-true _ _ mine)))
suspect_says s q j other small false theirs = rw theirs refl

suspect_since : (s : ServerState) (q j : ℕ) → (s.id ≡ q → ⊥) → j < instance_count
    → is_noop (slot (after_suspect s q) j).learned ≡ true → (a : Bool) → eqb (owner s.members j) s.id ≡ a
    → (is_noop (slot s j).learned ≡ true) ⊎ (suggested_at s j ≡ None)
suspect_since s q j other small noop true mine =
    inl (subst (λ (x : SlotState). is_noop x.learned ≡ true) (suspect_own s q j other small (eqb-true _ _ mine)) noop)
suspect_since s q j other small noop false theirs = inr (rw theirs refl)

after_suspect_learned : (a : Bool) (s : SlotState) (ballot : ℕ) → is_none s.learned ≡ false
    → is_none (cond a (after_begin s ballot) s).learned ≡ false
after_suspect_learned true s ballot known = known
after_suspect_learned false s ballot known = known

pub suspect_keeps : (s : ServerState) (m : Membership) (q : ℕ) (n : NotesState) → (s.id ≡ q → ⊥) → IsServerInside s m n
    → IsServerInside (after_suspect s q) m n
suspect_keeps s m q n other kept =
    same_keeps s (after_suspect s q) m n n
    (record { same = λ j small. suspect_says s q j other small _ refl })
    (IsServer-suspect s q other kept.server)
    (length-map-instances
    (λ (j : ℕ). slot_after_suspect s.members s.id q (reach_at s q) j (slot s j))) kept.members (omega arith)
    (omega arith) refl refl (λ j low noop. suspect_since s q j other (omega (arith, kept.early)) noop _ refl) refl
    (λ j small. unfree_stays s s.front _ j (omega arith)
    (λ known. ap (λ (x : SlotState). is_none x.learned) (suspect_slot s q j small)
    ∙ after_suspect_learned (is_covered_in s.members q (reach_at s q) j (slot s j)) (slot s j) _ known)) kept

-- A suspicion keeps the invariant, in terms of the server's knowledge about the instances.
module _ (m : Membership) (p f : ℕ) (y : InstancesState) (now : ServerState) (q : ℕ)
    (shown : record { members = m; id = p; front = f; slots = y.slots } ≡ now) (same : y.members ≡ m)
    (reach : ℕ) (at : reach ≡ reach_stored y q f) where
  -- The state that callers see, and the reach of the suspicion by that state.
  abbrev shown_state : ServerState
  shown_state = record { members = m; id = p; front = f; slots = y.slots }

  reach_shown : reach ≡ reach_at shown_state q
  reach_shown =
      at
      ∙ ap (λ (n : Membership). stop_of (reach_from n f
      (find (λ (j : ℕ). is_open_from n q j (get_or y.slots j (new_slot n)).learned) instances))) same

  pub open_shown : (j : ℕ) → is_covered_stored y q reach j ≡ is_covered_at now q j
  open_shown j =
      ap (λ (r : ℕ). is_covered_stored y q r j) reach_shown
      ∙ ap (λ (n : Membership). is_covered_in n q (reach_at shown_state q) j (get_or y.slots j (new_slot n))) same
      ∙ ap (λ (s : ServerState). is_covered_at s q j) shown

  pub open_count : count_by (is_covered_stored y q reach) instances ≡ count_by (is_covered_at now q) instances
  open_count =
      ap (λ (r : ℕ). count_by (is_covered_stored y q r) instances) reach_shown
      ∙ ap (λ (n : Membership).
      count_by (λ (j : ℕ). is_covered_in n q (reach_at shown_state q) j (get_or y.slots j (new_slot n))) instances) same
      ∙ ap (λ (s : ServerState). count_by (is_covered_at s q) instances) shown

  pub open_rounds : ((j : ℕ) → j < instance_count → is_covered_at now q j ≡ true
      → next_round_of now.members (slot now j) ≤ greatest_round)
      → (j : ℕ) → j < instance_count → is_covered_stored y q reach j ≡ true
      → next_round_of y.members (instance_slot y j) ≤ greatest_round
  open_rounds rounds j small e =
      let there = rounds j small (sym (open_shown j) ∙ e) in
      let is : next_round_of y.members (instance_slot y j) ≡ next_round_of now.members (slot now j) =
      ap (λ (n : Membership). next_round_of n (get_or y.slots j (new_slot n))) same
      ∙ ap (λ (s : ServerState). next_round_of s.members (slot s j)) shown in
      rw is there

  pub spent_shown : list_any (is_spent_stored y) (filter (is_covered_stored y q reach) instances)
      ≡ list_any (is_spent_at now) (filter (is_covered_at now q) instances)
  spent_shown =
      ap (λ (r : ℕ). list_any (is_spent_stored y) (filter (is_covered_stored y q r) instances)) reach_shown
      ∙ ap (λ (n : Membership). list_any
      (λ (j : ℕ). ltb greatest_round (next_round_of n (get_or y.slots j (new_slot n))))
      (filter (λ (j : ℕ). is_covered_in n q (reach_at shown_state q) j (get_or y.slots j (new_slot n))) instances)) same
      ∙ ap (λ (s : ServerState). list_any (is_spent_at s) (filter (is_covered_at s q) instances)) shown

  pub sent_shown : prepares_stored y p q reach ≡ suspect_sent now q
  sent_shown =
      ap (λ (r : ℕ). prepares_stored y p q r) reach_shown
      ∙ ap (λ (n : Membership). map (λ (j : ℕ). next_prepare n p j (get_or y.slots j (new_slot n)))
      (filter (λ (j : ℕ). is_covered_in n q (reach_at shown_state q) j (get_or y.slots j (new_slot n))) instances)) same
      ∙ ap (λ (s : ServerState). suspect_sent s q) shown

  pub suspect_shown : (new : InstancesState) → new ≡ instances_after_suspect y p q reach
      → record { members = m; id = p; front = f; slots = new.slots } ≡ after_suspect now q
  suspect_shown new made =
      subst (λ (s : ServerState). record { members = m; id = p; front = f; slots = new.slots }
      ≡ after_suspect s q) shown
      (with_slots m p f _ _
      (ap (λ (x : InstancesState). x.slots) made
      ∙ ap (λ (r : ℕ). map (λ (j : ℕ). slot_after_suspect y.members p q r j (instance_slot y j)) instances) reach_shown
      ∙ ap (λ (n : Membership). map
      (λ (j : ℕ). slot_after_suspect n p q (reach_at shown_state q) j (get_or y.slots j (new_slot n))) instances) same))

-- A suggestion keeps the invariant.
pub place_keeps : (s : ServerState) (m : Membership) (i t : ℕ) (n : NotesState) (next : ℕ) (marks : List Bool)
    → 1 ≤ s.members.count → s.members.count ≤ most_servers → IsFree s i
    → n.next_ticket ≤ next → t < next → length marks ≤ s.front
    → ((j : ℕ) → get_or marks j false
    ≡ (get_or n.suggested_again j false || is_ticket t (suggested_in s.members s.id j (slot s j))))
    → IsServerInside s m n
    → IsServerInside (after_submit s i t) m (record n { next_ticket = next; suggested_again = marks })
place_keeps s m i t n next marks some few free more above short marked kept =
    let inside : i < length s.slots = rw kept.full free.small in
    let at = free_facts s i free.free in
    record {
      full = length-set s.slots i (record (slot s i) { proposal = Some (Ticket t) }) ∙ kept.full;
      members = kept.members;
      server = IsServer-with_slot s i _ (i + s.members.count) kept.server
          (KeepsAt-suggested s (i + s.members.count) i (Some (Ticket t)) (omega arith) kept.server)
          (omega (arith, at.1)) (omega (arith, free.small));
      early = kept.early;
      lost = λ j low. waits_later s i t kept.server at.0 at.1 inside free.small j at.2
          (kept.lost j low);
      bound = kept.bound;
      free = λ j low. unfree_stays s (i + s.members.count) _ j (omega (arith, at.1))
          (set_keeps (λ (y : SlotState). is_none (slot s j).learned ≡ false
          → is_none y.learned ≡ false) s.slots i j (record (slot s i) { proposal = Some (Ticket t) })
          (new_slot s.members)
          (λ at known. ap (λ j. is_none (slot s j).learned) (sym at) ∙ known) (λ known. known)) (kept.free j low);
      tickets = tickets_later s i t kept.server at.0 at.1 inside free.small n.next_ticket next more above
          kept.tickets;
      short = omega (arith, at.1);
      suggested_again = suggested_again_later s i t kept.server at.0 at.1 inside free.small n.suggested_again marks
          kept.short kept.suggested_again
          marked;
    }

pub place_shows : (m : Membership) (p f : ℕ) (old new : InstancesState) (now : ServerState) (i t : ℕ) (y : SlotState)
    → record { members = m; id = p; front = f; slots = old.slots } ≡ now → old.members ≡ m
    → new ≡ with_instance_slot old i y → y ≡ record (instance_slot old i) { proposal = Some (Ticket t) }
    → record { members = m; id = p; front = i + m.count; slots = new.slots } ≡ after_submit now i t
place_shows m p f old new now i t y shown same written made =
    subst (λ (s : ServerState). record { members = m; id = p; front = i + m.count; slots = new.slots }
    ≡ after_submit s i t) shown
    (with_slots m p (i + m.count) _ _
    (ap (λ (x : InstancesState). x.slots) written ∙ ap (set old.slots i) made
    ∙ ap (λ (n : Membership). set old.slots i
    (record (get_or old.slots i (new_slot n)) { proposal = Some (Ticket t) })) same))

or-false : (a : Bool) → (a || false) ≡ a
or-false true = refl
or-false false = refl

-- Writing the slot of one instance leaves the slots of other instances as they were.
slot_as : (m : Membership) (old new : InstancesState) (i j : ℕ) (y : SlotState) → new ≡ with_instance_slot old i y
    → old.members ≡ m → (j ≡ i → ⊥) → instance_slot new j ≡ get_or old.slots j (new_slot m)
slot_as m old new i j y written same off =
    ap (λ (x : InstancesState). instance_slot x j) written
    ∙ get_or-set_other old.slots i j y (new_slot old.members) off
    ∙ ap (λ (n : Membership). get_or old.slots j (new_slot n)) same

-- No ticket is suggested at or above the front.
unsuggested_high : (m : Membership) (p f : ℕ) (slots : List SlotState) (t j : ℕ)
    → IsServer (record { members = m; id = p; front = f; slots = slots }) → length slots ≡ instance_count
    → min f instance_count ≤ j
    → is_ticket t (suggested_in m p j (get_or slots j (new_slot m))) ≡ false
unsuggested_high m p f slots t j server full high = go (eqb (owner m j) p) refl
  where
    go : (a : Bool) → eqb (owner m j) p ≡ a
        → is_ticket t (suggested_in m p j (get_or slots j (new_slot m))) ≡ false
    go false other = rw other refl
    go true mine =
        rw mine
        (⊎_elim
        (λ (low : j < f). let past : length slots ≤ j = omega (arith, full) in
        rw (get_or_past slots j (new_slot m) past) refl)
        (λ (past : f ≤ j). rw (server.unsaid j (eqb-true _ _ mine) past) refl)
        (cases_lt j f))

-- The marks that a suggestion makes, in terms of the server that callers saw before it.
pub place_marks : (m : Membership) (p f : ℕ) (old new : InstancesState) (now : ServerState) (i t : ℕ) (y : SlotState)
    (marked_before blank marks : List Bool)
    → record { members = m; id = p; front = f; slots = old.slots } ≡ now → old.members ≡ m
    → new ≡ with_instance_slot old i y
    → f ≤ i
    → IsServer (record { members = m; id = p; front = f; slots = old.slots }) → length old.slots ≡ instance_count
    → ((j : ℕ) → get_or blank j false ≡ get_or marked_before j false)
    → ((j : ℕ) → j < f → j < instance_count
    → get_or marks j false ≡ (get_or blank j false || is_ticket t (suggested_in m p j (instance_slot new j))))
    → ((j : ℕ) → min f instance_count ≤ j → get_or marks j false ≡ get_or blank j false)
    → (j : ℕ) → get_or marks j false
    ≡ (get_or marked_before j false || is_ticket t (suggested_in now.members now.id j (slot now j)))
place_marks m p f old new now i t y marked_before blank marks shown same written ahead server full kept marked rest j =
    subst (λ (s : ServerState). get_or marks j false
    ≡ (get_or marked_before j false || is_ticket t (suggested_in s.members s.id j (slot s j)))) shown
    (⊎_elim
    (λ (low : j < min f instance_count).
    marked j (omega arith) (omega arith)
    ∙ ap (λ (a : Bool). a || is_ticket t (suggested_in m p j (instance_slot new j))) (kept j)
    ∙ ap (λ (x : SlotState). get_or marked_before j false || is_ticket t (suggested_in m p j x))
    (slot_as m old new i j y written same (λ at. absurd (omega arith))))
    (λ (high : min f instance_count ≤ j).
    rest j high ∙ kept j
    ∙ sym (ap (λ (a : Bool). get_or marked_before j false || a) (unsuggested_high m p f old.slots t j server full high)
    ∙ or-false (get_or marked_before j false)))
    (cases_lt j (min f instance_count)))
