-- Each call on a server's instances keeps the invariant of the server.
use Rattle.std.proofs.Common.{◌≡◌, ℕ, ◌+◌, ◌<◌, ◌≤◌, ◌⊎◌, ◌||◌, false, Some, get_or, length, min, refl, sym, ◌∙◌, ap, subst, arith}
use Rattle.std.proofs.lemmas.Grind.{get_or-set_at}
use Rattle.mencius_base.specs.declared.message.Value.TheVariants.{Ticket}
use Rattle.mencius_base.specs.Members.{Membership, owner}
use Rattle.coord_paxos.specs.SlotState.{SlotState}
use Rattle.coord_paxos.specs.Fresh.{new_slot}
use Rattle.mencius_server.specs.declared.change.Change.{Change}
use Rattle.mencius_server.specs.declared.change.Change.TheVariants.{Prepare, Accept, CountPromise, CountAcceptance, Learn}
use Rattle.mencius_server.specs.Changes.{IsSaid, slot_after_change}
use Rattle.mencius_server.specs.Inside.{IsServerInside}
use Rattle.mencius_server.specs.Instances.{InstancesState, instance_slot, instances_after_skip, instances_after_suggest, instances_after_suspect, reach_stored, with_instance_slot}
use Rattle.mencius_server.specs.Machine.{IsFree, after_skip, after_submit, after_suspect, is_free_at, is_ticket, suggested_in}
use Rattle.mencius_server.specs.Notes.{NotesState}
use Rattle.mencius_server.specs.State.{FitsAt, ServerState, slot, with_slot_and_front}
use Rattle.mencius_server.proofs.invariant.InvariantKept.{kept_as, place_keeps, place_marks, place_shows, put_keeps, put_shows, skip_keeps, skip_shown, suspect_keeps, suspect_shown}
use Rattle.mencius_server.proofs.stored.InstanceGaps.{free_facts}
use Rattle.mencius_server.proofs.invariant.ServerInvariant.{FitsAt-slot}
use Rattle.mencius_server.proofs.invariant.SlotFits.{FitsAt-promise, FitsAt-same, SameAttempt-accept, SameAttempt-acceptance, SameAttempt-learn, SameAttempt-prepare}
use Rattle.mencius_base.specs.Limits.{instance_count, most_servers}
use Rattle.mencius_model.specs.Rules.{is_noop}

-- The state that callers see of a server with these instances.
abbrev pub server_state : Membership → ℕ → ℕ → InstancesState → ServerState
server_state m p f known = record { members = m; id = p; front = f; slots = known.slots }

-- If a slot fits at an instance, the slot still fits there after a change.
FitsAt-slot_after_change : (s : ServerState) (f i : ℕ) (x : SlotState) (d : Change) → IsSaid s.members d
    → FitsAt s f i x
    → FitsAt s f i (slot_after_change x d)
FitsAt-slot_after_change s f i x (Prepare ballot) said fits = FitsAt-same s f i x _ (SameAttempt-prepare x ballot) fits
FitsAt-slot_after_change s f i x (Accept ballot value) said fits =
    FitsAt-same s f i x _ (SameAttempt-accept x ballot value) fits
FitsAt-slot_after_change s f i x (CountPromise from ballot vote) said fits =
    FitsAt-promise s f i x from ballot vote said.1 fits
FitsAt-slot_after_change s f i x (CountAcceptance from ballot) said fits = FitsAt-same s f i x _
    (SameAttempt-acceptance x from ballot) fits
FitsAt-slot_after_change s f i x (Learn value) said fits = FitsAt-same s f i x _ (SameAttempt-learn x value) fits

-- The invariant still holds if the notes are replaced by equal notes.
noted_as : (s : ServerState) (m : Membership) (noted after : NotesState) → after ≡ noted → IsServerInside s m noted
    → IsServerInside s m after
noted_as s m noted after same kept = subst (λ (n : NotesState). IsServerInside s m n) (sym same) kept

-- The invariant still holds after the notes get another place below which no own instance is free.
pub free_noted : (s : ServerState) (m : Membership) (n after : NotesState) (i : ℕ) → i ≤ instance_count
    → ((j : ℕ) → j < i → is_free_at s j ≡ false) → after ≡ record n { free_from = i } → IsServerInside s m n
    → IsServerInside s m after
free_noted s m n after i small none same kept =
    noted_as s m (record n { free_from = i }) after same (record {
      full = kept.full;
      members = kept.members;
      server = kept.server;
      early = kept.early;
      lost = kept.lost;
      bound = small;
      free = none;
      tickets = kept.tickets;
      short = kept.short;
      suggested_again = kept.suggested_again;
    })

module _ (m : Membership) (p f : ℕ) (s new : InstancesState) (before after : NotesState)
    (kept : IsServerInside (server_state m p f s) s.members before) where
  slot_is : (i : ℕ) → instance_slot s i ≡ slot (server_state m p f s) i
  slot_is i = ap (λ (n : Membership). get_or s.slots i (new_slot n)) kept.members

  -- A change of one slot keeps the invariant.
  pub change_kept : (i l : ℕ) (d : Change) → i < instance_count → IsSaid m d
      → new ≡ with_instance_slot s i (slot_after_change (instance_slot s i) d)
      → l ≤ before.lost_from → (l ≤ i) ⊎ (owner m i ≡ p → is_noop (instance_slot new i).learned ≡ false)
      → after ≡ record before { lost_from = l }
      → IsServerInside (server_state m p f new) new.members after
  change_kept i l d small said made early lost noted =
      let put : SlotState = slot_after_change (instance_slot s i) d in
      let inside : i < length s.slots = omega (arith, kept.full) in
      let there : instance_slot new i ≡ put = ap (λ (x : InstancesState). instance_slot x i) made
      ∙ get_or-set_at s.slots i i put (new_slot s.members) refl inside in
      let fits : FitsAt (server_state m p f s) f i put =
      subst (λ (y : SlotState). FitsAt (server_state m p f s) f i (slot_after_change y d)) (sym (slot_is i))
      (FitsAt-slot_after_change (server_state m p f s) f i (slot (server_state m p f s) i) d said
      (FitsAt-slot (server_state m p f s) i kept.server)) in
      let stays : (l ≤ i) ⊎ (owner m i ≡ p → is_noop put.learned ≡ false) =
      subst (λ (y : SlotState). (l ≤ i) ⊎ (owner m i ≡ p → is_noop y.learned ≡ false)) there lost in
      noted_as (server_state m p f new) new.members _ after noted
      (kept_as (server_state m p f new) (with_slot_and_front (server_state m p f s) i put f) s.members new.members _
      (put_shows m p f f s new (server_state m p f s) i put refl made)
      (ap (λ (x : InstancesState). x.members) made)
      (put_keeps (server_state m p f s) s.members i f put before l early stays fits (omega arith) kept.server.near kept))

  -- A Skip keeps the invariant.
  pub skip_kept : (q first stop l : ℕ) → new ≡ instances_after_skip s q first stop
      → l ≤ before.lost_from → (l ≤ first) ⊎ (q ≡ p → ⊥) → after ≡ record before { lost_from = l }
      → IsServerInside (server_state m p f new) new.members after
  skip_kept q first stop l made early lost noted =
      noted_as (server_state m p f new) new.members _ after noted
      (kept_as (server_state m p f new) (after_skip (server_state m p f s) q first stop) s.members new.members _
      (skip_shown m p f s new (server_state m p f s) q first stop refl kept.members made)
      (ap (λ (x : InstancesState). x.members) made)
      (skip_keeps (server_state m p f s) s.members q first stop before l early lost kept))

  -- A suspicion of another server keeps the invariant.
  pub suspect_kept : (q reach : ℕ) → reach ≡ reach_stored s q f → (p ≡ q → ⊥)
      → new ≡ instances_after_suspect s p q reach → after ≡ before
      → IsServerInside (server_state m p f new) new.members after
  suspect_kept q reach at other made noted =
      noted_as (server_state m p f new) new.members before after noted
      (kept_as (server_state m p f new) (after_suspect (server_state m p f s) q) s.members new.members before
      (suspect_shown m p f s (server_state m p f s) q refl kept.members reach at new made)
      (ap (λ (x : InstancesState). x.members) made)
      (suspect_keeps (server_state m p f s) s.members q before other kept))

  -- A suggestion keeps the invariant, even if the list of marks was lengthened first.
  pub place_kept : (mid : NotesState) (i t n : ℕ) → n ≡ m.count → 1 ≤ n → n ≤ most_servers → IsFree (server_state m p f s) i
      → new ≡ instances_after_suggest s i t
      → mid.lost_from ≡ before.lost_from → mid.next_ticket ≡ before.next_ticket
      → ((j : ℕ) → get_or mid.suggested_again j false ≡ get_or before.suggested_again j false)
      → mid.free_from ≡ before.free_from → after.free_from ≡ mid.free_from
      → after.lost_from ≡ mid.lost_from → (mid.next_ticket ≤ after.next_ticket) × (t < after.next_ticket)
      → length after.suggested_again ≤ f
      → ((j : ℕ) → j < f → j < instance_count
      → get_or after.suggested_again j false ≡ (get_or mid.suggested_again j false || is_ticket t
      (suggested_in m p j (instance_slot new j))))
      → ((j : ℕ) → min f instance_count ≤ j → get_or after.suggested_again j false ≡ get_or mid.suggested_again j false)
      → IsServerInside (server_state m p (i + n) new) new.members after
  place_kept mid i t n count some few free made lost next same free_was free_still lost_still above short marked rest =
      let y : SlotState = record (instance_slot s i) { proposal = Some (Ticket t) } in
      let shown : server_state m p (i + n) new ≡ after_submit (server_state m p f s) i t =
      ap (λ (x : ℕ). server_state m p (i + x) new) count
      ∙ place_shows m p f s new (server_state m p f s) i t y refl kept.members made refl in
      let marks = place_marks m p f s new (server_state m p f s) i t y before.suggested_again mid.suggested_again
      after.suggested_again refl kept.members made
      (free_facts (server_state m p f s) i free.free).1 kept.server kept.full same marked rest in
      noted_as (server_state m p (i + n) new) new.members _ after (noted_is (lost_still ∙ lost) (free_still ∙ free_was))
      (kept_as (server_state m p (i + n) new) (after_submit (server_state m p f s) i t) s.members new.members
      (record before { next_ticket = after.next_ticket; suggested_again = after.suggested_again })
      shown
      (ap (λ (x : InstancesState). x.members) made)
      (place_keeps (server_state m p f s) s.members i t before after.next_ticket after.suggested_again (omega arith)
      (omega arith) free
      (omega (arith, above.0)) above.1 short marks kept))
    where
      noted_is : after.lost_from ≡ before.lost_from → after.free_from ≡ before.free_from
          → after ≡ record before { next_ticket = after.next_ticket; suggested_again = after.suggested_again }
      noted_is e same =
          ap (λ (l : ℕ). record after { lost_from = l }) e
          ∙ ap (λ (l : ℕ). record after { lost_from = before.lost_from; free_from = l }) same
