-- The effect of a suggestion on the server that hears it, in each case of its two tests.
use Rattle.std.proofs.Common.{◌≡◌, ℕ, ◌+◌, ◌++◌, ◌∷◌, List, [], Bool, false, true, Option, Some, cond, eqb, leb, ltb, zero, suc, refl, sym, ◌∙◌, ap, arith, append-nil, append_assoc}
use Rattle.std.proofs.lemmas.Bool.{lt-leb, ne_eqb}
use Rattle.std.proofs.lemmas.List.{set-get_or}
use Rattle.mencius_base.specs.declared.message.Message.{Message}
use Rattle.mencius_base.specs.declared.message.Message.TheVariants.{Accepted, Skip}
use Rattle.mencius_base.specs.declared.message.Vote.{Vote}
use Rattle.mencius_base.specs.declared.message.Value.TheVariants.{Ticket}
use Rattle.mencius_base.specs.Members.{first_owned}
use Rattle.mencius_model.specs.Trace.{Sent, messages_of}
use Rattle.coord_paxos.specs.SlotState.{SlotState}
use Rattle.coord_paxos.specs.Fresh.{new_slot}
use Rattle.coord_paxos.specs.Slot.{after_accept}
use Rattle.mencius_server.specs.Machine.{after_suggest, next_front, own_skip, suggest_sent}
use Rattle.mencius_server.specs.State.{ServerState, slot, with_slot, with_slot_and_front}

-- A ballot is at most 0 exactly if it is 0.
pub leb_zero : (n : ℕ) → leb n 0 ≡ eqb n 0
leb_zero zero = refl
leb_zero (suc n) = lt-leb (suc n) 0 (omega arith) ∙ sym (ne_eqb (suc n) 0 (λ e. absurd (omega arith)))

module _ (s : ServerState) (i t : ℕ) where
  abbrev accepted : SlotState
  accepted = after_accept (slot s i) 0 (Ticket t)

  pub nothing_accepted : leb (slot s i).promised 0 ≡ false → s ≡ with_slot s i accepted
  nothing_accepted fails =
      let vote : Option Vote = Some (record { ballot = 0; value = Ticket t }) in
      sym (ap (λ (a : Bool). with_slot s i (cond a (record (slot s i) { promised = 0; vote = vote }) (slot s i))) fails
      ∙ ap (λ (xs : List SlotState). record s { slots = xs }) (set-get_or s.slots i (new_slot s.members)))

  -- The front stays if the suggestion is not above it.
  pub front_stays : ltb s.front i ≡ false → with_slot s i accepted ≡ after_suggest s i t
  front_stays fails = sym (ap (λ (a : Bool). with_slot_and_front s i accepted
      (cond a (first_owned s.members s.id (i + 1)) s.front)) fails)

  pub front_moves : (mid : ServerState) → mid ≡ with_slot s i accepted
      → record mid { front = next_front mid i } ≡ after_suggest s i t
  front_moves mid is = ap (λ (x : ServerState). record x { front = next_front x i }) is

  pub nothing_skipped : (xs : List Message) → ltb s.front i ≡ false → xs ≡ xs ++ own_skip s i
  nothing_skipped xs fails =
      let skip = Skip s.id s.front (first_owned s.members s.id (i + 1)) in
      sym (ap (λ (a : Bool). xs ++ messages_of (cond a (Sent skip ∷ []) [])) fails ∙ append-nil xs)

  pub skip_says : (mid : ServerState) → mid ≡ with_slot s i accepted → own_skip mid i ≡ own_skip s i
  skip_says mid is = ap (λ (x : ServerState). own_skip x i) is

  -- The acceptance comes after the Skip on the outbox.
  pub acceptance_sent : (xs : List Message) (q p : ℕ) → p ≡ s.id → leb (slot s i).promised 0 ≡ true
      → (xs ++ own_skip s i) ++ (Accepted p q i 0 ∷ []) ≡ xs ++ suggest_sent s q i
  acceptance_sent xs q p own holds =
      append_assoc xs (own_skip s i) (Accepted p q i 0 ∷ [])
      ∙ ap (λ (n : ℕ). xs ++ (own_skip s i ++ (Accepted n q i 0 ∷ []))) own
      ∙ ap (λ (a : Bool). xs ++ (own_skip s i ++ messages_of (cond a (Sent (Accepted s.id q i 0) ∷ []) [])))
      (sym holds)

  pub no_acceptance : (xs : List Message) (q : ℕ) → leb (slot s i).promised 0 ≡ false
      → xs ++ own_skip s i ≡ xs ++ suggest_sent s q i
  no_acceptance xs q fails =
      ap (λ (ys : List Message). xs ++ ys) (sym (append-nil (own_skip s i)))
      ∙ ap (λ (a : Bool). xs ++ (own_skip s i ++ messages_of (cond a (Sent (Accepted s.id q i 0) ∷ []) [])))
      (sym fails)
