-- Each step of the loop that starts first phases is right, at an instance of the interval and past instances where no
-- phase starts.
use Rattle.std.proofs.Common.{◌≡◌, ℕ, ◌+◌, ◌<◌, ◌≤◌, Bool, true, false, cond, ◌&&◌, ◌++◌, List, Option, None, Some, eqb, refl, sym, ◌∙◌, ap, arith, ⊎_elim}
use Rattle.std.specs.Prelude.{is_none}
use Rattle.std.specs.Option.{option_map}
use Rattle.std.proofs.lemmas.Bool.{cases_lt}
use Rattle.mencius_base.specs.declared.message.Message.{Message}
use Rattle.coord_paxos.specs.SlotState.{SlotState}
use Rattle.mencius_server.specs.Machine.{with_next_phase}
use Rattle.mencius_server.specs.Slots.{is_covered_slot, is_in, is_unlearned, prepare_at, prepare_of, slot_after_phase, stored_after_phase, stored_at}
use Rattle.mencius_server.specs.declared.owned_interval.OwnedInterval.{OwnedInterval}
use Rattle.mencius_server.proofs.suspicions.FirstPhases.{HasRoomFrom, IsSentUpTo, room_more, sent_more}
use Rattle.mencius_server.proofs.stored.InstanceGaps.{room_gap, sent_gap}
use Rattle.mencius_server.proofs.stored.IntervalLoops.{IsWalked, phase_in, prepare_here, unlearned_in, walked_more, written_here, written_off}

-- If no first phase starts at an instance, its slot stays as it was.
pub phase_none : (a : OwnedInterval) (p j : ℕ) (ss : List (Option SlotState)) → is_covered_slot a ss j ≡ false
    → stored_after_phase a p j (stored_at ss j) ≡ stored_at ss j
phase_none a p j ss e = ap
    (λ bit. cond bit (option_map (slot_after_phase a.members p) (stored_at ss j)) (stored_at ss j)) e

-- A first phase teaches nothing, so an unlearned slot stays unlearned.
phase_unlearned : (a : OwnedInterval) (p j : ℕ) (o : Option SlotState)
    → is_unlearned (stored_after_phase a p j o) ≡ is_unlearned o
phase_unlearned a p j None = none (is_in a j && false)
  where
    none : (d : Bool) → is_unlearned (cond d (option_map (slot_after_phase a.members p) None) None) ≡ false
    none true = refl
    none false = refl
phase_unlearned a p j (Some s) = some (is_in a j && is_none s.learned)
  where
    phase : (d : Bool) → is_none (cond d (with_next_phase a.members p s) s).learned ≡ is_none s.learned
    phase true = refl
    phase false = refl

    some : (d : Bool) → is_unlearned (cond d (option_map (slot_after_phase a.members p) (Some s)) (Some s))
        ≡ is_none s.learned
    some true = phase (is_none s.learned)
    some false = refl

pub walked_unlearned : (a : OwnedInterval) (p i : ℕ) (old new : List (Option SlotState))
    → IsWalked (stored_after_phase a p) (stored_at old) (stored_at new) i
    → (j : ℕ) → is_unlearned (stored_at new j) ≡ is_unlearned (stored_at old j)
walked_unlearned a p i old new walked j = ⊎_elim
    (λ (before : j < i). ap is_unlearned (walked.done j before) ∙ phase_unlearned a p j (stored_at old j))
    (λ (from : i ≤ j). ap is_unlearned (walked.rest j from))
    (cases_lt j i)

module _ (a : OwnedInterval) (p i next : ℕ) (old now new : List (Option SlotState)) (here : is_in a i ≡ true)
    (ahead : i + 1 ≤ next) (between : (j : ℕ) → i + 1 ≤ j → j < next → is_covered_slot a old j ≡ false)
    (walked : IsWalked (stored_after_phase a p) (stored_at old) (stored_at now) i)
    (written : (j : ℕ) → stored_at new j
    ≡ cond (eqb j i) (option_map (slot_after_phase a.members p) (stored_at now j)) (stored_at now j)) where
  start : stored_at now i ≡ stored_at old i
  start = walked.rest i (omega arith)

  begins : is_covered_slot a old i ≡ is_unlearned (stored_at old i)
  begins = unlearned_in a old i here

  pub step_walked : IsWalked (stored_after_phase a p) (stored_at old) (stored_at new) next
  step_walked = walked_more _ _ (stored_at now) _ i _ ahead (λ j low high. phase_none a p j old (between j low high))
      (written_here (option_map (slot_after_phase a.members p)) (stored_at now) (stored_at new) i written
      ∙ sym (phase_in a p i _ here))
      (written_off (option_map (slot_after_phase a.members p)) (stored_at now) (stored_at new) i written) walked

  pub step_sent : (before after all : List Message) → all ≡ after ++ prepare_at a.members p i (stored_at now i)
      → IsSentUpTo (prepare_of a p old) (is_covered_slot a old) before after i
      → IsSentUpTo (prepare_of a p old) (is_covered_slot a old) before all next
  step_sent before after all pushed sent = sent_gap _ _ _ _ (i + 1) _ ahead between
      (sent_more _ _ _ after _ all i
      (ap (prepare_at a.members p i) start ∙ prepare_here a p i old _ _ refl begins) pushed sent)

  pub step_room : (room left : ℕ) → left + cond (is_unlearned (stored_at now i)) 1 0 ≡ room
      → HasRoomFrom (is_covered_slot a old) a.stop room i → HasRoomFrom (is_covered_slot a old) a.stop left next
  step_room room left taken has = room_gap _ _ _ (i + 1) _ ahead between
      (room_more _ _ room left i
      (ap (λ (d : Bool). left + cond d 1 0) (begins ∙ ap is_unlearned (sym start)) ∙ taken) has)
