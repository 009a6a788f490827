-- A Skip keeps the facts that hold for every server.
use Rattle.std.proofs.Common.{ℕ, ◌<◌, ◌≤◌, List, length, map, sym, subst, ⊎_elim}
use Rattle.std.proofs.lemmas.List.{get_or_past}
use Rattle.std.proofs.lemmas.Bool.{cases_lt}
use Rattle.mencius_base.specs.declared.message.Value.TheVariants.{Noop}
use Rattle.mencius_base.specs.Members.{instances}
use Rattle.mencius_model.proofs.trace.NumberLists.{get_or-map-instances, length-map-instances}
use Rattle.coord_paxos.specs.SlotState.{SlotState}
use Rattle.coord_paxos.specs.Fresh.{new_slot}
use Rattle.mencius_server.specs.State.{FitsAt, IsServer, ServerState, slot}
use Rattle.mencius_server.specs.Machine.{after_skip, is_skipped, slot_after_skip}
use Rattle.mencius_server.proofs.invariant.ServerInvariant.{FitsAt-slot, KeepsAt, KeepsAt-fits, KeepsAt-new}
use Rattle.mencius_server.proofs.invariant.SlotFits.{FitsAt-same, SameAttempt-cond, SameAttempt-learn, SameAttempt-self}
use Rattle.mencius_base.specs.Limits.{instance_count}

abbrev slots_after_skip : ServerState → ℕ → ℕ → ℕ → List SlotState
slots_after_skip s q first stop = map (λ (j : ℕ). slot_after_skip s.members q first stop j (slot s j)) instances

-- A server that hears a Skip still has the facts of every server.
pub IsServer-skip : (s : ServerState) (q first stop : ℕ) → IsServer s → IsServer (after_skip s q first stop)
IsServer-skip s q first stop kept = record {
  member = kept.member;
  near = kept.near;
  same = λ i. (fits i).same;
  own = λ i. (fits i).own;
  unsaid = λ i. (fits i).unsaid;
}
  where
    given : (i : ℕ) → FitsAt s s.front i (slot_after_skip s.members q first stop i (slot s i))
    given i = FitsAt-same s s.front i (slot s i) _
        (SameAttempt-cond (is_skipped s.members q first stop i) (slot s i) _ (slot s i)
        (SameAttempt-learn (slot s i) Noop) (SameAttempt-self (slot s i)))
        (FitsAt-slot s i kept)

    fits : (i : ℕ) → KeepsAt s s.front i (slot (after_skip s q first stop) i)
    fits i =
        ⊎_elim
        (λ (small : i < instance_count). subst (KeepsAt s s.front i)
        (sym (get_or-map-instances _ i (new_slot s.members) small)) (KeepsAt-fits s s.front i _ (given i)))
        (λ (past : instance_count ≤ i).
        let none : length (slots_after_skip s q first stop) ≤ i =
        rw (length-map-instances (λ (j : ℕ). slot_after_skip s.members q first stop j (slot s j))) past in
        subst (KeepsAt s s.front i) (sym (get_or_past (slots_after_skip s q first stop) i (new_slot s.members) none))
        (KeepsAt-new s s.front i))
        (cases_lt i instance_count)
