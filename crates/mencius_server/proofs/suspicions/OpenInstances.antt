-- The interval of a suspicion contains all instances that the suspicion covers.
use Rattle.std.proofs.Common.{◌≡◌, ℕ, ◌<◌, ◌≤◌, Bool, true, false, ◌&&◌, not, List, Option, None, Some, refl, sym, ◌∙◌, ap, subst, arith, ⊎_elim}
use Rattle.std.specs.Prelude.{is_none}
use Rattle.std.proofs.lemmas.Bool.{and_left, cases_eq, cases_lt, eq-eqb, lt-ltb, ne_eqb}
use Rattle.mencius_base.specs.Members.{Membership, owner}
use Rattle.coord_paxos.specs.SlotState.{SlotState}
use Rattle.mencius_server.specs.Machine.{is_covered_in}
use Rattle.mencius_server.specs.Slots.{stored_at}
use Rattle.mencius_server.specs.Instances.{AreSlotsAndSkips, InstancesState, instance_slot, instances_in, is_covered_stored, is_in_skipped, is_open_in, slot_by_skip}
use Rattle.mencius_server.specs.OwnedIntervals.{IsOwnedInterval}
use Rattle.mencius_server.specs.Tallies.{IsOpenInterval}
use Rattle.mencius_server.specs.declared.skipped_intervals.Interval.{Interval}
use Rattle.mencius_server.specs.declared.owned_interval.OwnedInterval.{OwnedInterval}
use Rattle.mencius_server.proofs.stored.InstanceGaps.{skipped_here, unowned, unrevoked_other, unrevoked_past, unskipped_before, unskipped_other, unskipped_past}
use Rattle.mencius_server.proofs.stored.StoredInstances.{seen_none, seen_some}
use Rattle.mencius_base.specs.Limits.{instance_count}

-- A suspicion covers no instance below the first instance of the suspected server.
pub open_before : (m : Membership) (slots : List (Option SlotState)) (rs : List (List Interval)) (now : InstancesState)
    → instances_in m slots rs ≡ now → (q reach first : ℕ) → ((i : ℕ) → 0 ≤ i → owner m i ≡ q → first ≤ i)
    → (j : ℕ) → j < first → is_covered_stored now q reach j ≡ false
open_before m slots rs now shown q reach first least j high =
    let members : m ≡ now.members = ap (λ (x : InstancesState). x.members) shown in
    subst (λ n. is_covered_in n q reach j (instance_slot now j) ≡ false) members
    (unrevoked_other m q reach j (instance_slot now j) (unowned m q 0 first least j (omega arith) high))

-- An instance without a stored slot is open unless it lies in a skipped interval.
pub open_by_skip : (m : Membership) (a : Bool) → is_none (slot_by_skip m a).learned ≡ not a
open_by_skip m true = refl
open_by_skip m false = refl

-- A skipped instance is learned.
pub skipped_learned : (m : Membership) (slots : List (Option SlotState))
    (rs : List (List Interval)) (low : ℕ) (now : InstancesState) → instances_in m slots rs ≡ now
    → AreSlotsAndSkips m slots rs low
    → (j : ℕ) → j < instance_count → is_in_skipped m rs j ≡ true → is_none (instance_slot now j).learned ≡ false
skipped_learned m slots rs low now shown sound j small passed = go (stored_at slots j) refl
  where
    go : (o : Option SlotState) → stored_at slots j ≡ o → is_none (instance_slot now j).learned ≡ false
    go (Some x) e =
        ap (λ (s : SlotState). is_none s.learned) (seen_some m slots rs now shown j x small e)
        ∙ sound.learned_where_skipped j x small passed e
    go None e = ap (λ (s : SlotState). is_none s.learned) (seen_none m slots rs now shown j small e)
        ∙ ap (λ bit. is_none (slot_by_skip m bit).learned) passed

-- ---- the interval of a suspicion

module _ (now : InstancesState) (a : OwnedInterval) (interval : IsOwnedInterval a) (members : a.members ≡ now.members)
  where
    closed_before : (j : ℕ) → j < a.first → is_open_in now a j ≡ false
    closed_before j low = and_left _ _ (unskipped_before a.members a.server a.first a.stop j low)

    closed_past : (j : ℕ) → a.stop ≤ j → is_open_in now a j ≡ false
    closed_past j high = and_left _ _ (unskipped_past a.members a.server a.first a.stop j high)

    closed_other : (j : ℕ) → (owner now.members j ≡ a.server → ⊥) → is_open_in now a j ≡ false
    closed_other j other =
        and_left _ _
        (unskipped_other a.members a.server a.first a.stop j
        (ne_eqb (owner a.members j) a.server (λ e. other (sym (ap (λ n. owner n j) members) ∙ e))))

    open_here : (j : ℕ) → owner now.members j ≡ a.server → a.first ≤ j → j < a.stop
        → is_open_in now a j ≡ is_none (instance_slot now j).learned
    open_here j own low high =
        ap (λ bit. bit && is_none (instance_slot now j).learned)
        (skipped_here a.members a.server a.first a.stop j (ap (λ n. owner n j) members ∙ own) low high)

-- The unlearned instances of the interval are the instances that the suspicion covers.
pub open_same : (now : InstancesState) (q reach : ℕ) (a : OwnedInterval) → IsOpenInterval now q reach a → (j : ℕ)
    → j < instance_count → is_open_in now a j ≡ is_covered_stored now q reach j
open_same now q reach a h j small =
    ⊎_elim
    (λ (own : owner now.members j ≡ q).
    let theirs : owner now.members j ≡ a.server = own ∙ sym h.server in
    ⊎_elim
    (λ (before : j < a.first). closed_before now a h.interval h.members j before ∙ sym (h.before j before))
    (λ (from : a.first ≤ j). ⊎_elim
    (λ (within : j < a.stop).
    let reached : j < reach = omega (arith, h.stop) in
    open_here now a h.interval h.members j theirs from within
    ∙ sym (rw (eq-eqb (owner now.members j) q own, lt-ltb j reach reached) refl))
    (λ (past : a.stop ≤ j).
    let ahead : reach ≤ j = omega (arith, h.stop) in
    closed_past now a h.interval h.members j past
    ∙ sym (unrevoked_past now.members q reach j (instance_slot now j) ahead))
    (cases_lt j a.stop))
    (cases_lt j a.first))
    (λ (other : owner now.members j ≡ q → ⊥).
    closed_other now a h.interval h.members j (λ e. other (e ∙ h.server))
    ∙ sym (unrevoked_other now.members q reach j (instance_slot now j) (ne_eqb (owner now.members j) q other)))
    (cases_eq (owner now.members j) q)
