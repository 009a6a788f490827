-- The code finds the reach of a suspicion from the lowest unlearned instance of the suspected server.
use Rattle.std.proofs.Common.{◌≡◌, ℕ, ◌+◌, ◌*◌, ◌<◌, ◌≤◌, Bool, true, false, List, Option, None, Some, min, refl, sym, ◌∙◌, ap, arith, ⊎_elim}
use Rattle.std.specs.Prelude.{is_none}
use Rattle.std.specs.List.{find}
use Rattle.std.proofs.lemmas.Bool.{and_left, and_right, cases_eq, cases_lt, eq-eqb, le-ltb, lt-ltb, ne_eqb}
use Rattle.std.proofs.Math.Nat.{mod-eq_of_lt, mod-le}
use Rattle.mencius_base.specs.Limits.{instance_count}
use Rattle.mencius_base.specs.Members.{Membership, instances, owner}
use Rattle.mencius_model.specs.Rules.{is_open_from, reach_from}
use Rattle.mencius_model.proofs.trace.NumberLists.{find-instances, find-instances_found}
use Rattle.coord_paxos.specs.SlotState.{SlotState}
use Rattle.mencius_server.specs.Machine.{stop_of}
use Rattle.mencius_server.specs.Instances.{InstancesState, instance_slot, instance_slot_in, instances_in, is_open_stored, reach_stored}
use Rattle.mencius_server.specs.declared.skipped_intervals.Interval.{Interval}
use Rattle.mencius_server.proofs.stored.StoredInstances.{seen}

-- The instance with the number of a server belongs to that server.
pub first_own : (m : Membership) (q : ℕ) → q < m.count → owner m q ≡ q
first_own m q member = mod-eq_of_lt member

pub first_least : (m : Membership) (q j : ℕ) → owner m j ≡ q → q ≤ j
first_least m q j own = omega (arith, own, mod-le j m.count)

pub clash : (a : Bool) → a ≡ true → a ≡ false → ⊥
clash true e fails = cc
clash false e fails = cc

module _ (m : Membership) (slots : List (Option SlotState)) (rs : List (List Interval)) (now : InstancesState)
    (shown : instances_in m slots rs ≡ now) (q front near first : ℕ)
    (near_is : near ≡ min (front + m.beta) instance_count) (own : owner m first ≡ q)
    (below : (j : ℕ) → j < first → owner m j ≡ q → j < instance_count
    → is_none (instance_slot_in m slots rs j).learned ≡ false) where
  members : now.members ≡ m
  members = sym (ap (λ (x : InstancesState). x.members) shown)

  open_is : (j : ℕ) → j < instance_count
      → is_open_stored now q j ≡ is_open_from m q j (instance_slot_in m slots rs j).learned
  open_is j small =
      ap (λ n. is_open_from n q j (instance_slot now j).learned) members
      ∙ ap (λ (s : SlotState). is_open_from m q j s.learned) (seen m slots rs now shown j small)

  -- No instance of the suspected server below its first open one is open.
  closed : (j : ℕ) → j < first → j < instance_count → is_open_stored now q j ≡ false
  closed j less small =
      open_is j small
      ∙ ⊎_elim
      (λ (mine : owner m j ≡ q). and_right _ _ (below j less mine small))
      (λ (other : owner m j ≡ q → ⊥). and_left _ _ (ne_eqb (owner m j) q other))
      (cases_eq (owner m j) q)

  pub reach_there : first < near → is_none (instance_slot_in m slots rs first).learned ≡ true
      → front + 2 * m.beta + 1 ≡ reach_stored now q front
  reach_there less unlearned =
      let small : first < instance_count = omega (arith, near_is) in
      let opens : is_open_stored now q first ≡ true =
      open_is first small ∙ rw (eq-eqb (owner m first) q own) unlearned in
      sym (ap (λ o. stop_of (reach_from now.members front o))
      (find-instances (is_open_stored now q) first small (λ j l. closed j l (omega arith)) opens)
      ∙ ap (λ n. stop_of (reach_from n front (Some first))) members
      ∙ rw (lt-ltb first (front + m.beta) (omega (arith, near_is))) refl)

  pub reach_nowhere : near ≤ first → 0 ≡ reach_stored now q front
  reach_nowhere past = sym (go (find (is_open_stored now q) instances) refl)
    where
      go : (o : Option ℕ) → find (is_open_stored now q) instances ≡ o → stop_of (reach_from now.members front o) ≡ 0
      go None e = refl
      go (Some i) e =
          let found = find-instances_found (is_open_stored now q) i e in
          ⊎_elim
          (λ (less : i < first). absurd (clash (is_open_stored now q i) found.passes (closed i less found.small)))
          (λ (from : first ≤ i).
          ap (λ n. stop_of (reach_from n front (Some i))) members
          ∙ rw (le-ltb i (front + m.beta) (omega (arith, near_is, past, from, found.small))) refl)
          (cases_lt i first)
