-- A new server has the facts of every server, and its list of slots is filled up with new slots.
use Rattle.std.proofs.Common.{◌≡◌, ℕ, ◌<◌, ◌≤◌, List, None, length, replicate, get_or, set, refl, ap, sym, ◌∙◌, subst, arith, ⊎_elim, Option, Bool, true, false, Some, cond, eqb}
use Rattle.std.proofs.lemmas.List.{length-replicate, get_or-replicate, get_or-set_other, get_or_past, set_past}
use Rattle.std.proofs.lemmas.Grind.{get_or-set_at}
use Rattle.std.proofs.lemmas.Bool.{cases_eq, cases_lt}
use Rattle.mencius_base.specs.declared.message.Value.{Value}
use Rattle.mencius_base.specs.Members.{Membership, owner}
use Rattle.coord_paxos.specs.SlotState.{SlotState}
use Rattle.coord_paxos.specs.Fresh.{new_slot}
use Rattle.mencius_server.specs.Machine.{own_waiting_at, own_waiting_of, suggested_at, suggested_in}
use Rattle.mencius_model.specs.Server.{ticket_of}
use Rattle.mencius_server.specs.State.{ServerState, FitsAt, IsServer, new_server, slot, with_slot_and_front}
use Rattle.mencius_base.specs.Limits.{greatest_front, instance_count, most_servers}

-- A list of equal slots gives this slot at every place, also past its end.
pub past-replicate : (n i : ℕ) (s : SlotState) → get_or (replicate n s) i s ≡ s
past-replicate n i s =
    ⊎_elim
    (λ (within : i < n). get_or-replicate n i s s within)
    (λ (past : n ≤ i). let none : length (replicate n s) ≤ i = simp length-replicate (omega arith) in
    get_or_past (replicate n s) i s none)
    (cases_lt i n)

-- A new server has the facts of every server.
pub IsServer-new : (m : Membership) (p : ℕ) → p < m.count → m.count ≤ most_servers → IsServer (new_server m p)
IsServer-new m p member few = record {
  member = member;
  near = omega arith;
  same = λ i. rw (past-replicate instance_count i (new_slot m));
  own = λ i mine. rw (past-replicate instance_count i (new_slot m));
  unsaid = λ i mine ahead. rw (past-replicate instance_count i (new_slot m));
}

-- A new server has suggested nothing, and no ticket waits there.
none_said : (m : Membership) (p j : ℕ) (a : Bool)
    → cond a (ticket_of (get_or (replicate instance_count (new_slot m)) j (new_slot m)).proposal) None ≡ None
none_said m p j true = ap (λ (s : SlotState). ticket_of s.proposal) (past-replicate instance_count j (new_slot m))
none_said m p j false = refl

pub new_unsaid : (m : Membership) (p j t : ℕ) → suggested_at (new_server m p) j ≡ Some t → ⊥
new_unsaid m p j t e = let none : suggested_at (new_server m p) j ≡ None = none_said m p j (eqb (owner m j) p) in cc

pub new_waits : (m : Membership) (p j : ℕ) → own_waiting_at (new_server m p) j ≡ None
new_waits m p j = ap (own_waiting_of (new_server m p) j) (none_said m p j (eqb (owner m j) p))

-- A ticket is suggested only at an existing instance.
pub said_inside : (s : ServerState) (i t : ℕ) → length s.slots ≡ instance_count → suggested_at s i ≡ Some t
    → i < instance_count
said_inside s i t full said =
    ⊎_elim
    (λ (small : i < instance_count). small)
    (λ (high : instance_count ≤ i).
    let new : slot s i ≡ new_slot s.members = get_or_past s.slots i (new_slot s.members) (omega (arith, full)) in
    absurd (none (eqb (owner s.members i) s.id) (sym (ap (suggested_in s.members s.id i) new) ∙ said)))
    (cases_lt i instance_count)
  where
    none : (a : Bool) → cond a None None ≡ Some t → ⊥
    none true e = cc
    none false e = cc

-- A fact about the new slot and all old slots holds for each slot after a write.
pub set_keeps : (P : SlotState → Type 0) (given : List SlotState) (i j : ℕ) (s x : SlotState) → (j ≡ i → P s)
    → P (get_or given j x) → P (get_or (set given i s) j x)
set_keeps P given i j s x new old =
    ⊎_elim
    (λ (e : j ≡ i). ⊎_elim
    (λ (within : i < length given). rw (get_or-set_at given i j s x e within) (new e))
    (λ (past : length given ≤ i). rw (set_past given i s past) old)
    (cases_lt i (length given)))
    (λ (ne : j ≡ i → ⊥). rw (get_or-set_other given i j s x ne) old)
    (cases_eq j i)

-- The facts about one slot of a server with the front f.
pub record KeepsAt (s : ServerState) (f i : ℕ) (x : SlotState) : Type 0 where
  pub same : x.members ≡ s.members
  pub own : owner s.members i ≡ s.id → x.trying ≡ 0
  pub unsaid : owner s.members i ≡ s.id → f ≤ i → x.proposal ≡ None

pub KeepsAt-fits : (s : ServerState) (f i : ℕ) (x : SlotState) → FitsAt s f i x → KeepsAt s f i x
KeepsAt-fits s f i x fits = record { same = fits.same; own = fits.own; unsaid = fits.unsaid }

pub KeepsAt-new : (s : ServerState) (f i : ℕ) → KeepsAt s f i (new_slot s.members)
KeepsAt-new s f i = record { same = refl; own = λ mine. refl; unsaid = λ mine ahead. refl }

-- A slot below the front may have any proposal.
pub KeepsAt-suggested : (s : ServerState) (g i : ℕ) (o : Option Value) → i < g → IsServer s
    → KeepsAt s g i (record (slot s i) { proposal = o })
KeepsAt-suggested s g i o before kept =
    record { same = kept.same i; own = kept.own i; unsaid = λ mine past. absurd (omega arith) }

pub IsServer-with_slot : (s : ServerState) (i : ℕ) (x : SlotState) (f : ℕ) → IsServer s → KeepsAt s f i x
    → s.front ≤ f → f ≤ greatest_front
    → IsServer (with_slot_and_front s i x f)
IsServer-with_slot s i x f kept fits ahead near = record {
  member = kept.member;
  near = near;
  same = λ j. set_keeps
      (λ (y : SlotState). y.members ≡ s.members) s.slots i j x (new_slot s.members) (λ e. fits.same) (kept.same j);
  own = λ j mine. set_keeps (λ (y : SlotState). y.trying ≡ 0) s.slots i j x (new_slot s.members)
      (λ e. fits.own (ap (owner s.members) (sym e) ∙ mine)) (kept.own j mine);
  unsaid = λ j mine past. set_keeps (λ (y : SlotState). y.proposal ≡ None) s.slots i j x (new_slot s.members)
      (λ e. fits.unsaid (ap (owner s.members) (sym e) ∙ mine) (subst (λ (x : ℕ). f ≤ x) e past))
      (kept.unsaid j mine (omega arith));
}

-- Each slot of a server fits at its own instance.
pub FitsAt-slot : (s : ServerState) (i : ℕ) → IsServer s → FitsAt s s.front i (slot s i)
FitsAt-slot s i kept =
    record { stays = λ known. known; said = λ mine. refl; same = kept.same i; own = kept.own i; unsaid = kept.unsaid i }
