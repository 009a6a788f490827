-- A server that has heard nothing has its state at the empty trace, and satisfies the invariant of a server.
use Rattle.std.proofs.Common.{◌≡◌, ℕ, ◌<◌, ◌≤◌, List, [], map, refl, sym, ◌∙◌, ap, arith}
use Rattle.std.specs.Prelude.{replicate}
use Rattle.std.proofs.lemmas.List.{length-replicate}
use Rattle.mencius_base.specs.Members.{Membership, instances}
use Rattle.mencius_model.specs.Server.{front}
use Rattle.mencius_model.proofs.trace.NumberLists.{instances-below, map-below_constant}
use Rattle.coord_paxos.proofs.SlotLaws.{slot_at-empty}
use Rattle.coord_paxos.specs.Fresh.{new_slot}
use Rattle.coord_paxos.specs.Reached.{slot_at}
use Rattle.coord_paxos.specs.SlotState.{SlotState}
use Rattle.mencius_server.specs.Inside.{IsServerInside}
use Rattle.mencius_server.specs.Instances.{InstancesState, new_instances}
use Rattle.mencius_server.specs.Notes.{nothing_noted}
use Rattle.mencius_server.specs.State.{new_server}
use Rattle.mencius_server.specs.Reached.{server_at}
use Rattle.mencius_server.proofs.invariant.ServerInvariant.{IsServer-new, new_unsaid, new_waits}
use Rattle.mencius_base.specs.Limits.{instance_count, most_servers}

new_slots : (m : Membership) → replicate instance_count (new_slot m) ≡ map (λ (j : ℕ). new_slot m) instances
new_slots m = map-below_constant (λ (j : ℕ). new_slot m) instance_count (new_slot m) (λ i h. refl)
    ∙ ap (map (λ (j : ℕ). new_slot m)) (sym instances-below)

-- If a server knows nothing about any instance, callers see a new server.
pub new_shown : (m : Membership) (p : ℕ) (s : InstancesState) → s ≡ new_instances m
    → record { members = m; id = p; front = p; slots = s.slots } ≡ new_server m p
new_shown m p s made =
    ap (λ (xs : List SlotState). record { members = m; id = p; front = p; slots = xs })
    (ap (λ (x : InstancesState). x.slots) made ∙ sym (new_slots m))

pub IsServerInside-new : (m : Membership) (p : ℕ) → p < m.count → m.count ≤ most_servers
    → IsServerInside (new_server m p) m nothing_noted
IsServerInside-new m p member few = record {
  bound = omega arith;
  free = λ j low. absurd (omega arith);
  full = length-replicate instance_count (new_slot m);
  members = refl;
  server = IsServer-new m p member few;
  early = omega arith;
  lost = λ j low. new_waits m p j;
  tickets = λ j t small e. absurd (new_unsaid m p j t e);
  short = omega arith;
  suggested_again = λ j t small e. absurd (new_unsaid m p j t e);
}

pub server_at-empty : (m : Membership) (p : ℕ) → new_server m p ≡ server_at m [] p
server_at-empty m p =
    let slots : replicate instance_count (new_slot m) ≡ map (slot_at m [] p) instances =
    map-below_constant (slot_at m [] p) instance_count (new_slot m) (λ i h. slot_at-empty m p i)
    ∙ ap (map (slot_at m [] p)) (sym instances-below) in
    let ahead : front m [] p ≡ p = omega arith in
    rw (ahead, slots)
