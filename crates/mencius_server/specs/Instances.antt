-- A server's knowledge about the instances as it is stored, in slots and in intervals of skipped instances.
use Rattle.std.specs.Prelude.{◌≡◌, ℕ, ◌<◌, ◌≤◌, Bool, true, false, List, [], Option, Some, if◌then◌else◌, ◌&&◌, ◌||◌, is_none, is_some, length, map, not, slice_index_or, slice_set, unwrap_or}
use Rattle.std.specs.List.{count_by, filter, find}
use Rattle.mencius_base.specs.declared.message.Message.{Message}
use Rattle.mencius_base.specs.declared.message.Value.TheVariants.{Noop, Ticket}
use Rattle.mencius_base.specs.Members.{Membership, numbers_below, owner, instances}
use Rattle.coord_paxos.specs.SlotState.{SlotState}
use Rattle.coord_paxos.specs.Slot.{after_learn}
use Rattle.coord_paxos.specs.Fresh.{new_slot}
use Rattle.mencius_model.specs.Rules.{is_open_from, reach_from}
use Rattle.mencius_server.specs.Machine.{is_covered_in, is_newly_skipped_slot, is_spent, next_prepare, slot_after_skip, slot_after_suspect, stop_of, with_next_phase}
use Rattle.mencius_server.specs.Intervals.{AreSkippedIntervals, is_in_any}
use Rattle.mencius_server.specs.Slots.{is_in, is_learned, stored_at}
use Rattle.mencius_server.specs.declared.skipped_intervals.Interval.{Interval}
use Rattle.mencius_server.specs.declared.owned_interval.OwnedInterval.{OwnedInterval}
use Rattle.mencius_base.specs.Limits.{instance_count}
use Rattle.mencius_base.specs.Numbers.{Inst, ServerId, TicketNo}

-- The knowledge about all instances. For each instance, from 0, it has a slot, and whether this slot is stored.
pub record InstancesState : Type 0 where
  pub members : Membership
  pub slots : List SlotState
  pub is_stored : List Bool

-- The slot with the knowledge about instance i. It is a new slot if the list has no entry for i.
abbrev pub instance_slot : InstancesState → Inst → SlotState
instance_slot s i = slice_index_or s.slots i (new_slot s.members)

-- Whether a slot is stored at instance i.
abbrev pub has_slot : InstancesState → Inst → Bool
has_slot s i = slice_index_or s.is_stored i false

-- The instances after the slot x is stored at instance i.
abbrev pub with_instance_slot : InstancesState → Inst → SlotState → InstancesState
with_instance_slot s i x = record s { slots = slice_set s.slots i x; is_stored = slice_set s.is_stored i true }

-- The instances after a slot is stored at instance i, with the same knowledge as before.
abbrev pub with_stored : InstancesState → Inst → InstancesState
with_stored s i = record s { is_stored = slice_set s.is_stored i true }

-- The instances if the server knows nothing about any of them, and no slot is stored.
abbrev pub new_instances : Membership → InstancesState
new_instances m = record {
  members = m;
  slots = map (λ j. new_slot m) instances;
  is_stored = map (λ j. false) instances;
}

-- ---- slots and intervals

-- The knowledge about an instance that has no stored slot. If the instance was skipped, no-op is learned there.
-- Otherwise, nothing is known about it.
abbrev pub slot_by_skip : Membership → Bool → SlotState
slot_by_skip m is_skipped = if is_skipped then after_learn (new_slot m) Noop else new_slot m

-- Whether the owner of instance j was heard to skip it. The list `rs` has the skipped intervals of each server.
abbrev pub is_in_skipped : Membership → List (List Interval) → Inst → Bool
is_in_skipped m rs j = is_in_any (slice_index_or rs (owner m j) []) j

-- The knowledge about instance j. It is the slot that is stored there, or the knowledge from the skipped intervals if
-- no slot is stored.
abbrev pub instance_slot_in : Membership → List (Option SlotState) → List (List Interval) → Inst → SlotState
instance_slot_in m slots rs j = unwrap_or (stored_at slots j) (slot_by_skip m (is_in_skipped m rs j))

-- The knowledge about all instances that the stored slots and the skipped intervals contain.
abbrev pub instances_in : Membership → List (Option SlotState) → List (List Interval) → InstancesState
instances_in m slots rs = record {
  members = m;
  slots = map (instance_slot_in m slots rs) instances;
  is_stored = map (λ j. is_some (stored_at slots j)) instances;
}

-- `rs` has one list of skipped intervals for each server.
pub record IsSorted (m : Membership) (rs : List (List Interval)) : Type 0 where
  pub count : length rs ≡ m.count
  pub intervals : (q : ServerId) → q < m.count → AreSkippedIntervals m q (slice_index_or rs q [])

-- The stored slots fit the skipped intervals. Each slot that is stored at a skipped instance has learned a value. `low`
-- is the lowest unlearned instance, or 4,096 if every instance is learned.
pub record AreSlotsAndSkips (m : Membership) (slots : List (Option SlotState)) (rs : List (List Interval))
    (low : Inst) : Type 0 where
  pub sorted : IsSorted m rs
  pub learned_where_skipped : (j : Inst) (s : SlotState) → j < instance_count → is_in_skipped m rs j ≡ true
      → stored_at slots j ≡ Some s
      → is_none s.learned ≡ false
  pub small : low ≤ instance_count
  pub learned : (j : Inst) → j < low → is_none (instance_slot_in m slots rs j).learned ≡ false
  pub least : low < instance_count → is_none (instance_slot_in m slots rs low).learned ≡ true

-- ---- a suggestion

-- The instances after the server suggests the ticket t at instance i.
abbrev pub instances_after_suggest : InstancesState → Inst → TicketNo → InstancesState
instances_after_suggest s i t = with_instance_slot s i (record (instance_slot s i) { proposal = Some (Ticket t) })

-- ---- a Skip

-- The instances after no-op is learned at q's instances from `first` up to, but not including, `stop`. No slot is
-- added.
abbrev pub instances_after_skip : InstancesState → ServerId → Inst → Inst → InstancesState
instances_after_skip s q first stop =
    record s { slots = map (λ j. slot_after_skip s.members q first stop j (instance_slot s j)) instances }

-- Whether a Skip of the interval `a` is news at instance j. Then j belongs to `a`, lies in no skipped interval, and has
-- no stored slot that has learned a value.
abbrev pub is_newly_skipped_in : OwnedInterval → List Interval → List (Option SlotState) → Inst → Bool
is_newly_skipped_in a rs slots j = is_in a j && (not (is_in_any rs j) && not (is_learned (stored_at slots j)))

-- The number of unlearned instances that q's Skip from `first` to `stop` gives up.
abbrev pub newly_skipped_stored : InstancesState → ServerId → Inst → Inst → ℕ
newly_skipped_stored s q first stop =
    count_by (λ j. is_newly_skipped_slot s.members q first stop j (instance_slot s j)) instances

-- ---- a suspicion

-- Whether q owns instance j and j is unlearned.
abbrev pub is_open_stored : InstancesState → ServerId → Inst → Bool
is_open_stored s q j = is_open_from s.members q j (instance_slot s j).learned

-- The place below which a suspicion of q covers open instances, for a server with this front. It is 0 if the suspicion
-- covers none.
abbrev pub reach_stored : InstancesState → ServerId → Inst → Inst
reach_stored s q front = stop_of (reach_from s.members front (find (is_open_stored s q) instances))

-- Whether q owns instance j, and j is below `reach` and unlearned.
abbrev pub is_covered_stored : InstancesState → ServerId → Inst → Inst → Bool
is_covered_stored s q reach j = is_covered_in s.members q reach j (instance_slot s j)

-- Whether instance j belongs to the interval `a` and is unlearned.
abbrev pub is_open_in : InstancesState → OwnedInterval → Inst → Bool
is_open_in s a j = is_in a j && is_none (instance_slot s j).learned

-- The instances after slots are stored at all unlearned instances of the interval `a`.
abbrev pub with_open_stored : InstancesState → OwnedInterval → InstancesState
with_open_stored s a = record s { is_stored = map (λ j. has_slot s j || is_open_in s a j) instances }

-- The instances after p starts first phases at all unlearned instances of the interval `a`.
abbrev pub with_first_phases : InstancesState → ServerId → OwnedInterval → InstancesState
with_first_phases s p a = record s {
  slots = map (λ j. if is_open_in s a j then with_next_phase s.members p (instance_slot s j) else instance_slot s j)
      instances;
}

-- The Prepare of p's next first phase at instance j.
abbrev pub prepare_stored : InstancesState → ServerId → Inst → Message
prepare_stored s p j = next_prepare s.members p j (instance_slot s j)

-- The Prepares of p's next first phases at the unlearned instances of the interval `a`, in rising order of instances.
abbrev pub prepares_in : InstancesState → ServerId → OwnedInterval → List Message
prepares_in s p a = map (prepare_stored s p) (filter (is_open_in s a) (numbers_below a.stop))

-- Whether instance j has no further round.
abbrev pub is_spent_stored : InstancesState → Inst → Bool
is_spent_stored s j = is_spent s.members (instance_slot s j)

-- The Prepares of p's next first phases at q's unlearned instances below `reach`, in rising order of instances.
abbrev pub prepares_stored : InstancesState → ServerId → ServerId → Inst → List Message
prepares_stored s p q reach = map (prepare_stored s p) (filter (is_covered_stored s q reach) instances)

-- The instances after p starts first phases at q's unlearned instances below `reach`. Slots are added at these
-- instances only.
abbrev pub instances_after_suspect : InstancesState → ServerId → ServerId → Inst → InstancesState
instances_after_suspect s p q reach = record s {
  slots = map (λ j. slot_after_suspect s.members p q reach j (instance_slot s j)) instances;
  is_stored = map (λ j. has_slot s j || is_covered_stored s q reach j) instances;
}
