-- The requirements and promises of calls on the parts of a server. Each definition combines several of them in one
-- word.
use Rattle.std.specs.Prelude.{◌≡◌, ◌<◌, ◌≤◌, Bool, true, false, List, Option, Some, is_none, length, min}
use Rattle.std.specs.List.{count_by}
use Rattle.mencius_base.specs.Limits.{greatest_round, instance_count}
use Rattle.mencius_base.specs.Members.{Membership, numbers_below, first_owned, instances, owner}
use Rattle.mencius_base.specs.Numbers.{Inst, ServerId, TicketNo}
use Rattle.mencius_base.specs.Outbox.{OutboxState}
use Rattle.coord_paxos.specs.SlotState.{SlotState}
use Rattle.mencius_server.specs.Instances.{InstancesState, has_slot, instance_slot, is_covered_stored, is_open_in}
use Rattle.mencius_server.specs.Intervals.{AreSkippedIntervals, is_in_any}
use Rattle.mencius_server.specs.LearnedIntervals.{AreLearnedIntervals}
use Rattle.mencius_server.specs.Machine.{next_round_of, suggested_in}
use Rattle.mencius_server.specs.Notes.{NotesState}
use Rattle.mencius_server.specs.OwnedIntervals.{IsOwnedInterval}
use Rattle.mencius_server.specs.Slots.{is_covered_slot, is_unlearned, stored_at}
use Rattle.mencius_server.specs.declared.owned_interval.OwnedInterval.{OwnedInterval}
use Rattle.mencius_server.specs.declared.skipped_intervals.Interval.{Interval}

-- ---- slots

-- The server may learn no-op at the interval `a`, which is not empty. The interval ends at an instance of its server,
-- at most at the first one past 4,095. `rs` are skipped intervals of that server, and each slot that is stored in them
-- has learned a value.
pub record CanSkip (a : OwnedInterval) (rs : List Interval) (ss : List (Option SlotState)) : Type 0 where
  pub interval : IsOwnedInterval a
  pub some : a.first < a.stop
  pub skipped : AreSkippedIntervals a.members a.server rs
  pub end : owner a.members a.stop ≡ a.server
  pub low : a.stop ≤ first_owned a.members a.server instance_count
  pub learned_where_skipped : (j : Inst) (s : SlotState) → j < instance_count → owner a.members j ≡ a.server
      → is_in_any rs j ≡ true → stored_at ss j ≡ Some s → is_none s.learned ≡ false

-- ---- first phases

-- Member p may start a first phase at the slot `s`. If the slot is unlearned, a further round exists and the outbox has
-- room for a Prepare.
pub record CanBegin (m : Membership) (p : ServerId) (s : SlotState) (o : OutboxState) : Type 0 where
  pub member : p < m.count
  pub rounds : is_none s.learned ≡ true → next_round_of m s ≤ greatest_round
  pub room : is_none s.learned ≡ true → 0 < o.room

-- Member p may start a first phase at the slot of instance i. If an unlearned slot is stored there, a further round
-- exists and the outbox has room for a Prepare.
pub record CanBeginAt (m : Membership) (p : ServerId) (i : Inst) (ss : List (Option SlotState)) (o : OutboxState)
    : Type 0 where
  pub small : i < instance_count
  pub member : p < m.count
  pub rounds : (s : SlotState) → stored_at ss i ≡ Some s → is_none s.learned ≡ true
      → next_round_of m s ≤ greatest_round
  pub room : is_unlearned (stored_at ss i) ≡ true → 0 < o.room

-- Member p may start first phases at all unlearned slots that are stored in the interval `a`. Each of them has a
-- further round, and the outbox has room for all Prepares. The learned intervals `ends` contain none of these slots.
pub record CanBeginAll (a : OwnedInterval) (p : ServerId) (ss : List (Option SlotState)) (ends : List Inst)
    (o : OutboxState) : Type 0 where
  pub interval : IsOwnedInterval a
  pub small : a.stop ≤ instance_count
  pub id : p < a.members.count
  pub rounds : (j : Inst) (s : SlotState) → is_covered_slot a ss j ≡ true → stored_at ss j ≡ Some s
      → next_round_of a.members s ≤ greatest_round
  pub room : count_by (is_covered_slot a ss) (numbers_below a.stop) ≤ o.room
  pub learned_intervals : AreLearnedIntervals a.members (is_covered_slot a ss) ends

-- Member p may start first phases at all unlearned instances of the interval `a`. Each of them has a stored slot and a
-- further round, and the outbox has room for all Prepares.
pub record CanBeginOpen (s : InstancesState) (a : OwnedInterval) (p : ServerId) (o : OutboxState) : Type 0 where
  pub interval : IsOwnedInterval a
  pub members : a.members ≡ s.members
  pub small : a.stop ≤ instance_count
  pub id : p < s.members.count
  pub stored : (j : Inst) → j < instance_count → is_open_in s a j ≡ true → has_slot s j ≡ true
  pub rounds : (j : Inst) → j < instance_count → is_open_in s a j ≡ true
      → next_round_of s.members (instance_slot s j) ≤ greatest_round
  pub room : count_by (is_open_in s a) (numbers_below a.stop) ≤ o.room

-- Member p may start first phases at the unlearned instances of member q below `reach`. Each of them has a further
-- round, and the outbox has room for all Prepares.
pub record CanBeginCovered (s : InstancesState) (p q : ServerId) (reach : Inst) (o : OutboxState) : Type 0 where
  pub id : p < s.members.count
  pub suspected : q < s.members.count
  pub rounds : (j : Inst) → j < instance_count → is_covered_stored s q reach j ≡ true
      → next_round_of s.members (instance_slot s j) ≤ greatest_round
  pub room : count_by (is_covered_stored s q reach) instances ≤ o.room

-- ---- counts and searches

-- Instance i has the same owner as the place `from`. None of this owner's instances from `from` up to, but not
-- including, i is open. If i is below `stop`, i is open.
pub record IsFirstOpen (m : Membership) (opens : Inst → Bool) (from stop i : Inst) : Type 0 where
  pub owned : owner m i ≡ owner m from
  pub learned : (j : Inst) → from ≤ j → j < i → owner m j ≡ owner m from → j < instance_count → opens j ≡ false
  pub least : i < stop → opens i ≡ true

-- ---- tickets

-- `m` is the membership of the instances, and p is one of its members.
pub record HasMember (s : InstancesState) (m : Membership) (p : ServerId) : Type 0 where
  pub member : p < m.count
  pub same : s.members ≡ m

-- Member p may note that it suggests the ticket t at or above its front. Each ticket that p suggested below the front
-- is less than `next_ticket`. If t is less than `next_ticket` too, `suggested_again` has an entry for each instance
-- below the front. At or above the front, `suggested_again` has no entry.
pub record CanPassOn (n : NotesState) (s : InstancesState) (m : Membership) (p : ServerId) (front : Inst) (t : TicketNo)
    : Type 0 where
  pub own : HasMember s m p
  pub room : t < n.next_ticket → min front instance_count ≤ length n.suggested_again
  pub short : length n.suggested_again ≤ front
  pub tickets : (j : Inst) (u : TicketNo) → j < front → j < instance_count
      → suggested_in m p j (instance_slot s j) ≡ Some u → u < n.next_ticket
