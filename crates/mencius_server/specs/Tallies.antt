-- Counts of each server's open instances, for suspicions of that server.
use Rattle.std.specs.Prelude.{◌≡◌, ℕ, ◌+◌, ◌-◌, ◌<◌, ◌≤◌, Bool, true, false, List, Option, if◌then◌else◌, ◌&&◌, ◌==◌, is_none, min, nat_lt, slice_index_or}
use Rattle.std.specs.List.{count_by, filter, list_any}
use Rattle.mencius_base.specs.declared.refusal.Refusal.{Refusal}
use Rattle.mencius_base.specs.Members.{Membership, numbers_below, instances, owner}
use Rattle.mencius_base.specs.Numbers.{Inst, ServerId}
use Rattle.mencius_base.specs.Outbox.{OutboxState}
use Rattle.coord_paxos.specs.SlotState.{SlotState}
use Rattle.mencius_model.specs.Next.{first_cause}
use Rattle.mencius_server.specs.Machine.{is_spent, revocation_causes}
use Rattle.mencius_server.specs.Instances.{AreSlotsAndSkips, InstancesState, instance_slot_in, is_covered_stored, is_in_skipped, is_spent_stored}
use Rattle.mencius_server.specs.LearnedIntervals.{AreLearnedIntervals}
use Rattle.mencius_server.specs.OwnedIntervals.{IsOwnedInterval}
use Rattle.mencius_server.specs.declared.owned_interval.OwnedInterval.{OwnedInterval}
use Rattle.mencius_server.specs.declared.skipped_intervals.Interval.{Interval}
use Rattle.mencius_server.specs.declared.tally.Tally.{Tally}
use Rattle.mencius_base.specs.Limits.{instance_count}

-- The tally of no instances.
abbrev pub no_tally : Tally
no_tally = record { stop = 0; open_count = 0; spent_count = 0 }

-- The tally of server q. It is the tally of no instances if the list has no entry for q.
abbrev pub tally_of : List Tally → ServerId → Tally
tally_of ts q = slice_index_or ts q no_tally

-- Whether q owns instance j and the slot of j is unlearned. The function f gives the slot of each instance.
abbrev pub is_open_of : Membership → (Inst → SlotState) → ServerId → Inst → Bool
is_open_of m f q j = owner m j == q && is_none (f j).learned

-- Whether q owns instance j, and the slot of j is unlearned and has no further round. The function f gives the slot of
-- each instance.
abbrev pub is_spent_of : Membership → (Inst → SlotState) → ServerId → Inst → Bool
is_spent_of m f q j = is_open_of m f q j && is_spent m (f j)

-- The tally `a` counts q's instances below its `stop`. One count is of the open instances, and the other is of the open
-- instances that have no further round. The function f gives the slot of each instance.
pub record IsTally (m : Membership) (f : Inst → SlotState) (q : ServerId) (a : Tally) : Type 0 where
  pub small : a.stop ≤ instance_count
  pub open_count : a.open_count ≡ count_by (is_open_of m f q) (numbers_below a.stop)
  pub spent_count : a.spent_count ≡ count_by (is_spent_of m f q) (numbers_below a.stop)

-- The tally `d` counts q's instances from `first` up to, but not including, its `stop`. One count is of the open
-- instances, and the other is of the open instances that have no further round.
pub record IsTallyFrom (m : Membership) (f : Inst → SlotState) (q : ServerId) (first : Inst) (d : Tally) : Type 0 where
  pub ahead : first ≤ d.stop
  pub small : d.stop ≤ instance_count
  pub open_count : d.open_count + count_by (is_open_of m f q) (numbers_below first)
      ≡ count_by (is_open_of m f q) (numbers_below d.stop)
  pub spent_count : d.spent_count + count_by (is_spent_of m f q) (numbers_below first)
      ≡ count_by (is_spent_of m f q) (numbers_below d.stop)

-- Each instance in a skipped interval is learned.
abbrev pub LearnedWhereSkipped : Membership → List (Option SlotState) → List (List Interval) → Type 0
LearnedWhereSkipped m slots rs = (j : Inst) → j < instance_count → is_in_skipped m rs j ≡ true
    → is_none (instance_slot_in m slots rs j).learned ≡ false

-- The sum of the tally x and the tally y, which begins where x ends.
abbrev pub tally_sum : Tally → Tally → Tally
tally_sum x y =
    record { stop = y.stop; open_count = x.open_count + y.open_count; spent_count = x.spent_count + y.spent_count }

-- The tally x without the counts of the tally y. It keeps the `stop` of x.
abbrev pub tally_difference : Tally → Tally → Tally
tally_difference x y = record x {
  open_count = x.open_count - y.open_count;
  spent_count = x.spent_count - y.spent_count;
}

-- The number that a slot adds to the count of open instances. It is 1 if the slot is unlearned, and 0 otherwise.
abbrev pub open_one : SlotState → ℕ
open_one s = if is_none s.learned then 1 else 0

-- The number that a slot adds to the count of spent instances. It is 1 if the slot is unlearned and has no further
-- round, and 0 otherwise.
abbrev pub spent_one : Membership → SlotState → ℕ
spent_one m s = if is_none s.learned && is_spent m s then 1 else 0

-- The tally x after the slot s is counted.
abbrev pub with_counted : Membership → Tally → SlotState → Tally
with_counted m x s = record x { open_count = x.open_count + open_one s; spent_count = x.spent_count + spent_one m s }

-- The tally x after the slot s is no longer counted.
abbrev pub without_counted : Membership → Tally → SlotState → Tally
without_counted m x s = record x { open_count = x.open_count - open_one s; spent_count = x.spent_count - spent_one m s }

-- The counts of the tally `d` are large enough that the slot s may be subtracted from them, and at most 4,096.
pub record HasCounted (m : Membership) (d : Tally) (s : SlotState) : Type 0 where
  pub open_count : open_one s ≤ d.open_count
  pub spent_count : spent_one m s ≤ d.spent_count
  pub few : d.open_count ≤ instance_count
  pub fewer : d.spent_count ≤ instance_count

-- The tally x after the slot s of instance i is replaced by the slot `new`. It changes only if i is below its `stop`.
abbrev pub tally_after : Membership → Inst → Tally → SlotState → SlotState → Tally
tally_after m i x s new = if nat_lt i x.stop then with_counted m (without_counted m x s) new else x

-- The tally `d` describes the instances of q that are below `reach` and unlearned. `open_count` is their number.
-- `spent_count` is above 0 exactly if one of them has no further round.
pub record IsSurvey (s : InstancesState) (q : ServerId) (reach : Inst) (d : Tally) : Type 0 where
  pub open_count : d.open_count ≡ count_by (is_covered_stored s q reach) instances
  pub spent_count : nat_lt 0 d.spent_count
      ≡ list_any (is_spent_stored s) (filter (is_covered_stored s q reach) instances)

-- The first cause for which a suspicion of another server with this tally is refused, if any, apart from a lack of
-- memory.
abbrev pub tally_cause : Tally → OutboxState → Option Refusal
tally_cause x o = first_cause (revocation_causes (x.open_count == 0) (nat_lt 0 x.spent_count) o x.open_count)

-- The interval `a` consists of q's instances from one of them up to, but not including, `reach`, or 4,096 if that is
-- lower. None of q's instances before it is unlearned and below `reach`.
pub record IsOpenInterval (s : InstancesState) (q : ServerId) (reach : Inst) (a : OwnedInterval) : Type 0 where
  pub interval : IsOwnedInterval a
  pub members : a.members ≡ s.members
  pub server : a.server ≡ q
  pub stop : a.stop ≡ min reach instance_count
  pub before : (j : Inst) → j < a.first → is_covered_stored s q reach j ≡ false

-- The fields of the instances fit together. The stored slots fit the skipped intervals and the lowest unlearned
-- instance `low`. There is a right tally for each server, and `ends` are intervals of learned instances.
pub record IsInstancesInside (m : Membership) (slots : List (Option SlotState)) (rs : List (List Interval)) (low : Inst)
    (tallies : List Tally) (ends : List Inst) : Type 0 where
  pub sound : AreSlotsAndSkips m slots rs low
  pub counted : (q : ServerId) → IsTally m (instance_slot_in m slots rs) q (tally_of tallies q)
  pub learned_intervals : AreLearnedIntervals m (λ j. is_none (instance_slot_in m slots rs j).learned) ends
