-- The effects of the calls on stored slots. Here, `a` is an interval, `rs` are skipped intervals, and `ss` are the
-- stored slots by instance.
use Rattle.std.specs.Prelude.{◌≡◌, Bool, true, false, List, [], ◌∷◌, Option, None, Some, if◌then◌else◌, ◌&&◌, is_none, not, slice_index_or, unwrap_or}
use Rattle.std.specs.Option.{option_map}
use Rattle.mencius_base.specs.declared.message.Message.{Message}
use Rattle.mencius_base.specs.Members.{Membership}
use Rattle.mencius_base.specs.Numbers.{Inst, ServerId}
use Rattle.coord_paxos.specs.SlotState.{SlotState}
use Rattle.coord_paxos.specs.Fresh.{new_slot}
use Rattle.mencius_server.specs.Machine.{is_skipped, next_prepare, slot_after_skip, with_next_phase}
use Rattle.mencius_server.specs.Intervals.{is_in_any}
use Rattle.mencius_server.specs.LearnedIntervals.{AreLearnedIntervals}
use Rattle.mencius_server.specs.declared.skipped_intervals.Interval.{Interval}
use Rattle.mencius_server.specs.declared.owned_interval.OwnedInterval.{OwnedInterval}

-- The slot that is stored at instance j, if any.
abbrev pub stored_at : List (Option SlotState) → Inst → Option SlotState
stored_at ss j = slice_index_or ss j None

-- The slot that is stored at instance j, or a new slot if none is stored there.
abbrev pub stored_or_new : Membership → List (Option SlotState) → Inst → SlotState
stored_or_new m ss j = unwrap_or (stored_at ss j) (new_slot m)

-- Whether a slot is stored and has learned nothing.
abbrev pub is_unlearned : Option SlotState → Bool
is_unlearned None = false
is_unlearned (Some s) = is_none s.learned

-- Whether a slot is stored and has learned a value.
abbrev pub is_learned : Option SlotState → Bool
is_learned None = false
is_learned (Some s) = not (is_none s.learned)

-- Whether the server of the interval `a` owns instance j and j lies in the interval.
abbrev pub is_in : OwnedInterval → Inst → Bool
is_in a j = is_skipped a.members a.server a.first a.stop j

-- Whether instance j belongs to the interval `a`, lies in no skipped interval, and has no stored slot.
abbrev pub is_lacking : OwnedInterval → List Interval → List (Option SlotState) → Inst → Bool
is_lacking a rs ss j = is_in a j && (not (is_in_any rs j) && is_none (stored_at ss j))

-- The slot at instance j after new slots are stored at the instances of the interval `a` that lack one. A slot that was
-- stored before stays.
abbrev pub new_slot_at : OwnedInterval → List Interval → Inst → Option SlotState → Option SlotState
new_slot_at a rs j (Some s) = Some s
new_slot_at a rs j None = if is_in a j && not (is_in_any rs j) then Some (new_slot a.members) else None

-- Whether instance j belongs to the interval `a` and an unlearned slot is stored there.
abbrev pub is_covered_slot : OwnedInterval → List (Option SlotState) → Inst → Bool
is_covered_slot a ss j = is_in a j && is_unlearned (stored_at ss j)

-- The intervals `new` are learned intervals if `old` are, for any choice of open instances. An instance of the interval
-- `a` may be open only if an unlearned slot is stored there.
abbrev pub PassesLearnedIntervals : OwnedInterval → List (Option SlotState) → List Inst → List Inst → Type 0
PassesLearnedIntervals a ss old new =
    (opens : Inst → Bool) → AreLearnedIntervals a.members opens old
    → ((j : Inst) → is_in a j ≡ true → is_unlearned (stored_at ss j) ≡ false → opens j ≡ false)
    → AreLearnedIntervals a.members opens new

-- The slot after p starts its next first phase there. If the slot has learned a value, no first phase is started.
abbrev pub slot_after_phase : Membership → ServerId → SlotState → SlotState
slot_after_phase m p s = if is_none s.learned then with_next_phase m p s else s

-- The slot at instance j after p starts first phases at all unlearned slots of the interval `a`.
abbrev pub stored_after_phase : OwnedInterval → ServerId → Inst → Option SlotState → Option SlotState
stored_after_phase a p j o = if is_in a j && is_unlearned o then option_map (slot_after_phase a.members p) o else o

-- The Prepare of p's next first phase at instance j, if an unlearned slot is stored there.
abbrev pub prepare_at : Membership → ServerId → Inst → Option SlotState → List Message
prepare_at m p j None = []
prepare_at m p j (Some s) = if is_none s.learned then next_prepare m p j s ∷ [] else []

-- The Prepare of p's next first phase at instance j, from the slot that is stored there or from a new slot.
abbrev pub prepare_of : OwnedInterval → ServerId → List (Option SlotState) → Inst → Message
prepare_of a p ss j = next_prepare a.members p j (stored_or_new a.members ss j)

-- The slot of instance j after no-op is learned at the unlearned instances of the interval `a`.
abbrev pub slot_after_skip_in : OwnedInterval → Inst → SlotState → SlotState
slot_after_skip_in a j s = slot_after_skip a.members a.server a.first a.stop j s

-- Whether instance j belongs to the interval `a`, lies in no skipped interval, and has a stored slot that has learned a
-- value.
abbrev pub is_learned_before : OwnedInterval → List Interval → List (Option SlotState) → Inst → Bool
is_learned_before a rs ss j = is_in a j && (not (is_in_any rs j) && is_learned (stored_at ss j))
