-- The effect of each change on a slot.
use Rattle.std.specs.Prelude.{◌<◌}
use Rattle.mencius_base.specs.Members.{Membership}
use Rattle.coord_paxos.specs.SlotState.{SlotState}
use Rattle.coord_paxos.specs.Slot.{after_accept, after_acceptance, after_learn, after_prepare, after_promise}
use Rattle.mencius_server.specs.declared.change.Change.{Change}
use Rattle.mencius_server.specs.declared.change.Change.TheVariants.{Prepare, Accept, CountPromise, CountAcceptance, Learn}

-- The slot after the change.
abbrev pub slot_after_change : SlotState → Change → SlotState
slot_after_change s (Prepare ballot) = after_prepare s ballot
slot_after_change s (Accept ballot value) = after_accept s ballot value
slot_after_change s (CountPromise from ballot vote) = after_promise s from ballot vote
slot_after_change s (CountAcceptance from ballot) = after_acceptance s from ballot
slot_after_change s (Learn value) = after_learn s value

-- A server whose promise or acceptance is counted is a member, and a counted promise has a ballot above 0.
abbrev pub IsSaid : Membership → Change → Type 0
IsSaid m (Prepare ballot) = Unit {0}
IsSaid m (Accept ballot value) = Unit {0}
IsSaid m (CountPromise from ballot vote) = (from < m.count) × (0 < ballot)
IsSaid m (CountAcceptance from ballot) = from < m.count
IsSaid m (Learn value) = Unit {0}
