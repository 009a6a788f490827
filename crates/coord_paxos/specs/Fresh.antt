-- The slot at the start, before anything happens.
use Rattle.std.specs.Prelude.{false, Bool, List, None, replicate}
use Rattle.mencius_base.specs.Members.{Membership}
use Rattle.coord_paxos.specs.SlotState.{SlotState}

-- the empty set of servers, with one truth value for each server
abbrev pub no_servers : Membership → List Bool
no_servers m = replicate m.count false

-- a new slot. Nothing is promised, accepted, learned, reported or proposed, no ballot above 0 is tried, and both sets
-- are empty
abbrev pub new_slot : Membership → SlotState
new_slot m = record {
  members = m;
  promised = 0;
  vote = None;
  learned = None;
  trying = 0;
  reported = None;
  proposal = None;
  promises = no_servers m;
  accepts = no_servers m;
}
