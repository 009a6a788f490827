-- The slot of a server for an instance, computed from the trace.
use Rattle.std.specs.Prelude.{Option, None, ◌==◌, nat_lt, if◌then◌else◌, ◌||◌, map}
use Rattle.mencius_base.specs.Numbers.{ServerId, Inst, BallotNo}
use Rattle.mencius_base.specs.declared.message.Value.{Value}
use Rattle.mencius_base.specs.Members.{Membership, numbers_below, owner}
use Rattle.mencius_model.specs.Trace.{Trace}
use Rattle.mencius_model.specs.Instance.{promised_ballot, vote, learned_value, tried_ballot, reported_vote, proposal, promisers, accepters}
use Rattle.coord_paxos.specs.SlotState.{SlotState}

-- the proposal x at ballot b of i, or none if b is 0 and p does not own i. Only the owner proposes at ballot 0
abbrev pub if_own : Membership → ServerId → Inst → BallotNo → Option Value → Option Value
if_own m p i b x = if owner m i == p || nat_lt 0 b then x else None

-- the value that p itself proposed at the ballot that it tries. That ballot is 0 until p's first Prepare
abbrev pub own_proposal : Membership → Trace → ServerId → Inst → Option Value
own_proposal m w p i = if_own m p i (tried_ballot w p i) (proposal w i (tried_ballot w p i))

-- the slot of server p for instance i in the trace w
abbrev pub slot_at : Membership → Trace → ServerId → Inst → SlotState
slot_at m w p i = record {
  members = m;
  promised = promised_ballot w p i;
  vote = vote w p i;
  learned = learned_value w p i;
  trying = tried_ballot w p i;
  reported = reported_vote w p i (tried_ballot w p i);
  proposal = own_proposal m w p i;
  promises = map (promisers w p i (tried_ballot w p i)) (numbers_below m.count);
  accepts = map (accepters w p i (tried_ballot w p i)) (numbers_below m.count);
}
