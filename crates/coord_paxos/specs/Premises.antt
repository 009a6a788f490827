-- Every trace that some journal makes meets the conditions that the laws of a slot set for a trace.
use Rattle.std.specs.Prelude.{◌≡◌, ◌<◌, false, ◌∷◌, Option, Some, None, slice_get}
use Rattle.mencius_base.specs.Numbers.{ServerId, Inst, BallotNo, TicketNo, MessageNo}
use Rattle.mencius_base.specs.declared.message.Message.TheVariants.{Suggest, Accepted, Promise, Propose}
use Rattle.mencius_base.specs.declared.message.Value.{Value}
use Rattle.mencius_base.specs.declared.message.Value.TheVariants.{Ticket}
use Rattle.mencius_base.specs.declared.message.Vote.{Vote}
use Rattle.mencius_base.specs.Members.{Membership, ballot_of, owner}
use Rattle.mencius_model.specs.Trace.{Line, Trace, sent_messages}
use Rattle.mencius_model.specs.Instance.{proposal, tried_ballot, IsUntried, IsVoted}
use Rattle.mencius_model.specs.Server.{free_instance}
use Rattle.mencius_model.specs.Next.{IsReached, next_round}
use Rattle.coord_paxos.specs.Laws.{is_touched_by}

-- a value had been proposed at the greatest ballot that a server accepted at an instance
abbrev pub AcceptedWasProposed : Type 0
AcceptedWasProposed = (m : Membership) (w : Trace) → IsReached m w → (p : ServerId) (i : Inst) → IsVoted w p i

-- the free instance that takes a server's next ticket is the server's own. The server tries no ballot above 0 there,
-- and nobody has suggested a ticket there
abbrev pub FreeIsUnsaid : Type 0
FreeIsUnsaid =
    (m : Membership) (w : Trace) → IsReached m w → (p : ServerId) (i : Inst) → free_instance m w p ≡ Some i
    → (owner m i ≡ p) × (tried_ballot w p i ≡ 0) × (proposal w i 0 ≡ None)

-- the ballot that a suspicion prepares at an instance is greater than each ballot that the server tried there. Nothing
-- is proposed at it, and the server heard no promise of it and no acceptance at it
abbrev pub NextIsUntried : Type 0
NextIsUntried =
    (m : Membership) (w : Trace) → IsReached m w → (p : ServerId) (i : Inst) → p < m.count
    → let b : BallotNo = ballot_of m (next_round m w p i) p in (tried_ballot w p i < b) × IsUntried w p i b

-- a Suggest that was sent carries the proposal at ballot 0 of its instance
abbrev pub SuggestIsProposal : Type 0
SuggestIsProposal =
    (m : Membership) (w : Trace) → IsReached m w → (k : MessageNo) (q : ServerId) (i : Inst) (t : TicketNo)
    → slice_get (sent_messages w) k ≡ Some (Suggest q i t) → proposal w i 0 ≡ Some (Ticket t)

-- a Propose that was sent carries the proposal at its instance and ballot
abbrev pub ProposeIsProposal : Type 0
ProposeIsProposal =
    (m : Membership) (w : Trace) → IsReached m w → (k : MessageNo) (q : ServerId) (i : Inst) (b : BallotNo) (z : Value)
    → slice_get (sent_messages w) k ≡ Some (Propose q i b z) → proposal w i b ≡ Some z

-- a Promise that was sent is of a ballot above 0
abbrev pub PromiseIsPositive : Type 0
PromiseIsPositive =
    (m : Membership) (w : Trace) → IsReached m w
    → (k : MessageNo) (q p : ServerId) (i : Inst) (b : BallotNo) (o : Option Vote)
    → slice_get (sent_messages w) k ≡ Some (Promise q p i b o) → 0 < b

-- an Accepted at ballot 0 that was sent goes to the owner of its instance
abbrev pub AcceptedGoesToOwner : Type 0
AcceptedGoesToOwner =
    (m : Membership) (w : Trace) → IsReached m w → (k : MessageNo) (q p : ServerId) (i : Inst)
    → slice_get (sent_messages w) k ≡ Some (Accepted q p i 0) → owner m i ≡ p

-- a line that does not touch p's slot for i keeps `IsVoted` and `IsUntried` there. It leaves the ballot that p tries at
-- i and all proposals at i unchanged
abbrev pub UntouchedLeavesPremises : Type 0
UntouchedLeavesPremises =
    (w : Trace) (p : ServerId) (i : Inst) (l : Line) → is_touched_by p i l ≡ false
    → (IsVoted w p i → IsVoted (l ∷ w) p i)
    × (tried_ballot (l ∷ w) p i ≡ tried_ballot w p i)
    × ((b : BallotNo) → proposal (l ∷ w) i b ≡ proposal w i b)
    × ((b : BallotNo) → IsUntried w p i b → IsUntried (l ∷ w) p i b)
