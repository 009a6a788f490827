-- The ballots that messages name, and the servers that lead these ballots.
use Rattle.std.specs.Prelude.{◌≡◌, ◌≤◌, ◌<◌, ◌⊎◌, Option, Some, None, slice_get}
use Rattle.mencius_base.specs.Members.{Membership, leader}
use Rattle.mencius_base.specs.Numbers.{BallotNo, MessageNo}
use Rattle.mencius_base.specs.declared.message.Message.{Message}
use Rattle.mencius_base.specs.declared.message.Message.TheVariants.{Suggest, Accepted, Prepare, Promise, Propose}
use Rattle.mencius_base.specs.declared.message.Vote.{Vote}
use Rattle.mencius_model.specs.Next.{IsReached}
use Rattle.mencius_model.specs.Trace.{Trace, sent_messages}

-- the ballot is 0, which belongs to the owner, or it is at least n, for n servers. So it is not one of 1 to n - 1
abbrev pub IsBallot : Membership → BallotNo → Type 0
IsBallot m b = (b ≡ 0) ⊎ (m.count ≤ b)

-- the vote in a promise of ballot b, if any, has a ballot below b, which is 0 or at least n
abbrev pub IsVoteBelow : Membership → BallotNo → Option Vote → Type 0
IsVoteBelow m b None = Unit {0}
IsVoteBelow m b (Some x) = IsBallot m x.ballot × (x.ballot < b)

-- the leader of the message's ballot at its instance sends each Suggest (at ballot 0), Prepare and Propose, and
-- receives each Accepted and Promise. The ballot of an Accepted is 0 or at least n. The ballot of a Prepare, a Promise
-- or a Propose is at least n. A vote in a Promise has a lower ballot. Skip and Learn have no ballot
abbrev pub IsLed : Membership → Message → Type 0
IsLed m (Suggest from inst ticket) = leader m 0 inst ≡ from
IsLed m (Accepted from to inst ballot) = IsBallot m ballot × (leader m ballot inst ≡ to)
IsLed m (Prepare from inst ballot) = (m.count ≤ ballot) × (leader m ballot inst ≡ from)
IsLed m (Promise from to inst ballot vote) =
    (m.count ≤ ballot) × (leader m ballot inst ≡ to) × IsVoteBelow m ballot vote
IsLed m (Propose from inst ballot value) = (m.count ≤ ballot) × (leader m ballot inst ≡ from)
IsLed m _ = Unit {0}

-- each message in a trace that some journal makes is led, in the sense of `IsLed`
abbrev pub MessagesLed : Type 0
MessagesLed = (m : Membership) (w : Trace) → IsReached m w
    → (k : MessageNo) (x : Message) → slice_get (sent_messages w) k ≡ Some x → IsLed m x
