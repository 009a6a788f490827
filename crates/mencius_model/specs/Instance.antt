-- Facts about an instance i and about the part of a server p in it, as functions of the trace w. A function whose name
-- ends in `_by` looks at a single line.
use Rattle.std.specs.Prelude.{Bool, false, [], ◌∷◌, Option, Some, None, ◌==◌, nat_le, nat_lt, if◌then◌else◌, ◌&&◌, map, ◌≡◌, option_and_then, option_map}
use Rattle.std.specs.List.{list_any, fold, count_by}
use Rattle.mencius_base.specs.Numbers.{ServerId, Inst, BallotNo}
use Rattle.mencius_base.specs.declared.message.Message.{Message}
use Rattle.mencius_base.specs.declared.message.Message.TheVariants.{Suggest, Accepted, Prepare, Promise, Propose}
use Rattle.mencius_base.specs.declared.message.Value.{Value}
use Rattle.mencius_base.specs.declared.message.Value.TheVariants.{Ticket}
use Rattle.mencius_base.specs.declared.message.Vote.{Vote}
use Rattle.mencius_base.specs.Members.{Membership, majority, numbers_below}
use Rattle.mencius_model.specs.Trace.{Line, Sent, Learned, Trace, greatest_by, oldest_by, heard_messages, sent_messages}

-- The ballot that p promises or accepts at i by this line, or 0 if it does neither.
abbrev pub promised_by : ServerId → Inst → Line → BallotNo
promised_by p i (Sent (Promise from to inst ballot vote)) = if from == p && inst == i then ballot else 0
promised_by p i (Sent (Accepted from to inst ballot)) = if from == p && inst == i then ballot else 0
promised_by p i _ = 0

-- The greatest ballot that p promised or accepted at i, or 0 if it did neither.
abbrev pub promised_ballot : Trace → ServerId → Inst → BallotNo
promised_ballot w p i = greatest_by (promised_by p i) w

-- The value that a line proposes at ballot b of i. A Suggest proposes its ticket at ballot 0, and a Propose proposes
-- its value at a ballot above 0.
abbrev pub proposal_by : Inst → BallotNo → Line → Option Value
proposal_by i b (Sent (Suggest from inst ticket)) = if inst == i && b == 0 then Some (Ticket ticket) else None
proposal_by i b (Sent (Propose from inst ballot value)) =
    if (inst == i && ballot == b) && nat_lt 0 b then Some value else None
proposal_by i b _ = None

-- The value that was proposed at ballot b of i. If there are several proposals, the first one counts.
abbrev pub proposal : Trace → Inst → BallotNo → Option Value
proposal w i b = oldest_by (proposal_by i b) w

-- The ballot that p accepts at i by this line, if it accepts one.
abbrev pub accepted_by : ServerId → Inst → Line → Option BallotNo
accepted_by p i (Sent (Accepted from to inst ballot)) = if from == p && inst == i then Some ballot else None
accepted_by p i _ = None

-- The greater of two ballots. If only one is present, the result is the present one.
abbrev pub greater_ballot : Option BallotNo → Option BallotNo → Option BallotNo
greater_ballot None o = o
greater_ballot (Some b) None = Some b
greater_ballot (Some b) (Some c) = if nat_lt b c then Some c else Some b

-- The greatest ballot that p accepted at i, if it accepted one.
abbrev pub accepted_ballot : Trace → ServerId → Inst → Option BallotNo
accepted_ballot [] p i = None
accepted_ballot (l ∷ w) p i = greater_ballot (accepted_ballot w p i) (accepted_by p i l)

-- The vote of p at i is the greatest ballot that p accepted there, with the value that was proposed at that ballot.
abbrev pub vote : Trace → ServerId → Inst → Option Vote
vote w p i =
    option_and_then (λ b. option_map (λ x. record { ballot = b; value = x }) (proposal w i b)) (accepted_ballot w p i)

-- The value that p learns at i by this line, if it learns one.
abbrev pub learned_by : ServerId → Inst → Line → Option Value
learned_by p i (Learned server inst value) = if server == p && inst == i then Some value else None
learned_by p i _ = None

-- The value that p learned at i. If p learned several times, the first value counts.
abbrev pub learned_value : Trace → ServerId → Inst → Option Value
learned_value w p i = oldest_by (learned_by p i) w

-- The ballot of this line if it is a Prepare by p at i, or 0 for any other line.
abbrev pub tried_by : ServerId → Inst → Line → BallotNo
tried_by p i (Sent (Prepare from inst ballot)) = if from == p && inst == i then ballot else 0
tried_by p i _ = 0

-- The greatest ballot of the Prepares that p sent at i, or 0 if it sent none. The owner of i needs no Prepare to suggest
-- at ballot 0.
abbrev pub tried_ballot : Trace → ServerId → Inst → BallotNo
tried_ballot w p i = greatest_by (tried_by p i) w

-- Whether the message is q's promise of ballot b of i.
abbrev pub is_promise : Inst → BallotNo → ServerId → Message → Bool
is_promise i b q (Promise from to inst ballot vote) = (inst == i && ballot == b) && (from == q)
is_promise i b q _ = false

-- Whether p heard q's promise of ballot b of i.
abbrev pub promisers : Trace → ServerId → Inst → BallotNo → ServerId → Bool
promisers w p i b q = list_any (is_promise i b q) (heard_messages w p)

-- Whether the message is q's acceptance at ballot b of i.
abbrev pub is_acceptance : Inst → BallotNo → ServerId → Message → Bool
is_acceptance i b q (Accepted from to inst ballot) = (inst == i && ballot == b) && (from == q)
is_acceptance i b q _ = false

-- Whether p heard q's acceptance at ballot b of i.
abbrev pub accepters : Trace → ServerId → Inst → BallotNo → ServerId → Bool
accepters w p i b q = list_any (is_acceptance i b q) (heard_messages w p)

-- The vote with the greater ballot. If the ballots are equal, the result is the first vote. If only one vote is
-- present, the result is the present one.
abbrev pub higher_vote : Option Vote → Option Vote → Option Vote
higher_vote None y = y
higher_vote (Some x) None = Some x
higher_vote (Some x) (Some y) = if nat_lt x.ballot y.ballot then Some y else Some x

-- The vote that the message reports, if it is a promise of ballot b of i and reports one.
abbrev pub vote_reported : Inst → BallotNo → Message → Option Vote
vote_reported i b (Promise from to inst ballot vote) = if inst == i && ballot == b then vote else None
vote_reported i b _ = None

-- The vote with the greatest ballot that p heard in promises of ballot b of i. If several of these votes have that
-- ballot, it is the first one that p heard.
abbrev pub reported_vote : Trace → ServerId → Inst → BallotNo → Option Vote
reported_vote w p i b = fold higher_vote None (map (vote_reported i b) (heard_messages w p))

-- Whether q sent an acceptance at ballot b of i, even if nobody heard it.
abbrev pub has_accepted : Trace → Inst → BallotNo → ServerId → Bool
has_accepted w i b q = list_any (is_acceptance i b q) (sent_messages w)

-- Whether a majority of the servers is in the set.
abbrev pub are_majority : Membership → (ServerId → Bool) → Bool
are_majority m among = nat_le (majority m) (count_by among (numbers_below m.count))

-- If p accepted a ballot at i, a value was proposed at the greatest ballot that it accepted. This holds in every
-- reached trace.
pub record IsVoted (w : Trace) (p : ServerId) (i : Inst) : Type 0 where
  pub proposal : (b : BallotNo) → accepted_ballot w p i ≡ Some b → (z : Value) × (proposal w i b ≡ Some z)

-- p heard no promise of ballot b of i and no acceptance at it, and no value was proposed at it.
pub record IsUntried (w : Trace) (p : ServerId) (i : Inst) (b : BallotNo) : Type 0 where
  pub unpromised : (q : ServerId) → promisers w p i b q ≡ false
  pub unaccepted : (q : ServerId) → accepters w p i b q ≡ false
  pub unsaid : proposal w i b ≡ None
