-- The laws that no number in a reached trace exceeds its limit.
use Rattle.std.specs.Prelude.{◌≡◌, ℕ, ◌<◌, ◌≤◌, true, Some, length, slice_get, IsTrue}
use Rattle.mencius_base.specs.Limits.{greatest_round, instance_count, most_servers}
use Rattle.mencius_base.specs.Numbers.{ServerId, Inst, MessageNo, TicketNo}
use Rattle.mencius_base.specs.Members.{Membership, most_events, most_messages, round}
use Rattle.mencius_base.specs.Message.{is_sent_to, is_for, is_within}
use Rattle.mencius_base.specs.declared.message.Message.{Message}
use Rattle.mencius_base.specs.declared.message.Message.TheVariants.{Suggest, Skip, Accepted, Prepare, Promise, Propose, Learn}
use Rattle.mencius_base.specs.declared.message.Value.{Value}
use Rattle.mencius_base.specs.declared.message.Value.TheVariants.{Ticket}
use Rattle.mencius_base.specs.declared.message.Vote.{Vote}
use Rattle.mencius_model.specs.Trace.{Trace, events, sent_messages, submitted_commands}
use Rattle.mencius_model.specs.Instance.{learned_value}
use Rattle.mencius_model.specs.Next.{IsReached}

-- If the value is a ticket, the ticket is less than n.
abbrev pub IsTicketBelow : ℕ → Value → Type 0
IsTicketBelow n x = (t : TicketNo) → x ≡ Ticket t → t < n

-- Each ballot that the message names has a round of at most `greatest_round`. Each ticket that it names is less than n.
abbrev pub IsPayloadWithin : Membership → ℕ → Message → Type 0
IsPayloadWithin m n (Suggest from inst ticket) = ticket < n
IsPayloadWithin m n (Skip from first stop) = Unit {0}
IsPayloadWithin m n (Accepted from to inst ballot) = round m ballot ≤ greatest_round
IsPayloadWithin m n (Prepare from inst ballot) = round m ballot ≤ greatest_round
IsPayloadWithin m n (Promise from to inst ballot vote) =
    (round m ballot ≤ greatest_round)
    × ((x : Vote) → vote ≡ Some x → (round m x.ballot ≤ greatest_round) × IsTicketBelow n x.value)
IsPayloadWithin m n (Propose from inst ballot value) = (round m ballot ≤ greatest_round) × IsTicketBelow n value
IsPayloadWithin m n (Learn from inst value) = IsTicketBelow n value

-- In every reached trace, the number of events and the number of sent messages are within their limits.
abbrev pub CountsWithinLimits : Type 0
CountsWithinLimits =
    (m : Membership) (w : Trace) → IsReached m w → (events w ≤ most_events) × (length (sent_messages w) ≤ most_messages)

-- In every reached trace of at most seven servers, the servers, instances, ballots and tickets that a sent message
-- names are within their limits.
abbrev pub MessagesWithinLimits : Type 0
MessagesWithinLimits =
    (m : Membership) (w : Trace) → m.count ≤ most_servers → IsReached m w
    → (k : MessageNo) (x : Message) → slice_get (sent_messages w) k ≡ Some x
    → IsTrue (is_within m x) × IsPayloadWithin m (length (submitted_commands w)) x

-- In every reached trace of at most seven servers, each instance with a learned value exists, and the ticket of the
-- value was given to a submission.
abbrev pub LearnedWithinLimits : Type 0
LearnedWithinLimits =
    (m : Membership) (w : Trace) → m.count ≤ most_servers → IsReached m w
    → (p : ServerId) (i : Inst) (z : Value) → learned_value w p i ≡ Some z
    → (i < instance_count) × IsTicketBelow (length (submitted_commands w)) z

-- In every reached trace of at most seven servers, `is_for` accepts each sent message for each member that it goes to.
abbrev pub MessagesAddressed : Type 0
MessagesAddressed =
    (m : Membership) (w : Trace) → m.count ≤ most_servers → IsReached m w
    → (k : MessageNo) (p : ServerId) (x : Message) → slice_get (sent_messages w) k ≡ Some x
    → p < m.count → is_sent_to p x ≡ true → IsTrue (is_for m p x)
