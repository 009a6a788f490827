-- The facts about an event. The trace before the event is w, and the trace after it is v.
use Rattle.std.specs.Prelude.{true, false, ℕ, Bool, List, [], ◌∷◌, ◌++◌, length, Option, Some, None, Result, Ok, Err, ◌==◌, ◌&&◌, if◌then◌else◌, slice_get}
use Rattle.std.specs.List.{enumerate_from, flat_map}
use Rattle.mencius_base.specs.Numbers.{ServerId, Inst, BallotNo, MessageNo, TicketNo}
use Rattle.mencius_base.specs.declared.command.Command.{Command}
use Rattle.mencius_base.specs.declared.event.Event.{Event}
use Rattle.mencius_base.specs.declared.event.Event.TheVariants.{Deliver, Execute}
use Rattle.mencius_base.specs.declared.message.Message.{Message}
use Rattle.mencius_base.specs.declared.message.Message.TheVariants.{Suggest, Skip, Accepted, Prepare, Promise, Propose, Learn}
use Rattle.mencius_base.specs.declared.message.Value.{Value}
use Rattle.mencius_base.specs.declared.message.Value.TheVariants.{Noop, Ticket}
use Rattle.mencius_base.specs.declared.refusal.Refusal.{Refusal}
use Rattle.mencius_base.specs.Members.{Membership, majority}
use Rattle.coord_paxos.specs.Reached.{slot_at}
use Rattle.mencius_server.specs.Glances.{glance_of}
use Rattle.mencius_server.specs.declared.glance.Glance.{Glance}
use Rattle.mencius_model.specs.Trace.{Line, Learned, Trace, messages_of, sent_messages}
use Rattle.mencius_model.specs.Instance.{learned_value}
use Rattle.mencius_model.specs.Server.{done, front}
use Rattle.mencius_model.specs.Next.{learned_count, lines, next, server_of}
use Rattle.mencius_model.specs.Replies.{Answered, Given, Pending, command_at, reply_of}
use Rattle.mencius_trace.specs.declared.fact.Fact.{Fact}
use Rattle.mencius_trace.specs.declared.fact.Fact.TheVariants.{Refused, Promises, Acceptances, Ignored, Learned as FactLearned, Sent as FactSent, Front, Executed, Reply}
use Rattle.mencius_trace.specs.declared.reaction.Reaction.{Reaction}
use Rattle.mencius_trace.specs.declared.reaction.Reaction.TheVariants.{Effective, Counted, Promised, Tries, Learned as LearnedBefore, Proposed}

-- ---- the reaction to a message

-- the reaction `Learned` with the value that was learned before, or otherwise the given reaction
abbrev pub learned_or : Option Value → Reaction → Reaction
learned_or (Some x) otherwise = LearnedBefore x
learned_or None otherwise = otherwise

-- the reaction `Proposed` if a value was proposed before, and otherwise the given reaction
abbrev pub proposed_or : Option Value → Reaction → Reaction
proposed_or (Some x) otherwise = Proposed
proposed_or None otherwise = otherwise

-- the reaction if b is the ballot tried, and otherwise `Tries` with the ballot tried
abbrev pub if_tried : BallotNo → BallotNo → Reaction → Reaction
if_tried b tried reaction = if b == tried then reaction else Tries tried

-- the instance of a message, or the first instance of a Skip
abbrev pub instance_of : Message → Inst
instance_of (Suggest from inst ticket) = inst
instance_of (Skip from first stop) = first
instance_of (Accepted from to inst ballot) = inst
instance_of (Prepare from inst ballot) = inst
instance_of (Promise from to inst ballot vote) = inst
instance_of (Propose from inst ballot value) = inst
instance_of (Learn from inst value) = inst

-- the reaction to a message of a server with this knowledge of the instance, apart from its reply
abbrev pub reaction_at : Glance → Message → Reaction
reaction_at g (Suggest from inst ticket) = Promised g.promised
reaction_at g (Skip from first stop) = learned_or g.learned Effective
reaction_at g (Accepted from to inst ballot) = if_tried ballot g.trying (learned_or g.learned Counted)
reaction_at g (Prepare from inst ballot) = Promised g.promised
reaction_at g (Promise from to inst ballot vote) =
    if_tried ballot g.trying (learned_or g.learned (proposed_or g.proposal Counted))
reaction_at g (Propose from inst ballot value) = Promised g.promised
reaction_at g (Learn from inst value) = learned_or g.learned Effective

-- the knowledge of p about instance i, with counts in place of sets
abbrev pub glance : Membership → Trace → ServerId → Inst → Glance
glance m w p i = glance_of (slot_at m w p i)

-- the reaction of p to a message
abbrev pub reaction : Membership → Trace → ServerId → Message → Reaction
reaction m w p x = reaction_at (glance m w p (instance_of x)) x

-- ---- the notice about a message

-- the fact with the number of servers whose promises or acceptances p counted, if the message is a promise or an
-- acceptance
abbrev pub counts : Membership → ServerId → Glance → Message → List Fact
counts m p g (Promise from to inst ballot vote) = Promises p inst ballot g.promise_count (majority m) ∷ []
counts m p g (Accepted from to inst ballot) = Acceptances p inst ballot g.acceptance_count (majority m) ∷ []
counts m p g _ = []

-- the count if the message counts, or the reason if there is one and the message is ignored. Otherwise it is empty
abbrev pub notice : Membership → Trace → ServerId → Message → Bool → Reaction → List Fact
notice m v p x is_ignored Effective = []
notice m v p x is_ignored Counted = counts m p (glance m v p (instance_of x)) x
notice m v p x is_ignored reaction = if is_ignored then Ignored p x reaction ∷ [] else []

-- whether these lines send no message and teach no instance
abbrev pub is_ignored : List Line → Bool
is_ignored ls = length (messages_of ls) == 0 && learned_count ls == 0

-- the notice about a message that p hears, if any
abbrev pub notice_of : Membership → Trace → Trace → ServerId → Bool → Option Message → List Fact
notice_of m w v p is_ignored None = []
notice_of m w v p is_ignored (Some x) = notice m v p x is_ignored (reaction m w p x)

-- the notice about the message that an event delivers, if any
abbrev pub notices : Membership → Trace → Trace → Event → List Fact
notices m w v (Deliver k p) = notice_of m w v p (is_ignored (lines m w (Deliver k p))) (slice_get (sent_messages w) k)
notices m w v _ = []

-- ---- the effects of an event

-- the fact that a value was learned, and nothing for any other line of a trace
abbrev pub learned_in : Line → List Fact
learned_in (Learned p i value) = FactLearned p i value ∷ []
learned_in _ = []

-- the facts about the instances that `ls` teaches, in the same order. An event teaches instances in rising order
abbrev pub learned_facts : List Line → List Fact
learned_facts ls = flat_map learned_in ls

-- the fact that a message was sent, with its number
abbrev pub sent_fact : MessageNo × Message → List Fact
sent_fact (k, x) = FactSent k x ∷ []

-- the facts about the messages that `ls` sends. The first message has number k
abbrev pub sent_facts : MessageNo → List Line → List Fact
sent_facts k ls = flat_map sent_fact (enumerate_from k (messages_of ls))

-- the fact about p's front, if it moved
abbrev pub front_facts : ServerId → Inst → Inst → List Fact
front_facts p old new = if old == new then [] else Front p new ∷ []

-- whether a command is answered by `Pending`
abbrev pub is_not_yet : Option Answered → Bool
is_not_yet (Some Pending) = true
is_not_yet _ = false

-- whether there is a command, and it has no reply yet
abbrev pub is_pending : Trace → Option Command → Bool
is_pending w None = false
is_pending w (Some command) = is_not_yet (reply_of w command.id)

-- the fact that the command of ticket t has a reply, if the reply is given
abbrev pub given_fact : ServerId → Inst → TicketNo → Option Answered → List Fact
given_fact p i t (Some (Given former)) = Reply p i t ∷ []
given_fact p i t _ = []

-- the fact that the command of ticket t has a reply, if there is a command and its reply is given
abbrev pub given_to : Trace → ServerId → Inst → TicketNo → Option Command → List Fact
given_to v p i t None = []
given_to v p i t (Some command) = given_fact p i t (reply_of v command.id)

-- the fact about the reply to the command of a ticket, if the command waited for it
abbrev pub awaited_facts : Trace → ServerId → Inst → Bool → Value → List Fact
awaited_facts v p i is_awaited Noop = []
awaited_facts v p i is_awaited (Ticket t) = if is_awaited then given_to v p i t (command_at v t) else []

-- the fact about the reply to the command of a ticket, if the reply was not given before the event
abbrev pub reply_facts : Trace → Trace → ServerId → Inst → Value → List Fact
reply_facts w v p i Noop = []
reply_facts w v p i (Ticket t) = awaited_facts v p i (is_pending w (command_at w t)) (Ticket t)

-- the facts about the value that p executes at i, if any, and about the reply to its command
abbrev pub execution_facts_of : Trace → Trace → ServerId → Inst → Option Value → List Fact
execution_facts_of w v p i None = []
execution_facts_of w v p i (Some value) = Executed p i value ∷ reply_facts w v p i value

-- the facts about the instance that an event executes, if any
abbrev pub execution_facts : Trace → Trace → Event → List Fact
execution_facts w v (Execute p) = execution_facts_of w v p (done w p) (learned_value w p (done w p))
execution_facts w v _ = []

-- the facts about all effects of an accepted event
abbrev pub effects : Membership → Trace → Trace → Event → List Fact
effects m w v e =
    notices m w v e
    ++ learned_facts (lines m w e)
    ++ sent_facts (length (sent_messages w)) (lines m w e)
    ++ front_facts (server_of e) (front m w (server_of e)) (front m v (server_of e))
    ++ execution_facts w v e

-- the facts about the effects of an event, or about its refusal
abbrev pub outcome_facts : Membership → Trace → Event → Result Trace Refusal → List Fact
outcome_facts m w e (Ok v) = effects m w v e
outcome_facts m w e (Err refusal) = Refused refusal ∷ []
