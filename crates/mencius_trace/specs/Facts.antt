-- The lines of a printed trace. Each line states one fact. The trace w has the commands of the values in these lines.
use Rattle.std.specs.Prelude.{ℕ, List, [], ◌∷◌, ◌++◌, codes, decimal, Option, Some, None}
use Rattle.mencius_base.specs.Numbers.{ServerId, Inst, BallotNo, MessageNo}
use Rattle.mencius_base.specs.declared.command.Command.{Command}
use Rattle.mencius_base.specs.declared.event.Event.{Event}
use Rattle.mencius_base.specs.declared.message.Message.{Message}
use Rattle.mencius_base.specs.declared.message.Message.TheVariants.{Suggest, Skip, Accepted, Prepare, Promise, Propose, Learn}
use Rattle.mencius_base.specs.declared.message.Value.{Value}
use Rattle.mencius_base.specs.declared.message.Value.TheVariants.{Noop, Ticket}
use Rattle.mencius_base.specs.declared.message.Vote.{Vote}
use Rattle.mencius_base.specs.declared.refusal.Refusal.{Refusal}
use Rattle.mencius_base.specs.Refusal.{refusal_name}
use Rattle.mencius_model.specs.Replies.{command_at, reply_of}
use Rattle.mencius_model.specs.Trace.{Trace}
use Rattle.mencius_format.specs.Texts.{event_text}
use Rattle.mencius_trace.specs.declared.fact.Fact.{Fact}
use Rattle.mencius_trace.specs.declared.fact.Fact.TheVariants.{Refused, Promises, Acceptances, Ignored, Learned as FactLearned, Sent, Front, Executed, Reply, Unheard}
use Rattle.mencius_trace.specs.declared.reaction.Reaction.{Reaction}
use Rattle.mencius_trace.specs.declared.reaction.Reaction.TheVariants.{Promised, Tries, Learned as LearnedBefore, Proposed}
use Rattle.mencius_trace.specs.Words.{answer_line, ticket_text}

-- ---- parts of lines

-- `no-op`, or the identity of the ticket's command
abbrev pub value_text : Trace → Value → List ℕ
value_text w Noop = codes "no-op"
value_text w (Ticket t) = ticket_text w t

-- a vote with its ballot and value, or `none`
abbrev pub vote_text : Trace → Option Vote → List ℕ
vote_text w None = codes " vote none"
vote_text w (Some x) = codes " vote " ++ decimal x.ballot ++ 32 ∷ value_text w x.value

-- the sender of a message that goes to all servers
abbrev pub to_all : ServerId → List ℕ
to_all from = codes " from " ++ decimal from ++ codes " to all"

-- the sender and the addressee of a message that goes to one server
abbrev pub to_one : ServerId → ServerId → List ℕ
to_one from to = codes " from " ++ decimal from ++ codes " to " ++ decimal to

-- the word `instance` and its number
abbrev pub at_instance : Inst → List ℕ
at_instance i = codes " instance " ++ decimal i

-- the words `instance` and `ballot` and their numbers
abbrev pub at_ballot : Inst → BallotNo → List ℕ
at_ballot i b = at_instance i ++ codes " ballot " ++ decimal b

-- the word `value` and a value
abbrev pub with_value : Trace → Value → List ℕ
with_value w x = codes " value " ++ value_text w x

-- ---- messages

-- the kind of a message
abbrev pub kind_text : Message → List ℕ
kind_text (Suggest from inst ticket) = codes "Suggest"
kind_text (Skip from first stop) = codes "Skip"
kind_text (Accepted from to inst ballot) = codes "Accepted"
kind_text (Prepare from inst ballot) = codes "Prepare"
kind_text (Promise from to inst ballot vote) = codes "Promise"
kind_text (Propose from inst ballot value) = codes "Propose"
kind_text (Learn from inst value) = codes "Learn"

-- the sender of a message, and its addressee or all servers
abbrev pub way_text : Message → List ℕ
way_text (Suggest from inst ticket) = to_all from
way_text (Skip from first stop) = to_all from
way_text (Accepted from to inst ballot) = to_one from to
way_text (Prepare from inst ballot) = to_all from
way_text (Promise from to inst ballot vote) = to_one from to
way_text (Propose from inst ballot value) = to_all from
way_text (Learn from inst value) = to_all from

-- the content of a message
abbrev pub content_text : Trace → Message → List ℕ
content_text w (Suggest from inst ticket) = at_ballot inst 0 ++ codes " value " ++ ticket_text w ticket
content_text w (Skip from first stop) = codes " instances " ++ decimal first ++ codes " to " ++ decimal stop
content_text w (Accepted from to inst ballot) = at_ballot inst ballot
content_text w (Prepare from inst ballot) = at_ballot inst ballot
content_text w (Promise from to inst ballot vote) = at_ballot inst ballot ++ vote_text w vote
content_text w (Propose from inst ballot value) = at_ballot inst ballot ++ with_value w value
content_text w (Learn from inst value) = at_instance inst ++ with_value w value

-- ---- lines

-- the line of an event, with its place among all events
abbrev pub event_line : ℕ → Event → List ℕ
event_line place e = codes "event " ++ decimal place ++ 32 ∷ event_text e ++ codes "\n"

-- the line of a refusal
abbrev pub refused_line : Refusal → List ℕ
refused_line refusal = codes "refused " ++ refusal_name refusal ++ codes "\n"

-- the line of a message that was sent, with its number k
abbrev pub sent_line : Trace → MessageNo × Message → List ℕ
sent_line w (k, x) =
    codes "sent " ++ decimal k ++ 32 ∷ kind_text x ++ way_text x ++ content_text w x ++ codes "\n"

-- the line of the value that a server learned or executed at an instance
abbrev pub value_line : List ℕ → Trace → ServerId → Inst → Value → List ℕ
value_line kind w p i x = kind ++ 32 ∷ decimal p ++ at_instance i ++ with_value w x ++ codes "\n"

-- the line of the value that a server learned at an instance
abbrev pub learned_line : Trace → ServerId → Inst → Value → List ℕ
learned_line w p i x = value_line (codes "learned") w p i x

-- the line of the value that a server executed at an instance
abbrev pub executed_line : Trace → ServerId → Inst → Value → List ℕ
executed_line w p i x = value_line (codes "executed") w p i x

-- the line of a server's front
abbrev pub front_line : ServerId → Inst → List ℕ
front_line p front = codes "front " ++ decimal p ++ 32 ∷ decimal front ++ codes "\n"

-- the line with the number of servers whose promises or acceptances a server counted, and the number of servers that is
-- a majority
abbrev pub tally_line : List ℕ → ServerId → Inst → BallotNo → ℕ → ℕ → List ℕ
tally_line kind p i b count majority =
    kind ++ 32 ∷ decimal p ++ at_ballot i b ++ codes " count " ++ decimal count ++ codes " of " ++ decimal majority
    ++ codes "\n"

-- the reason why a message had no effect
abbrev pub reason_text : Trace → Reaction → List ℕ
reason_text w (Promised ballot) = codes "promised " ++ decimal ballot
reason_text w (Tries ballot) = codes "tries " ++ decimal ballot
reason_text w (LearnedBefore value) = codes "learned " ++ value_text w value
reason_text w Proposed = codes "proposed already"
reason_text w _ = []

-- the line with the reason why a message had no effect
abbrev pub ignored_line : Trace → Reaction → List ℕ
ignored_line w reaction = codes "ignored " ++ reason_text w reaction ++ codes "\n"

-- the line of the reply to a command, if there is a command
abbrev pub reply_line : Trace → Option Command → List ℕ
reply_line w None = []
reply_line w (Some command) = answer_line command.id (reply_of w command.id)

-- the line of a message and a server that neither heard nor lost it
abbrev pub unheard_line : MessageNo → Message → ServerId → List ℕ
unheard_line k x p = codes "unheard " ++ decimal k ++ 32 ∷ kind_text x ++ codes " to " ++ decimal p ++ codes "\n"

-- the line of a fact
abbrev pub fact_line : Trace → Fact → List ℕ
fact_line w (Refused refusal) = refused_line refusal
fact_line w (Promises p i b count majority) = tally_line (codes "promises") p i b count majority
fact_line w (Acceptances p i b count majority) = tally_line (codes "acceptances") p i b count majority
fact_line w (Ignored p x reaction) = ignored_line w reaction
fact_line w (FactLearned p i value) = learned_line w p i value
fact_line w (Sent k x) = sent_line w (k, x)
fact_line w (Front p front) = front_line p front
fact_line w (Executed p i value) = executed_line w p i value
fact_line w (Reply p i t) = reply_line w (command_at w t)
fact_line w (Unheard k x p) = unheard_line k x p
