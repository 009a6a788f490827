-- The JSON objects of a trace. No text in them needs an escape, because names, keys and texts have no quotes and no
-- backslashes.
use Rattle.std.specs.Prelude.{ℕ, List, [], ◌++◌, codes, decimal, Option, Some, None}
use Rattle.std.specs.List.{flat_map}
use Rattle.mencius_base.specs.Members.{Membership, instances}
use Rattle.mencius_base.specs.Numbers.{ServerId, Inst, BallotNo, MessageNo, TicketNo}
use Rattle.mencius_base.specs.Refusal.{refusal_name}
use Rattle.mencius_base.specs.declared.command.Command.{Command}
use Rattle.mencius_base.specs.declared.command.CommandId.{CommandId}
use Rattle.mencius_base.specs.declared.event.Event.{Event}
use Rattle.mencius_base.specs.declared.message.Message.{Message}
use Rattle.mencius_base.specs.declared.message.Message.TheVariants.{Suggest, Skip, Accepted, Prepare, Promise, Propose, Learn}
use Rattle.mencius_base.specs.declared.message.Value.{Value}
use Rattle.mencius_base.specs.declared.message.Value.TheVariants.{Ticket}
use Rattle.mencius_base.specs.declared.message.Vote.{Vote}
use Rattle.mencius_base.specs.declared.refusal.Refusal.{Refusal}
use Rattle.mencius_format.specs.Texts.{event_text, id_text}
use Rattle.mencius_model.specs.Next.{server_of}
use Rattle.mencius_model.specs.Replies.{Answered, command_at, reply_of}
use Rattle.mencius_model.specs.Server.{done, front, waiting_at}
use Rattle.mencius_model.specs.Trace.{Trace}
use Rattle.mencius_trace.specs.declared.fact.Fact.{Fact}
use Rattle.mencius_trace.specs.declared.fact.Fact.TheVariants.{Refused, Promises, Acceptances, Ignored, Learned, Sent, Front, Executed, Reply, Unheard}
use Rattle.mencius_trace.specs.declared.reaction.Reaction.{Reaction}
use Rattle.mencius_trace.specs.declared.reaction.Reaction.TheVariants.{Promised, Tries, Learned as LearnedBefore, Proposed}
use Rattle.mencius_trace.specs.Effects.{instance_of}
use Rattle.mencius_trace.specs.Facts.{kind_text, value_text}
use Rattle.mencius_trace.specs.Words.{answer_text, ticket_text}

-- ---- fields, each after a comma

-- the fields of an instance and a ballot
abbrev pub ballot_json : Inst → BallotNo → List ℕ
ballot_json i b = codes ",\"instance\":" ++ decimal i ++ codes ",\"ballot\":" ++ decimal b

-- the fields of a server and an instance
abbrev pub place_json : ServerId → Inst → List ℕ
place_json p i = codes ",\"server\":" ++ decimal p ++ codes ",\"instance\":" ++ decimal i

-- the field of a value
abbrev pub value_json : Trace → Value → List ℕ
value_json w x = codes ",\"value\":\"" ++ value_text w x ++ codes "\""

-- the field of a vote
abbrev pub vote_json : Trace → Option Vote → List ℕ
vote_json w None = codes ",\"vote\":null"
vote_json w (Some x) = codes ",\"vote\":{\"ballot\":" ++ (decimal x.ballot ++ (value_json w x.value ++ codes "}"))

-- the field of a message's kind
abbrev pub kind_json : Message → List ℕ
kind_json x = codes ",\"kind\":\"" ++ kind_text x ++ codes "\""

-- the field of a reason
abbrev pub word_json : List ℕ → List ℕ
word_json word = codes ",\"reason\":\"" ++ word ++ codes "\""

-- the fields of a reason with a ballot
abbrev pub word_ballot_json : List ℕ → BallotNo → List ℕ
word_ballot_json word b = word_json word ++ codes ",\"ballot\":" ++ decimal b

-- the field of a command
abbrev pub command_json : CommandId → List ℕ
command_json id = codes ",\"command\":\"" ++ id_text id ++ codes "\""

-- the field of a reply
abbrev pub answer_json : Option Answered → List ℕ
answer_json reply = codes ",\"reply\":\"" ++ answer_text reply ++ codes "\""

-- the fields of the sender of a message that goes to all servers
abbrev pub to_all_json : ServerId → List ℕ
to_all_json from = codes ",\"from\":" ++ decimal from ++ codes ",\"to\":\"all\""

-- the fields of the sender and the addressee of a message that goes to one server
abbrev pub to_one_json : ServerId → ServerId → List ℕ
to_one_json from to = codes ",\"from\":" ++ decimal from ++ codes ",\"to\":" ++ decimal to

-- the fields of the sender of a message and of the servers that it goes to
abbrev pub way_json : Message → List ℕ
way_json (Suggest from inst ticket) = to_all_json from
way_json (Skip from first stop) = to_all_json from
way_json (Accepted from to inst ballot) = to_one_json from to
way_json (Prepare from inst ballot) = to_all_json from
way_json (Promise from to inst ballot vote) = to_one_json from to
way_json (Propose from inst ballot value) = to_all_json from
way_json (Learn from inst value) = to_all_json from

-- the fields of the content of a message
abbrev pub content_json : Trace → Message → List ℕ
content_json w (Suggest from inst ticket) = ballot_json inst 0 ++ value_json w (Ticket ticket)
content_json w (Skip from first stop) = codes ",\"first\":" ++ decimal first ++ codes ",\"stop\":" ++ decimal stop
content_json w (Accepted from to inst ballot) = ballot_json inst ballot
content_json w (Prepare from inst ballot) = ballot_json inst ballot
content_json w (Promise from to inst ballot vote) = ballot_json inst ballot ++ vote_json w vote
content_json w (Propose from inst ballot value) = ballot_json inst ballot ++ value_json w value
content_json w (Learn from inst value) = codes ",\"instance\":" ++ decimal inst ++ value_json w value

-- the fields of the reason why a message had no effect
abbrev pub reason_json : Trace → Reaction → List ℕ
reason_json w (Promised ballot) = word_ballot_json (codes "promised") ballot
reason_json w (Tries ballot) = word_ballot_json (codes "tries") ballot
reason_json w (LearnedBefore value) = word_json (codes "learned") ++ value_json w value
reason_json w Proposed = word_json (codes "proposed already")
reason_json w _ = []

-- the fields of a command and its reply, if there is a command
abbrev pub reply_json : Trace → Option Command → List ℕ
reply_json w None = []
reply_json w (Some command) = command_json command.id ++ answer_json (reply_of w command.id)

-- ---- objects

-- the fields of the number of servers whose promises or acceptances a server counted
abbrev pub tally_json : List ℕ → ServerId → Inst → BallotNo → ℕ → ℕ → List ℕ
tally_json kind p i b count majority =
    codes "\"fact\":\"" ++ kind ++ codes "\",\"server\":" ++ decimal p ++ ballot_json i b ++ codes ",\"count\":"
    ++ decimal count ++ codes ",\"majority\":" ++ decimal majority

-- the fields of a value that a server learned or executed
abbrev pub value_fact_json : List ℕ → Trace → ServerId → Inst → Value → List ℕ
value_fact_json kind w p i x = codes "\"fact\":\"" ++ kind ++ codes "\"" ++ place_json p i ++ value_json w x

-- the fields of a message that a server ignored. The instance of a Skip is the first that it gives up
abbrev pub ignored_json : Trace → ServerId → Message → Reaction → List ℕ
ignored_json w p x reaction =
    codes "\"fact\":\"ignored\"" ++ (place_json p (instance_of x) ++ (kind_json x ++ reason_json w reaction))

-- the fields of a message that was sent
abbrev pub sent_json : Trace → MessageNo → Message → List ℕ
sent_json w k x =
    (codes "\"fact\":\"sent\",\"message\":" ++ decimal k) ++ (kind_json x ++ (way_json x ++ content_json w x))

-- the fields of a message that a server neither heard nor lost
abbrev pub unheard_json : MessageNo → Message → ServerId → List ℕ
unheard_json k x p =
    (codes "\"fact\":\"unheard\",\"message\":" ++ decimal k) ++ (kind_json x ++ place_json p (instance_of x))

-- the fields of a refusal
abbrev pub refused_json : Refusal → List ℕ
refused_json refusal = codes "\"fact\":\"refused\",\"refusal\":\"" ++ refusal_name refusal ++ codes "\""

-- the fields of a front
abbrev pub front_json : ServerId → Inst → List ℕ
front_json p i = codes "\"fact\":\"front\"" ++ place_json p i

-- the fields of the reply to the command of a ticket
abbrev pub reply_fact_json : Trace → ServerId → Inst → TicketNo → List ℕ
reply_fact_json w p i t = codes "\"fact\":\"reply\"" ++ place_json p i ++ reply_json w (command_at w t)

-- the fields of a fact
abbrev pub fact_json : Trace → Fact → List ℕ
fact_json w (Refused refusal) = refused_json refusal
fact_json w (Promises p i b count majority) = tally_json (codes "promises") p i b count majority
fact_json w (Acceptances p i b count majority) = tally_json (codes "acceptances") p i b count majority
fact_json w (Ignored p x reaction) = ignored_json w p x reaction
fact_json w (Learned p i value) = value_fact_json (codes "learned") w p i value
fact_json w (Sent k x) = sent_json w k x
fact_json w (Front p i) = front_json p i
fact_json w (Executed p i value) = value_fact_json (codes "executed") w p i value
fact_json w (Reply p i t) = reply_fact_json w p i t
fact_json w (Unheard k x p) = unheard_json k x p

-- the object of an event, with its place among all events
abbrev pub event_json : ℕ → Event → List ℕ
event_json place e =
    codes "{\"event\":" ++ decimal place ++ codes ",\"fact\":\"event\",\"server\":" ++ decimal (server_of e)
    ++ codes ",\"text\":\"" ++ event_text e ++ codes "\"}\n"

-- the object of the number of servers
abbrev pub servers_json : ℕ → List ℕ
servers_json count = codes "{\"fact\":\"servers\",\"servers\":" ++ decimal count ++ codes "}\n"

-- the start of the object of a server
abbrev pub server_start : ServerId → List ℕ
server_start p = codes "{\"fact\":\"server\",\"server\":" ++ decimal p

-- the field of a front
abbrev pub front_field : Inst → List ℕ
front_field front = codes ",\"front\":" ++ decimal front

-- the fields of the number of executed instances and of the next one
abbrev pub done_fields : ℕ → List ℕ
done_fields done = codes ",\"executed\":" ++ decimal done ++ codes ",\"next\":" ++ decimal done

-- the object of the progress of a server
unfoldable pub progress_json : ServerId → Inst → ℕ → List ℕ
progress_json p front done = server_start p ++ (front_field front ++ (done_fields done ++ codes "}\n"))

-- the field of the command of a ticket
abbrev pub ticket_json : Trace → TicketNo → List ℕ
ticket_json w t = codes ",\"command\":\"" ++ ticket_text w t ++ codes "\""

-- the object of the ticket that waits at p because p lost instance i, if there is one
abbrev pub waiting_json : Trace → ServerId → Inst → Option TicketNo → List ℕ
waiting_json w p i None = []
waiting_json w p i (Some t) =
    codes "{\"fact\":\"waiting\"" ++ (place_json p i ++ (ticket_json w t ++ codes "}\n"))

-- the objects of a server, which are its progress and the tickets that wait at it
abbrev pub server_json : Membership → Trace → ServerId → List ℕ
server_json m w p =
    progress_json p (front m w p) (done w p) ++ flat_map (λ i. waiting_json w p i (waiting_at w p i)) instances
