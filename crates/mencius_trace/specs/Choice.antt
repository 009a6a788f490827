-- The choice of the lines of a trace. `is` has the instances that the chosen command was suggested for.
use Rattle.std.specs.Prelude.{Bool, true, false, List, Option, Some, None, ◌==◌, ◌&&◌, ◌||◌, is_some, nat_lt, slice_get}
use Rattle.std.specs.List.{list_any}
use Rattle.std.specs.Option.{option_map_or}
use Rattle.mencius_base.specs.Command.{is_same_id}
use Rattle.mencius_base.specs.Limits.{instance_count}
use Rattle.mencius_base.specs.Members.{Membership}
use Rattle.mencius_base.specs.Message.{is_sent_to}
use Rattle.mencius_base.specs.Numbers.{ServerId, Inst, MessageNo}
use Rattle.mencius_base.specs.declared.command.CommandId.{CommandId}
use Rattle.mencius_base.specs.declared.event.Event.{Event}
use Rattle.mencius_base.specs.declared.event.Event.TheVariants.{Submit, Deliver, Lose, Suspect}
use Rattle.mencius_base.specs.declared.message.Message.{Message as MessageOf}
use Rattle.mencius_base.specs.declared.message.Message.TheVariants.{Suggest, Skip, Accepted, Prepare, Promise, Propose, Learn}
use Rattle.mencius_cluster.specs.Answers.{of_member}
use Rattle.mencius_model.specs.Next.{server_of}
use Rattle.mencius_model.specs.Rules.{is_skipped_by}
use Rattle.mencius_model.specs.Server.{waiting_at}
use Rattle.mencius_model.specs.Trace.{Trace, sent_messages}
use Rattle.mencius_trace.specs.declared.fact.Fact.{Fact}
use Rattle.mencius_trace.specs.declared.fact.Fact.TheVariants.{Refused, Promises, Acceptances, Ignored, Learned, Sent, Front, Executed, Reply, Unheard}
use Rattle.mencius_trace.specs.declared.topic.Topic.{Topic}
use Rattle.mencius_trace.specs.declared.topic.Topic.TheVariants.{Nothing, Submission, Instance, Message, Waiting}
use Rattle.mencius_trace.specs.declared.view.View.{View}
use Rattle.mencius_trace.specs.Effects.{instance_of}

-- ---- what a line is about

-- the topic of an event that names message k
abbrev pub message_topic : Trace → MessageNo → Topic
message_topic w k = option_map_or Message (slice_get (sent_messages w) k) Nothing

-- the topic of an event
abbrev pub event_topic : Trace → Event → Topic
event_topic w (Submit p command) = Submission command.id
event_topic w (Deliver k p) = message_topic w k
event_topic w (Lose k p) = message_topic w k
event_topic w _ = Nothing

-- the topic of a fact
abbrev pub fact_topic : Fact → Topic
fact_topic (Refused refusal) = Nothing
fact_topic (Promises p i b count majority) = Instance i
fact_topic (Acceptances p i b count majority) = Instance i
fact_topic (Ignored p x reaction) = Message x
fact_topic (Learned p i value) = Instance i
fact_topic (Sent k x) = Message x
fact_topic (Front p front) = Instance front
fact_topic (Executed p i value) = Instance i
fact_topic (Reply p i t) = Instance i
fact_topic (Unheard k x p) = Message x

-- whether a message is about instance i. A Skip is about the instances that it gives up
abbrev pub is_message_about : Membership → Inst → MessageOf → Bool
is_message_about m i (Skip from first stop) = is_skipped_by m i (Skip from first stop)
is_message_about m i x = instance_of x == i

-- whether a command waits at p because p lost instance i
abbrev pub is_waiting_at : Membership → Trace → ServerId → Inst → Bool
is_waiting_at m w p i = nat_lt i instance_count && is_some (of_member m p (waiting_at w p i))

-- whether a topic concerns instance i
abbrev pub is_about : Membership → Trace → Inst → Topic → Bool
is_about m w i Nothing = false
is_about m w i (Submission id) = false
is_about m w i (Instance j) = j == i
is_about m w i (Message x) = is_message_about m i x
is_about m w i (Waiting p) = is_waiting_at m w p i

-- whether a topic concerns a command, which was suggested for the instances `is`
abbrev pub is_of_command : Membership → Trace → CommandId → List Inst → Topic → Bool
is_of_command m w id is (Submission given) = is_same_id given id
is_of_command m w id is topic = list_any (λ i. is_about m w i topic) is

-- ---- the servers of a line

-- whether an event happens at p or suspects p
abbrev pub is_event_at : ServerId → Event → Bool
is_event_at p (Suspect q suspected) = q == p || suspected == p
is_event_at p e = server_of e == p

-- the server that sends a message
abbrev pub sender : MessageOf → ServerId
sender (Suggest from inst ticket) = from
sender (Skip from first stop) = from
sender (Accepted from to inst ballot) = from
sender (Prepare from inst ballot) = from
sender (Promise from to inst ballot vote) = from
sender (Propose from inst ballot value) = from
sender (Learn from inst value) = from

-- whether a fact happens at p. A message that was sent concerns its sender and the servers that it goes to
abbrev pub is_fact_at : ServerId → Fact → Bool
is_fact_at p (Refused refusal) = false
is_fact_at p (Promises q i b count majority) = q == p
is_fact_at p (Acceptances q i b count majority) = q == p
is_fact_at p (Ignored q x reaction) = q == p
is_fact_at p (Learned q i value) = q == p
is_fact_at p (Sent k x) = sender x == p || is_sent_to p x
is_fact_at p (Front q front) = q == p
is_fact_at p (Executed q i value) = q == p
is_fact_at p (Reply q i t) = q == p
is_fact_at p (Unheard k x q) = q == p

-- ---- the choice

-- whether only some of the lines are printed
abbrev pub is_filtered : View → Bool
is_filtered o = is_some o.instance || (is_some o.command || is_some o.server)

-- whether a topic concerns the chosen instance. Without one, it does
abbrev pub fits_instance : Membership → Trace → Option Inst → Topic → Bool
fits_instance m w None topic = true
fits_instance m w (Some i) topic = is_about m w i topic

-- whether a topic concerns the chosen command. Without one, it does
abbrev pub fits_command : Membership → Trace → Option CommandId → List Inst → Topic → Bool
fits_command m w None is topic = true
fits_command m w (Some id) is topic = is_of_command m w id is topic

-- whether a topic concerns the chosen instance and the chosen command
abbrev pub is_chosen : View → List Inst → Membership → Trace → Topic → Bool
is_chosen o is m w topic = fits_instance m w o.instance topic && fits_command m w o.command is topic

-- whether the chosen server passes a test. Without one, the test passes
abbrev pub fits_server : Option ServerId → (ServerId → Bool) → Bool
fits_server None test = true
fits_server (Some p) test = test p

-- whether a fact concerns all that is chosen
abbrev pub concerns : View → List Inst → Membership → Trace → Fact → Bool
concerns o is m w f = fits_server o.server (λ p. is_fact_at p f) && is_chosen o is m w (fact_topic f)

-- whether an event concerns all that is chosen
abbrev pub concerns_event : View → List Inst → Membership → Trace → Event → Bool
concerns_event o is m w e = fits_server o.server (λ p. is_event_at p e) && is_chosen o is m w (event_topic w e)

-- whether the progress of server q concerns all that is chosen. It concerns a command that waits there
abbrev pub concerns_server : View → List Inst → Membership → Trace → ServerId → Bool
concerns_server o is m w q = fits_server o.server (λ p. q == p) && is_chosen o is m w (Waiting q)
