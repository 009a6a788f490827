-- The laws about a server at a reached trace, about the servers that may hear its messages, and about events that leave
-- servers as they were.
use Rattle.std.specs.Prelude.{◌≡◌, ◌<◌, ◌≤◌, IsTrue, List, Ok, Some, length, slice_get, true}
use Rattle.std.specs.List.{All}
use Rattle.mencius_base.specs.Limits.{instance_count, most_servers}
use Rattle.mencius_base.specs.Members.{Membership}
use Rattle.mencius_base.specs.Message.{is_sent_to, is_for}
use Rattle.mencius_base.specs.Numbers.{Inst, MessageNo, ServerId, TicketNo}
use Rattle.mencius_base.specs.Outbox.{outbox_full}
use Rattle.mencius_base.specs.declared.command.Command.{Command}
use Rattle.mencius_base.specs.declared.event.Event.{Event}
use Rattle.mencius_base.specs.declared.event.Event.TheVariants.{Deliver, Execute, Lose, Retry, Submit, Suspect}
use Rattle.mencius_base.specs.declared.message.Message.{Message}
use Rattle.mencius_model.specs.Trace.{Trace, sent_messages, submitted_commands}
use Rattle.mencius_model.specs.Instance.{learned_value}
use Rattle.mencius_model.specs.Next.{IsReached, learned_count, lines, next, server_of}
use Rattle.mencius_model.specs.Server.{front, waiting_tickets}
use Rattle.mencius_server.specs.Machine.{after_hearing, after_retry, after_submit_at, after_suspect, first_waiting, free_at, learned_on, retry_cause, retry_sent, sent_on, submit_cause, submit_sent, suspect_cause, suspect_sent}
use Rattle.mencius_server.specs.Reached.{IsAt, IsEventPart, server_at}
use Rattle.mencius_server.specs.State.{ServerState, slot}

-- The front of a server at a reached trace is its front by that trace.
abbrev pub FrontAnswers : Type 0
FrontAnswers = (w : Trace) (s : ServerState) → IsAt w s → s.front ≡ front s.members w s.id

-- A server at a reached trace has learned, at each instance, the value that it learned there by that trace.
abbrev pub LearnedAnswers : Type 0
LearnedAnswers =
    (w : Trace) (s : ServerState) → IsAt w s → (i : Inst) → i < instance_count → (slot s i).learned
    ≡ learned_value w s.id i

-- The first waiting ticket of a server at a reached trace is the ticket that waits there first by that trace.
abbrev pub WaitingAnswers : Type 0
WaitingAnswers = (w : Trace) (s : ServerState) → IsAt w s → first_waiting s ≡ slice_get (waiting_tickets w s.id) 0

-- At a reached trace, suggesting the next ticket of the trace is the server's part in the submission of any command.
abbrev pub SubmitIsEvent : Type 0
SubmitIsEvent =
    (w : Trace) (s : ServerState) (x : Command) (t : TicketNo) → IsAt w s → t ≡ length (submitted_commands w)
    → IsEventPart w (Submit s.id x) s (submit_sent s t (free_at s)) (after_submit_at s t (free_at s))
    (λ o. submit_cause o (free_at s))

-- At a reached trace, hearing a message that was sent and is for the server is the server's part in its delivery.
abbrev pub HearIsEvent : Type 0
HearIsEvent =
    (w : Trace) (s : ServerState) (k : MessageNo) (x : Message) → IsAt w s → IsTrue (is_for s.members s.id x)
    → slice_get (sent_messages w) k ≡ Some x
    → IsEventPart w (Deliver k s.id) s (sent_on s x) (after_hearing s x) (λ o. outbox_full o (length (sent_on s x)))

-- At a reached trace, hearing a message that was sent and is for the server teaches it the same number of instances as
-- the delivery of the message.
abbrev pub HearLearnsAsEvent : Type 0
HearLearnsAsEvent =
    (w : Trace) (s : ServerState) (k : MessageNo) (x : Message) → IsAt w s → IsTrue (is_for s.members s.id x)
    → slice_get (sent_messages w) k ≡ Some x
    → learned_on s x ≡ learned_count (lines s.members w (Deliver k s.id))

-- At a reached trace, starting first phases at the covered instances of q is the part of a member in its suspicion of
-- q.
abbrev pub SuspectIsEvent : Type 0
SuspectIsEvent =
    (w : Trace) (s : ServerState) (q : ServerId) → IsAt w s → s.id < s.members.count
    → IsEventPart w (Suspect s.id q) s (suspect_sent s q) (after_suspect s q) (λ o. suspect_cause s o q)

-- At a reached trace, suggesting the first waiting ticket is the server's part in the retry.
abbrev pub RetryIsEvent : Type 0
RetryIsEvent =
    (w : Trace) (s : ServerState) → IsAt w s
    → IsEventPart w (Retry s.id) s (retry_sent s (first_waiting s)) (after_retry s (first_waiting s))
    (λ o. retry_cause s o (first_waiting s))

-- The message meets the requirement of `hear` at every server that it goes to.
abbrev pub IsHearable : Membership → Message → Type 0
IsHearable m x = (q : ServerId) → q < m.count → is_sent_to q x ≡ true → IsTrue (is_for m q x)

-- Each of the messages meets the requirement of `hear` at every server that it goes to.
abbrev pub AreHearable : Membership → List Message → Type 0
AreHearable m xs = All (IsHearable m) xs

-- All messages of a submission meet the requirement of `hear` at every server that they go to. The server that sends
-- them need not be at a trace.
abbrev pub SubmitAddresses : Type 0
SubmitAddresses =
    (s : ServerState) → s.id < s.members.count → (t : TicketNo) → AreHearable s.members (submit_sent s t (free_at s))

-- All messages that a server sends when it hears a message for it meet the requirement of `hear` at every server that
-- they go to. This requires at most seven servers. The server that sends the messages need not be at a trace.
abbrev pub HearAddresses : Type 0
HearAddresses =
    (s : ServerState) → s.id < s.members.count → s.members.count ≤ most_servers → (x : Message)
    → IsTrue (is_for s.members s.id x) → AreHearable s.members (sent_on s x)

-- All messages of a suspicion meet the requirement of `hear` at every server that they go to. The server that sends
-- them need not be at a trace.
abbrev pub SuspectAddresses : Type 0
SuspectAddresses =
    (s : ServerState) → s.id < s.members.count → (q : ServerId) → AreHearable s.members (suspect_sent s q)

-- All messages of a retry meet the requirement of `hear` at every server that they go to. The server that sends them
-- need not be at a trace.
abbrev pub RetryAddresses : Type 0
RetryAddresses = (s : ServerState) → s.id < s.members.count → AreHearable s.members (retry_sent s (first_waiting s))

-- An accepted event at a reached trace leaves every server as it was, except the server of the event.
abbrev pub LeavesOthers : Type 0
LeavesOthers =
    (m : Membership) (w v : Trace) (e : Event) → IsReached m w → next m w e ≡ Ok v → (q : ServerId)
    → (server_of e ≡ q → ⊥) → server_at m v q ≡ server_at m w q

-- An accepted loss leaves every server as it was.
abbrev pub LossLeavesAll : Type 0
LossLeavesAll =
    (m : Membership) (w v : Trace) (k : MessageNo) (p : ServerId) → next m w (Lose k p) ≡ Ok v → (q : ServerId)
    → server_at m v q ≡ server_at m w q

-- An accepted execution leaves every server as it was.
abbrev pub ExecutionLeavesAll : Type 0
ExecutionLeavesAll =
    (m : Membership) (w v : Trace) (p : ServerId) → next m w (Execute p) ≡ Ok v → (q : ServerId)
    → server_at m v q ≡ server_at m w q
