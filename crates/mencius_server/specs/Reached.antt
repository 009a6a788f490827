-- A server's state at a trace, and its part in an event of that trace.
use Rattle.std.specs.Prelude.{◌≡◌, List, length, map, Option}
use Rattle.mencius_base.specs.declared.event.Event.{Event}
use Rattle.mencius_base.specs.declared.message.Message.{Message}
use Rattle.mencius_base.specs.declared.refusal.Refusal.{Refusal}
use Rattle.mencius_base.specs.Members.{Membership, instances}
use Rattle.mencius_base.specs.Numbers.{ServerId}
use Rattle.mencius_base.specs.Outbox.{OutboxState}
use Rattle.mencius_model.specs.Trace.{Trace, messages_of}
use Rattle.mencius_model.specs.Server.{front}
use Rattle.mencius_model.specs.Next.{IsReached, lines, server_causes, first_cause, with_event}
use Rattle.coord_paxos.specs.Reached.{slot_at}
use Rattle.mencius_server.specs.State.{ServerState}

-- The state of server p at a trace. It has p's front and p's slot for each instance by that trace.
abbrev pub server_at : Membership → Trace → ServerId → ServerState
server_at m w p = record { members = m; id = p; front = front m w p; slots = map (slot_at m w p) instances }

-- The trace is reached, and `s` is the state of its server at that trace.
pub record IsAt (w : Trace) (s : ServerState) : Type 0 where
  pub reached : IsReached s.members w
  pub state : s ≡ server_at s.members w s.id

-- The first cause for which a server refuses an event, if any. It depends on the messages on the server's outbox and on
-- the limit of the outbox.
abbrev pub refusal_of : Trace → Event → ServerState → OutboxState → Option Refusal
refusal_of w e s o = first_cause (server_causes s.members w e (length o.messages) o.limit)

-- The server's part in an event. The server sends the messages `ms`, its state is then `after`, and it refuses the
-- event for the cause that `cause` gives for its outbox.
pub record IsEventPart (w : Trace) (e : Event) (s : ServerState) (ms : List Message) (after : ServerState)
    (cause : OutboxState → Option Refusal) : Type 0 where
  pub sent : ms ≡ messages_of (lines s.members w e)
  pub state : after ≡ server_at s.members (with_event s.members w e) s.id
  pub refusal : (o : OutboxState) → cause o ≡ refusal_of w e s o
