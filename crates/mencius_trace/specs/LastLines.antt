-- The lines after the last event, and the whole text of a trace.
use Rattle.std.specs.Prelude.{Option, Some, None, ℕ, ◌+◌, Bool, false, List, [], ◌∷◌, ◌++◌, codes, decimal, ◌&&◌, not, if◌then◌else◌}
use Rattle.std.specs.Result.{result_unwrap_or}
use Rattle.std.specs.List.{enumerate_from, flat_map, list_any}
use Rattle.mencius_base.specs.Numbers.{ServerId, Inst, TicketNo, MessageNo}
use Rattle.mencius_base.specs.declared.event.Event.{Event}
use Rattle.mencius_base.specs.declared.message.Message.{Message}
use Rattle.mencius_base.specs.Members.{Membership, numbers_below}
use Rattle.mencius_base.specs.Message.{is_sent_to}
use Rattle.mencius_model.specs.Trace.{Line, Heard, Lost, Trace, sent_messages}
use Rattle.mencius_model.specs.Server.{done, front, waiting_tickets}
use Rattle.mencius_model.specs.Next.{is_loss, next}
use Rattle.mencius_trace.specs.declared.fact.Fact.{Fact}
use Rattle.mencius_trace.specs.declared.fact.Fact.TheVariants.{Unheard}
use Rattle.mencius_trace.specs.declared.view.View.{View}
use Rattle.mencius_trace.specs.Choice.{concerns, concerns_server, is_filtered}
use Rattle.mencius_trace.specs.EventLines.{event_lines, fact_rest}
use Rattle.mencius_trace.specs.Json.{server_json, servers_json}
use Rattle.mencius_trace.specs.Words.{ticket_text, tickets_text}

-- ---- each server

-- a space and the identity of the ticket's command, or nothing without a ticket
abbrev pub ticket_in : Trace → Option TicketNo → List ℕ
ticket_in w None = []
ticket_in w (Some t) = 32 ∷ ticket_text w t

-- the start of a server's line, with its front, the number of instances that it executed, and its next instance
abbrev pub progress_text : ServerId → Inst → ℕ → List ℕ
progress_text p front done =
    codes "server " ++ decimal p ++ codes " front " ++ decimal front ++ codes " executed " ++ decimal done
    ++ codes " next " ++ decimal done ++ codes " waiting"

-- the line of a server, with its front, its progress and the tickets that wait at it
abbrev pub server_line : Membership → Trace → ServerId → List ℕ
server_line m w p = progress_text p (front m w p) (done w p) ++ tickets_text w (waiting_tickets w p) ++ codes "\n"

-- the lines of a server in the form of the view, if the server's progress is chosen
abbrev pub chosen_server : View → List Inst → Membership → Trace → ServerId → List ℕ
chosen_server o is m w p =
    if concerns_server o is m w p then (if o.is_json then server_json m w p else server_line m w p) else []

-- the lines of each server
abbrev pub server_lines : View → List Inst → Membership → Trace → List ℕ
server_lines o is m w = flat_map (chosen_server o is m w) (numbers_below m.count)

-- ---- each message that may still be heard

-- whether a line says that p heard message k, or that message k was lost for p
abbrev pub is_settled_by : MessageNo → ServerId → Line → Bool
is_settled_by k p (Heard message server) = is_loss k p (Lost message server)
is_settled_by k p l = is_loss k p l

-- whether message k goes to p, and p neither heard nor lost it
abbrev pub is_unheard : Trace → MessageNo → Message → ServerId → Bool
is_unheard w k x p = is_sent_to p x && not (list_any (is_settled_by k p) w)

-- the line of a fact about the end of a trace, if the fact is chosen
abbrev pub last_line : View → List Inst → Membership → Trace → Fact → List ℕ
last_line o is m w f =
    if concerns o is m w f then (if o.is_json then codes "{" else []) ++ fact_rest o w f else []

-- the chosen line of message k for p, if it goes to p and p neither heard nor lost it
abbrev pub unheard_at : View → List Inst → Membership → Trace → MessageNo → Message → ServerId → List ℕ
unheard_at o is m w k x p = if is_unheard w k x p then last_line o is m w (Unheard k x p) else []

-- the chosen lines of a message, for the servers that neither heard nor lost it
abbrev pub unheard_lines : View → List Inst → Membership → Trace → MessageNo × Message → List ℕ
unheard_lines o is m w (k, x) = flat_map (unheard_at o is m w k x) (numbers_below m.count)

-- the chosen lines of all messages, for the servers that neither heard nor lost them
abbrev pub unheard_text : View → List Inst → Membership → Trace → List ℕ
unheard_text o is m w = flat_map (unheard_lines o is m w) (enumerate_from 0 (sent_messages w))

-- ---- the whole text

-- the chosen lines after the last event, first for the servers and then for the messages
abbrev pub closing_text : View → List Inst → Membership → Trace → List ℕ
closing_text o is m w = server_lines o is m w ++ unheard_text o is m w

-- the chosen lines of the events, from the one at `place` on, and the chosen lines after the last event
abbrev pub events_text : View → List Inst → Membership → Trace → ℕ → List Event → List ℕ
events_text o is m w place [] = closing_text o is m w
events_text o is m w place (e ∷ es) =
    event_lines o is m w place e ++ events_text o is m (result_unwrap_or (next m w e) w) (place + 1) es

-- the line of the number of servers
abbrev pub servers_line : ℕ → List ℕ
servers_line count = codes "servers " ++ decimal count ++ codes "\n"

-- the first line, which has the number of servers. A trace of which only some lines are chosen does not have it
abbrev pub first_line : View → Membership → List ℕ
first_line o m =
    if is_filtered o then [] else if o.is_json then servers_json m.count else servers_line m.count

-- the text of a trace of these servers and events in the form of the view
abbrev pub view_text : View → List Inst → Membership → List Event → List ℕ
view_text o is m es = first_line o m ++ events_text o is m [] 0 es

-- the view of the whole text
abbrev pub whole : View
whole = record { is_json = false; instance = None; command = None; server = None }

-- the whole text of a trace of these servers and events
abbrev pub trace_text : Membership → List Event → List ℕ
trace_text m es = view_text whole [] m es
