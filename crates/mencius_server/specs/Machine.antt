-- The messages that each call on a server sends, the number of instances that it teaches, and the server after it, by
-- the server's state alone. They hold for all messages that the server may have heard. A law says that, at a reached
-- trace, they are the server's part in the event (`laws::events`).
use Rattle.std.specs.Prelude.{◌≡◌, ℕ, ◌+◌, ◌<◌, ◌≤◌, Bool, true, false, List, [], ◌∷◌, ◌++◌, Option, Some, None, ◌==◌, nat_lt, if◌then◌else◌, ◌&&◌, is_none, length, map, not, slice_get}
use Rattle.std.specs.List.{count_by, filter, filter_map, find, list_any}
use Rattle.std.specs.Option.{option_map_or}
use Rattle.mencius_base.specs.declared.message.Message.{Message}
use Rattle.mencius_base.specs.declared.message.Message.TheVariants.{Suggest, Skip, Accepted, Prepare, Promise, Propose, Learn}
use Rattle.mencius_base.specs.declared.message.Value.{Value}
use Rattle.mencius_base.specs.declared.message.Value.TheVariants.{Noop, Ticket}
use Rattle.mencius_base.specs.declared.message.Vote.{Vote}
use Rattle.mencius_base.specs.Members.{Membership, ballot_of, owner, instances, first_owned}
use Rattle.coord_paxos.specs.SlotState.{SlotState}
use Rattle.coord_paxos.specs.Slot.{after_accept, after_begin, after_prepare, after_promise, after_acceptance, after_learn, prepare_answer, promise_answer, acceptance_answer}
use Rattle.mencius_base.specs.declared.refusal.Refusal.{Refusal}
use Rattle.mencius_base.specs.declared.refusal.Refusal.TheVariants.{InstancesFull, MessagesFull, NothingToRevoke, NothingWaiting, RoundsFull, SelfSuspect}
use Rattle.mencius_base.specs.Outbox.{OutboxState, is_too_many, outbox_full}
use Rattle.mencius_model.specs.Server.{ticket_of}
use Rattle.mencius_model.specs.Trace.{Line, messages_of}
use Rattle.mencius_model.specs.Next.{first_cause, learned_count}
use Rattle.mencius_model.specs.Rules.{acceptance_lines, answer_lines, decision_lines, is_free_from, is_open_from, is_skipped_by, learning_lines, next_round_from, own_skip_lines, proposal_lines, reach_from, suggestion, is_noop}
use Rattle.mencius_server.specs.State.{ServerState, slot, with_slot, with_slot_and_front}
use Rattle.mencius_base.specs.Limits.{greatest_round, instance_count}
use Rattle.mencius_base.specs.Numbers.{BallotNo, Inst, ServerId, TicketNo}

-- The front after the server hears a suggestion at instance i. If i is above the front, the new front is the first own
-- instance above i.
abbrev pub next_front : ServerState → Inst → Inst
next_front s i = if nat_lt s.front i then first_owned s.members s.id (i + 1) else s.front

-- The Skip that the server sends when it hears a suggestion at instance i, if i is above its front.
abbrev pub own_skip : ServerState → Inst → List Message
own_skip s i = messages_of (own_skip_lines s.members s.id s.front i)

-- The acceptance that the server sends to q when it hears a Propose of q at ballot b of instance i, if it accepts.
abbrev pub propose_sent : ServerState → ServerId → Inst → BallotNo → List Message
propose_sent s q i b = messages_of (acceptance_lines s.id q i b (slot s i).promised)

-- The server after it hears a Propose of the value x at ballot b of instance i.
abbrev pub after_propose : ServerState → Inst → BallotNo → Value → ServerState
after_propose s i b x = with_slot s i (after_accept (slot s i) b x)

-- The messages that the server sends when it hears a suggestion of q at instance i. It sends a Skip if one is due, and
-- then an acceptance at ballot 0 if it accepts.
abbrev pub suggest_sent : ServerState → ServerId → Inst → List Message
suggest_sent s q i = own_skip s i ++ propose_sent s q i 0

-- The server after it hears a suggestion of the ticket t at instance i. Its slot of i is as after a Propose of t at
-- ballot 0. If i is above its front, the front moves past i.
abbrev pub after_suggest : ServerState → Inst → TicketNo → ServerState
after_suggest s i t = record (after_propose s i 0 (Ticket t)) { front = next_front s i }

-- The message that the server sends when it hears a Prepare of q at ballot b of instance i, if any.
abbrev pub prepare_sent : ServerState → ServerId → Inst → BallotNo → List Message
prepare_sent s q i b = messages_of (answer_lines s.id q i b (prepare_answer (slot s i) b))

-- The server after it hears a Prepare at ballot b of instance i.
abbrev pub after_prepare_at : ServerState → Inst → BallotNo → ServerState
after_prepare_at s i b = with_slot s i (after_prepare (slot s i) b)

-- The Propose that the server sends when it hears a promise of q at ballot b of instance i with the vote x, if a
-- proposal is due.
abbrev pub promise_sent : ServerState → ServerId → Inst → BallotNo → Option Vote → List Message
promise_sent s q i b x = messages_of (proposal_lines s.id i b (promise_answer (slot s i) q b x))

-- The server after it hears a promise of q at ballot b of instance i with the vote x.
abbrev pub after_promise_at : ServerState → ServerId → Inst → BallotNo → Option Vote → ServerState
after_promise_at s q i b x = with_slot s i (after_promise (slot s i) q b x)

-- The lines that an acceptance of q at ballot b of instance i adds if it decides a value. By these lines, the server
-- learns the value and sends Learn.
abbrev pub decided_on : ServerState → ServerId → Inst → BallotNo → List Line
decided_on s q i b = decision_lines s.id i (acceptance_answer (slot s i) q b)

-- The Learn that the server sends when it hears an acceptance of q at ballot b of instance i, if the acceptance decides
-- a value.
abbrev pub accepted_sent : ServerState → ServerId → Inst → BallotNo → List Message
accepted_sent s q i b = messages_of (decided_on s q i b)

-- The server after it hears an acceptance of q at ballot b of instance i.
abbrev pub after_accepted : ServerState → ServerId → Inst → BallotNo → ServerState
after_accepted s q i b = with_slot s i (after_acceptance (slot s i) q b)

-- The server after it hears a Learn of the value x at instance i.
abbrev pub after_learn_at : ServerState → Inst → Value → ServerState
after_learn_at s i x = with_slot s i (after_learn (slot s i) x)

-- Whether q's Skip from `first` to `stop` gives up instance j.
abbrev pub is_skipped : Membership → ServerId → Inst → Inst → Inst → Bool
is_skipped m q first stop j = is_skipped_by m j (Skip q first stop)

-- Whether q's Skip from `first` to `stop` gives up instance j and the slot s of this instance is unlearned.
abbrev pub is_newly_skipped_slot : Membership → ServerId → Inst → Inst → Inst → SlotState → Bool
is_newly_skipped_slot m q first stop j s = is_skipped_by m j (Skip q first stop) && is_none s.learned

-- The slot s of instance j after q's Skip from `first` to `stop` is heard.
abbrev pub slot_after_skip : Membership → ServerId → Inst → Inst → Inst → SlotState → SlotState
slot_after_skip m q first stop j s = if is_skipped m q first stop j then after_learn s Noop else s

-- The number of instances that q's Skip from `first` to `stop` gives up and that the server has not learned.
abbrev pub newly_skipped_count : ServerState → ServerId → Inst → Inst → ℕ
newly_skipped_count s q first stop = count_by (λ j. is_newly_skipped_slot s.members q first stop j (slot s j)) instances

-- The server after it hears q's Skip from `first` to `stop`.
abbrev pub after_skip : ServerState → ServerId → Inst → Inst → ServerState
after_skip s q first stop =
    record s { slots = map (λ j. slot_after_skip s.members q first stop j (slot s j)) instances }

-- The messages that the server sends when it hears a message.
abbrev pub sent_on : ServerState → Message → List Message
sent_on s (Suggest from inst ticket) = suggest_sent s from inst
sent_on s (Skip from first stop) = []
sent_on s (Accepted from to inst ballot) = accepted_sent s from inst ballot
sent_on s (Prepare from inst ballot) = prepare_sent s from inst ballot
sent_on s (Promise from to inst ballot vote) = promise_sent s from inst ballot vote
sent_on s (Propose from inst ballot value) = propose_sent s from inst ballot
sent_on s (Learn from inst value) = []

-- The server after it hears a message.
abbrev pub after_hearing : ServerState → Message → ServerState
after_hearing s (Suggest from inst ticket) = after_suggest s inst ticket
after_hearing s (Skip from first stop) = after_skip s from first stop
after_hearing s (Accepted from to inst ballot) = after_accepted s from inst ballot
after_hearing s (Prepare from inst ballot) = after_prepare_at s inst ballot
after_hearing s (Promise from to inst ballot vote) = after_promise_at s from inst ballot vote
after_hearing s (Propose from inst ballot value) = after_propose s inst ballot value
after_hearing s (Learn from inst value) = after_learn_at s inst value

-- The number of instances that the server learns when it hears a message.
abbrev pub learned_on : ServerState → Message → ℕ
learned_on s (Accepted from to inst ballot) = learned_count (decided_on s from inst ballot)
learned_on s (Skip from first stop) = newly_skipped_count s from first stop
learned_on s (Learn from inst value) = learned_count (learning_lines s.id inst value (slot s inst).learned)
learned_on s _ = 0

-- The server `old` heard the message x and became `new`. It put its messages on the outbox and learned n instances.
pub record IsHeard (old new : ServerState) (out out_new : OutboxState) (x : Message) (n : ℕ) : Type 0 where
  pub sent : out_new.messages ≡ out.messages ++ sent_on old x
  pub after : new ≡ after_hearing old x
  pub learned : n ≡ learned_on old x

-- The server q that answered a Prepare or a Propose is a member, and the instance i of its answer exists.
pub record IsAnswer (s : ServerState) (q : ServerId) (i : Inst) : Type 0 where
  pub member : q < s.members.count
  pub small : i < instance_count

-- Whether i is an own unlearned instance at or above the server's front.
abbrev pub is_free_at : ServerState → Inst → Bool
is_free_at s i = is_free_from s.members s.id s.front i (slot s i).learned

-- The instance i exists, and the server may suggest a ticket there.
pub record IsFree (s : ServerState) (i : Inst) : Type 0 where
  pub small : i < instance_count
  pub free : is_free_at s i ≡ true

-- The lowest instance where the server may suggest a ticket, if any.
abbrev pub free_at : ServerState → Option Inst
free_at s = find (is_free_at s) instances

-- The server after it suggests the ticket t at instance i. Its front is then its next own instance after i.
abbrev pub after_submit : ServerState → Inst → TicketNo → ServerState
after_submit s i t = with_slot_and_front s i (record (slot s i) { proposal = Some (Ticket t) }) (i + s.members.count)

-- A refused call left the server and the messages on the outbox as they were. The outbox may have more room.
pub record IsUndone (old new : ServerState) (before after : OutboxState) : Type 0 where
  pub server : new ≡ old
  pub messages : after.messages ≡ before.messages
  pub room : before.room ≤ after.room

-- A call kept the server's membership and number, and the limit of the outbox.
pub record SameServerAndLimit (old new : ServerState) (before after : OutboxState) : Type 0 where
  pub members : new.members ≡ old.members
  pub id : new.id ≡ old.id
  pub limit : after.limit ≡ before.limit

-- The suggestion of the ticket t at the free instance, if there is a free instance.
abbrev pub submit_sent : ServerState → TicketNo → Option Inst → List Message
submit_sent s t free = messages_of (suggestion s.id free t)

-- The server after it suggests the ticket t at the free instance. Without a free instance, it stays as it is.
abbrev pub after_submit_at : ServerState → TicketNo → Option Inst → ServerState
after_submit_at s t None = s
after_submit_at s t (Some i) = after_submit s i t

-- The cause for which a suggestion is refused, if any, apart from a lack of memory. Either no instance is free, or the
-- outbox is full.
abbrev pub submit_cause : OutboxState → Option Inst → Option Refusal
submit_cause o None = Some InstancesFull
submit_cause o (Some i) = outbox_full o 1

-- The ticket that p suggested at instance i, if p owns i and the proposal in its slot s is a ticket.
abbrev pub suggested_in : Membership → ServerId → Inst → SlotState → Option TicketNo
suggested_in m p i s = if owner m i == p then ticket_of s.proposal else None

-- The ticket that the server suggested at instance i, if i is its own instance and it suggested a ticket there.
abbrev pub suggested_at : ServerState → Inst → Option TicketNo
suggested_at s i = suggested_in s.members s.id i (slot s i)

-- Whether the second argument is the ticket t.
abbrev pub is_ticket : TicketNo → Option TicketNo → Bool
is_ticket t None = false
is_ticket t (Some u) = u == t

-- Whether j is above i and the server suggested the ticket t at instance j.
abbrev pub is_suggested_again : ServerState → TicketNo → Inst → Inst → Bool
is_suggested_again s t i j = nat_lt i j && is_ticket t (suggested_at s j)

-- The ticket that was suggested at instance i, if it waits. It waits if the server learned no-op at i and suggested the
-- ticket at no later instance.
abbrev pub own_waiting_of : ServerState → Inst → Option TicketNo → Option TicketNo
own_waiting_of s i None = None
own_waiting_of s i (Some t) =
    if is_noop (slot s i).learned && not (list_any (is_suggested_again s t i) instances) then Some t else None

-- The ticket that waits because it lost instance i, if any.
abbrev pub own_waiting_at : ServerState → Inst → Option TicketNo
own_waiting_at s i = own_waiting_of s i (suggested_at s i)

-- The ticket that waits first, in rising order of instances, if any.
abbrev pub first_waiting : ServerState → Option TicketNo
first_waiting s = slice_get (filter_map (own_waiting_at s) instances) 0

-- The suggestion that a retry sends, if a ticket waits and an instance is free.
abbrev pub retry_sent : ServerState → Option TicketNo → List Message
retry_sent s None = []
retry_sent s (Some t) = submit_sent s t (free_at s)

-- The server after a retry. It stays as it is if no ticket waits or no instance is free.
abbrev pub after_retry : ServerState → Option TicketNo → ServerState
after_retry s None = s
after_retry s (Some t) = after_submit_at s t (free_at s)

-- The cause for which a retry is refused, if any, apart from a lack of memory. Either no ticket waits, or the
-- suggestion of the waiting ticket is refused.
abbrev pub retry_cause : ServerState → OutboxState → Option TicketNo → Option Refusal
retry_cause s o None = Some NothingWaiting
retry_cause s o (Some t) = submit_cause o (free_at s)

-- Whether q owns instance i, i is below `stop`, and the slot s of this instance is unlearned.
abbrev pub is_covered_in : Membership → ServerId → Inst → Inst → SlotState → Bool
is_covered_in m q stop i s = (owner m i == q && nat_lt i stop) && is_none s.learned

-- The round after the rounds of the tried ballot and the promised ballot of a slot.
abbrev pub next_round_of : Membership → SlotState → ℕ
next_round_of m s = next_round_from m s.trying s.promised

-- The ballot that server p leads in the next round of a slot.
abbrev pub next_ballot : Membership → ServerId → SlotState → BallotNo
next_ballot m p s = ballot_of m (next_round_of m s) p

-- The Prepare of p's next first phase at instance i, whose slot is s.
abbrev pub next_prepare : Membership → ServerId → Inst → SlotState → Message
next_prepare m p i s = Prepare p i (next_ballot m p s)

-- The slot after server p starts its next first phase there.
abbrev pub with_next_phase : Membership → ServerId → SlotState → SlotState
with_next_phase m p s = after_begin s (next_ballot m p s)

-- The slot s of instance i after p's suspicion of q. If q owns i, i is below `reach`, and the slot is unlearned, p
-- starts a first phase there.
abbrev pub slot_after_suspect : Membership → ServerId → ServerId → Inst → Inst → SlotState → SlotState
slot_after_suspect m p q reach i s = if is_covered_in m q reach i s then with_next_phase m p s else s

-- Whether q owns instance i and the server has not learned it.
abbrev pub is_open_at : ServerState → ServerId → Inst → Bool
is_open_at s q i = is_open_from s.members q i (slot s i).learned

-- The lowest instance of q that the server has not learned, if any.
abbrev pub first_open_at : ServerState → ServerId → Option Inst
first_open_at s q = find (is_open_at s q) instances

-- The place below which a suspicion with this reach covers open instances. It is 0 if the suspicion covers none.
abbrev pub stop_of : Option Inst → Inst
stop_of reach = option_map_or (λ last. last + 1) reach 0

-- The place below which the server's suspicion of q covers open instances. It is 0 if the suspicion covers none.
abbrev pub reach_at : ServerState → ServerId → Inst
reach_at s q = stop_of (reach_from s.members s.front (first_open_at s q))

-- Whether the server's suspicion of q covers instance i.
abbrev pub is_covered_at : ServerState → ServerId → Inst → Bool
is_covered_at s q i = is_covered_in s.members q (reach_at s q) i (slot s i)

-- The instances that the server's suspicion of q covers, in rising order.
abbrev pub covered_instances_at : ServerState → ServerId → List Inst
covered_instances_at s q = filter (is_covered_at s q) instances

-- The Prepare of the server's next first phase at instance i.
abbrev pub prepare_for : ServerState → Inst → Message
prepare_for s i = next_prepare s.members s.id i (slot s i)

-- The Prepares that the server's suspicion of q sends, in rising order of instances.
abbrev pub suspect_sent : ServerState → ServerId → List Message
suspect_sent s q = map (prepare_for s) (covered_instances_at s q)

-- The server after its suspicion of q. It has started a first phase at each covered instance.
abbrev pub after_suspect : ServerState → ServerId → ServerState
after_suspect s q = record s {
  slots = map (λ i. slot_after_suspect s.members s.id q (reach_at s q) i (slot s i))
      instances;
}

-- Whether the next round of a slot exceeds the greatest round.
abbrev pub is_spent : Membership → SlotState → Bool
is_spent m s = nat_lt greatest_round (next_round_of m s)

-- Whether the server's next round at instance i exceeds the greatest round.
abbrev pub is_spent_at : ServerState → Inst → Bool
is_spent_at s i = is_spent s.members (slot s i)

-- The causes for which a suspicion of another server is refused, in order. It covers nothing, a covered instance has no
-- further round, or its `count` messages exceed the limit of the outbox.
abbrev pub revocation_causes : Bool → Bool → OutboxState → ℕ → List (Bool × Refusal)
revocation_causes is_nothing is_any_spent o count =
    (is_nothing, NothingToRevoke)
    ∷ (is_any_spent, RoundsFull)
    ∷ (is_too_many o.limit (length o.messages) count, MessagesFull) ∷ []

-- The first cause for which a suspicion of q is refused, if any, apart from a lack of memory.
abbrev pub suspect_cause : ServerState → OutboxState → ServerId → Option Refusal
suspect_cause s o q = first_cause (
    (s.id == q, SelfSuspect)
    ∷ revocation_causes (is_none (slice_get (covered_instances_at s q) 0))
    (list_any (is_spent_at s) (covered_instances_at s q)) o
    (length (suspect_sent s q)))
