-- No number in a reached trace exceeds its limit.
use Rattle.std.proofs.Common.{◌≡◌, ℕ, ◌+◌, ◌/◌, ◌<◌, ◌≤◌, List, Option, Some, inl, inr, ap, ◌∙◌, arith, Ok, length, length-append, slice_get, true, eq-eqb, refl, sym, subst}
use Rattle.std.proofs.lemmas.Bool.{ltb-false}
use Rattle.std.proofs.lemmas.Nat.{le-div}
use Rattle.std.proofs.Math.Nat.{div-mul-le_self}
use Rattle.mencius_base.specs.Limits.{greatest_round, most_servers}
use Rattle.mencius_base.specs.Members.{Membership, most_events, most_messages, round}
use Rattle.mencius_base.specs.declared.event.Event.{Event}
use Rattle.mencius_base.specs.declared.event.Event.TheVariants.{Submit, Deliver, Lose, Suspect, Retry, Execute}
use Rattle.mencius_base.specs.declared.message.Message.{Message}
use Rattle.mencius_base.specs.declared.message.Message.TheVariants.{Suggest, Skip, Accepted, Prepare, Promise, Propose, Learn}
use Rattle.mencius_base.specs.declared.message.Value.{Value}
use Rattle.mencius_base.specs.declared.message.Vote.{Vote}
use Rattle.mencius_model.specs.Trace.{Sent, Learned, Trace, messages_of, sent_messages, submitted_commands}
use Rattle.mencius_model.specs.Instance.{proposal}
use Rattle.mencius_model.specs.Decided.{IsDecided}
use Rattle.mencius_model.specs.Next.{IsReached, lines, next, with_event}
use Rattle.mencius_model.specs.WithinLimits.{CountsWithinLimits, LearnedWithinLimits, MessagesAddressed, MessagesWithinLimits, IsPayloadWithin, IsTicketBelow}
use Rattle.mencius_model.proofs.trace.AnswersLast.{learned_in, sent_in, start_in}
use Rattle.mencius_model.proofs.paxos.Decisions.{all_decided, learned_decided}
use Rattle.mencius_model.proofs.events.EventLines.{sent_messages-event}
use Rattle.mencius_model.proofs.rights.EventRights.{NoneHolds, next_is}
use Rattle.mencius_model.proofs.events.JournalCounts.{events_few}
use Rattle.mencius_model.proofs.rights.Journals.{reached_along, reached_grown, some_server_of}
use Rattle.mencius_model.proofs.reached.LearnedLimits.{learned_small}
use Rattle.mencius_model.proofs.rights.LineRights.{IsGrown}
use Rattle.mencius_model.proofs.trace.Lists.{IsIn, get_in}
use Rattle.mencius_model.proofs.reached.MessageLimits.{sent_addressed, sent_small, within_small}
use Rattle.mencius_model.proofs.paxos.Paxos.{origin, promise_covers}
use Rattle.mencius_model.proofs.reached.Rounds.{prepared_low}
use Rattle.mencius_model.proofs.reached.Senders.{acceptance_asked, promise_asked, propose_prepared}
use Rattle.mencius_model.proofs.reached.ServerFacts.{server_facts}
use Rattle.mencius_model.proofs.paxos.Tickets.{decided_submitted, ticket_submitted}
use Rattle.mencius_model.proofs.trace.Parts.{causes}
use Rattle.mencius_base.specs.Message.{is_within}

-- ---- counts

-- An accepted event sends no more messages than there is room for.
sends_few : (m : Membership) (w : Trace) (e : Event) → NoneHolds (causes m w e)
    → length (sent_messages w) ≤ most_messages
    → length (sent_messages w) + length (messages_of (lines m w e)) ≤ most_messages
sends_few m w (Submit p command) h before = ltb-false most_messages _ h.1.1.1.0
sends_few m w (Deliver k p) h before = ltb-false most_messages _ h.1.1.1.1.0
sends_few m w (Lose k p) h before = omega (arith, before)
sends_few m w (Suspect p q) h before = ltb-false most_messages _ h.1.1.1.1.0
sends_few m w (Retry p) h before = ltb-false most_messages _ h.1.1.1.0
sends_few m w (Execute p) h before = omega (arith, before)

sent_next : (m : Membership) (w v : Trace) (e : Event) → length (sent_messages w) ≤ most_messages → next m w e ≡ Ok v
    → length (sent_messages v) ≤ most_messages
sent_next m w v e before h =
    let n = next_is m w v e h in
    let many : length (sent_messages (with_event m w e)) ≡ length (sent_messages w) + length (messages_of (lines m w e)) =
    ap (λ (xs : List Message). length xs) (sent_messages-event m w e)
    ∙ length-append (sent_messages w) (messages_of (lines m w e)) in
    rw (← n.is) (omega (arith, many, sends_few m w e n.allowed before))

pub counts_within : CountsWithinLimits
unfolding most_messages most_events
counts_within m w r =
    (events_few m w r, reached_along m (λ v. length (sent_messages v) ≤ most_messages) (omega arith) (sent_next m) w r)

-- ---- ballots, values and votes

owner_ballot : (m : Membership) → round m 0 ≤ greatest_round
owner_ballot m = omega arith

-- A lower ballot has no greater round, so its round is within the limit too.
lower_ballot : (m : Membership) (b c : ℕ) → 1 ≤ m.count → c ≤ b → round m b ≤ greatest_round
    → round m c ≤ greatest_round
lower_ballot m b c some le small =
    let lower = le-div (c / m.count) b m.count (omega arith) (omega (arith, div-mul-le_self c m.count)) in
    omega (arith, lower, small)

module _ (m : Membership) (w : Trace) (g : IsGrown m w) (some : 1 ≤ m.count) where
  start_within : (i : ℕ) (z : Value) → proposal w i 0 ≡ Some z → IsTicketBelow (length (submitted_commands w)) z
  start_within i z e t is =
      let s = start_in w i z e in
      let same : s.1 ≡ t = (let turned = sym s.3 ∙ is in cc) in
      subst (λ u. u < length (submitted_commands w)) same (ticket_submitted m w g s.0 i s.1 s.2)

  proposed_within : (i b : ℕ) (z : Value) → proposal w i b ≡ Some z → IsTicketBelow (length (submitted_commands w)) z
  proposed_within i b z e t is =
      elim (origin m w g i b z e) [
        | inl noop ↦ absurd (cc)
        | inr start ↦ start_within i z start t is
      ]

  decided_within : (i : ℕ) (z : Value) → IsDecided m w i z → IsTicketBelow (length (submitted_commands w)) z
  decided_within i z d t is = decided_submitted m w g i t (subst (IsDecided m w i) is d)

  vote_within : (p q i b : ℕ) (o : Option Vote) → round m b ≤ greatest_round → IsIn (Sent (Promise p q i b o)) w
      → (z : Vote) → o ≡ Some z → (round m z.ballot ≤ greatest_round) × IsTicketBelow (length (submitted_commands w)) z.value
  vote_within p q i b o within h z is =
      let reported : IsIn (Sent (Promise p q i b (Some z))) w =
      subst (λ (x : Option Vote). IsIn (Sent (Promise p q i b x)) w) is h in
      let backed = (promise_covers m w g p q i b (Some z) reported).backed in (
        lower_ballot m b z.ballot some (omega (arith, backed.0)) within,
        proposed_within i z.ballot z.value backed.1,
      )

-- ---- messages

module _ (m : Membership) (w : Trace) (few : m.count ≤ most_servers) (r : IsReached m w) (some : 1 ≤ m.count) where
  abbrev grown : IsGrown m w
  grown = reached_grown m w r

  prepared_within : (p i b : ℕ) → IsIn (Sent (Prepare p i b)) w → (round m b ≤ greatest_round)
  prepared_within p i b h = prepared_low m w r p i b h

  proposal_within : (p i b : ℕ) (z : Value) → IsIn (Sent (Propose p i b z)) w → (round m b ≤ greatest_round)
  proposal_within p i b z h = prepared_within p i b (propose_prepared m w grown p i b z h)

  asked_within : (q p i b : ℕ) → IsIn (Sent (Accepted q p i b)) w → (p < m.count) × (round m b ≤ greatest_round)
  asked_within q p i b h =
      elim (acceptance_asked m w grown q p i b h) [
        | inl s ↦
            let zero_ballot : b ≡ 0 = s.0 in
            ((sent_small m few w r (Suggest p i s.1.0) s.1.1).0, rw zero_ballot (owner_ballot m))
        | inr s ↦
            ((sent_small m few w r (Propose p i b s.0) s.1).0, proposal_within p i b s.0 s.1)
      ]

  -- The servers and instances of each sent message are within their limits.
  numbers_within : (x : Message) → IsIn (Sent x) w → is_within m x ≡ true
  numbers_within (Accepted q p i b) h =
      within_small m p (Accepted q p i b) (asked_within q p i b h).0 (sent_small m few w r (Accepted q p i b) h)
      (eq-eqb p p refl)
  numbers_within (Promise q p i b o) h =
      let asked = sent_small m few w r (Prepare p i b) (promise_asked m w grown q p i b o h) in
      within_small m p (Promise q p i b o) asked.0 (sent_small m few w r (Promise q p i b o) h) (eq-eqb p p refl)
  numbers_within (Suggest p i t) h = within_small m 0 (Suggest p i t) some (sent_small m few w r (Suggest p i t) h) refl
  numbers_within (Skip p first stop) h =
      within_small m 0 (Skip p first stop) some (sent_small m few w r (Skip p first stop) h) refl
  numbers_within (Prepare p i b) h = within_small m 0 (Prepare p i b) some (sent_small m few w r (Prepare p i b) h) refl
  numbers_within (Propose p i b z) h =
      within_small m 0 (Propose p i b z) some (sent_small m few w r (Propose p i b z) h) refl
  numbers_within (Learn p i z) h = within_small m 0 (Learn p i z) some (sent_small m few w r (Learn p i z) h) refl

  payload_within : (x : Message) → IsIn (Sent x) w → (k : ℕ) → slice_get (sent_messages w) k ≡ Some x
      → IsPayloadWithin m (length (submitted_commands w)) x
  payload_within (Suggest p i t) h k e = ticket_submitted m w grown p i t h
  payload_within (Skip p first stop) h k e = tt
  payload_within (Accepted q p i b) h k e = (asked_within q p i b h).1
  payload_within (Prepare p i b) h k e = prepared_within p i b h
  payload_within (Promise q p i b o) h k e =
      let ballot = prepared_within p i b (promise_asked m w grown q p i b o h) in
      (ballot, vote_within m w grown some q p i b o ballot h)
  payload_within (Propose p i b z) h k e = (
    proposal_within p i b z h,
    proposed_within m w grown some i b z ((server_facts m w r).one_propose k p i b z e),
  )
  payload_within (Learn p i z) h k e = decided_within m w grown some i z ((all_decided m w grown).messages p i z h)

pub messages_within : MessagesWithinLimits
messages_within m w few r k x e =
    let there = sent_in x w (get_in (sent_messages w) k x e) in
    let some = some_server_of m w r (Sent x) there in
    (numbers_within m w few r some x there, payload_within m w few r some x there k e)

pub learned_within : LearnedWithinLimits
learned_within m w few r p i x e =
    let grown = reached_grown m w r in
    let there = learned_in w p i x e in (
      learned_small m few w r p i x e,
      decided_within m w grown (some_server_of m w r (Learned p i x) there) i x (learned_decided m w grown p i x e),
    )

pub messages_addressed : MessagesAddressed
messages_addressed m w few r k p x e member goes = sent_addressed m few w r k p x member e goes
