-- After a delivery to one of three servers that a caller steps by itself, all three are at the longer trace. The laws
-- of a server imply this.
use Rattle.std.proofs.Common.{◌≡◌, ℕ, Bool, true, false, cond, List, [], ◌∷◌, ◌++◌, length, Option, None, Some, leb, Result, Ok, Err, OnOk, refl, sym, ap, ◌∙◌, subst}
use Rattle.std.specs.Prelude.{IfOk, IsTrue, slice_get}
use Rattle.mencius_base.specs.declared.event.Event.TheVariants.{Deliver}
use Rattle.mencius_base.specs.declared.message.Message.{Message}
use Rattle.mencius_base.specs.declared.refusal.Refusal.{Refusal}
use Rattle.mencius_base.specs.declared.refusal.Refusal.TheVariants.{EventsFull}
use Rattle.mencius_base.specs.Refusal.{IsRefusedFor}
use Rattle.mencius_base.specs.Members.{Membership, most_events, most_messages}
use Rattle.mencius_base.specs.Message.{is_for}
use Rattle.mencius_base.specs.Outbox.{OutboxState, outbox_full}
use Rattle.mencius_model.specs.Trace.{Trace, events, sent_messages}
use Rattle.mencius_model.specs.Next.{IsReached, cluster_cause, cluster_causes, first_cause, refusal_cause, server_causes, with_event}
use Rattle.mencius_model.proofs.events.EventLines.{sent_messages-event}
use Rattle.mencius_model.proofs.rights.Journals.{next-accepted, reached_next}
use Rattle.mencius_server.specs.Laws.{HearIsEvent, LeavesOthers}
use Rattle.mencius_server.specs.Machine.{IsHeard, after_hearing, sent_on}
use Rattle.mencius_server.specs.Reached.{IsAt, server_at}
use Rattle.mencius_server.specs.State.{ServerState}
use Rattle.worked_proofs.specs.Hands.{AreAt, AreOthers}

on_first : (a : Bool) (r : Refusal) (o x : Option Refusal) → cond a (Some r) o ≡ None → (o ≡ None → x ≡ None)
    → cond a (Some r) x ≡ None
on_first true r o x h each = absurd (cc)
on_first false r o x h each = each h

both_none : (causes ds : List (Bool × Refusal)) → first_cause causes ≡ None → first_cause ds ≡ None
    → first_cause (causes ++ ds) ≡ None
both_none [] ds h none = none
both_none (cause ∷ causes) ds h none =
    on_first cause.0 cause.1 (first_cause causes) (first_cause (causes ++ ds)) h (λ n. both_none causes ds n none)

-- a server that did not hear the message is also at the longer trace
stays : LeavesOthers → (m : Membership) (w : Trace) (k p : ℕ) (s : ServerState) → IsAt w s → s.members ≡ m
    → refusal_cause m w (Deliver k p) ≡ None → (p ≡ s.id → ⊥) → IsAt (with_event m w (Deliver k p)) s
stays law m w k p s at same fine ne =
    let e = Deliver k p in
    let r = subst (λ (x : Membership). IsReached x w) same at.reached in
    let h = next-accepted m w e fine in
    let is : s ≡ server_at m w s.id = subst (λ (x : Membership). s ≡ server_at x w s.id) same at.state in
    let after = is ∙ sym (law m w (with_event m w e) e r h s.id ne) in
    record {
      reached = subst (λ (x : Membership). IsReached x (with_event m w e)) (sym same)
          (reached_next m w (with_event m w e) e r h);
      state = subst (λ (x : Membership). s ≡ server_at x (with_event m w e) s.id) (sym same) after;
    }

-- message x has number k, the network may deliver it to server r, and `after` and `sends` are the server and the outbox
-- after that
pub record IsDelivered (k : ℕ) (x : Message) (w : Trace) (r after : ServerState) (o sends : OutboxState) : Type 0 where
  pub addressed : IsTrue (is_for r.members r.id x)
  pub number : slice_get (sent_messages w) k ≡ Some x
  pub early : cluster_cause r.members w (Deliver k r.id) ≡ None
  pub state : after ≡ after_hearing r x
  pub messages : sends.messages ≡ o.messages ++ sent_on r x
  pub limit : sends.limit ≡ o.limit
  pub room : outbox_full o (length (sent_on r x)) ≡ None

pub delivered : HearIsEvent → LeavesOthers → (w : Trace) (k : ℕ) (x : Message) (r after s z : ServerState)
    (o sends : OutboxState) → AreAt w r s z o → IsDelivered k x w r after o sends → AreOthers r s z
    → AreAt (with_event r.members w (Deliver k r.id)) after s z sends
delivered hear law w k x r after s z o sends at h others =
    let m = r.members in
    let e = Deliver k r.id in
    let part = hear w r k x at.first h.addressed h.number in
    let late : first_cause (server_causes m w e (length (sent_messages w)) most_messages) ≡ None =
    ap (λ (xs : List Message). first_cause (server_causes m w e (length xs) most_messages)) (sym at.messages)
    ∙ ap (λ (n : ℕ). first_cause (server_causes m w e (length o.messages) n)) (sym at.limit)
    ∙ sym (part.refusal o) ∙ h.room in
    let fine : refusal_cause m w e ≡ None =
    both_none ((leb most_events (events w), EventsFull) ∷ cluster_causes m w e)
    (server_causes m w e (length (sent_messages w)) most_messages) h.early late in
    let longer = reached_next m w (with_event m w e) e at.first.reached (next-accepted m w e fine) in
    let is : after ≡ server_at m (with_event m w e) r.id = h.state ∙ part.state in
    record {
      first = subst (λ (y : ServerState). IsAt (with_event m w e) y) (sym is)
          (record { reached = longer; state = refl });
      second = stays law m w k r.id s at.second others.second fine others.apart.0;
      third = stays law m w k r.id z at.third others.third fine others.apart.1;
      messages = h.messages ∙ ap (λ xs. xs ++ sent_on r x) at.messages ∙ ap (λ ys. sent_messages w ++ ys) part.sent
          ∙ sym (sent_messages-event m w e);
      limit = h.limit ∙ at.limit;
    }

-- after a call that was not refused, all three servers are at the longer trace
pub delivered_then : HearIsEvent → LeavesOthers → (result : Result ℕ Refusal) (x : Message)
    (r after s y : ServerState) (o z : OutboxState) → IsTrue (is_for r.members r.id x)
    → IfOk result (λ n. IsHeard r after o z x n)
    → IsRefusedFor (outbox_full o (length (sent_on r x))) result → z.limit ≡ o.limit
    → AreOthers r s y
    → OnOk result ((w : Trace) (k : ℕ) → AreAt w r s y o → slice_get (sent_messages w) k ≡ Some x
    → cluster_cause r.members w (Deliver k r.id) ≡ None
    → AreAt (with_event r.members w (Deliver k r.id)) after s y z)
delivered_then hear law (Err f) x r after s y o z addressed heard room limit others = tt
delivered_then hear law (Ok n) x r after s y o z addressed heard room limit others = λ w k at number early.
    delivered hear law w k x r after s y o z at
    (record {
      addressed = addressed;
      number = number;
      early = early;
      state = heard.after;
      messages = heard.sent;
      limit = limit;
      room = room;
    }) others
