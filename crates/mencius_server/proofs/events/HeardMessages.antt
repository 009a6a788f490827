-- Hearing a message has the effect that the model gives to its delivery.
use Rattle.std.proofs.Common.{◌≡◌, ℕ, List, ◌∷◌, Some, length, ap, subst, sym, ◌∙◌, true}
use Rattle.mencius_model.specs.Rules.{proposal_lines, decision_lines}
use Rattle.std.specs.Prelude.{slice_get, IsTrue}
use Rattle.mencius_base.specs.Outbox.{outbox_full}
use Rattle.mencius_base.specs.declared.message.Message.{Message}
use Rattle.mencius_base.specs.declared.event.Event.TheVariants.{Deliver}
use Rattle.mencius_model.specs.Trace.{Trace, sent_messages, messages_of, Heard, Line, followed_by}
use Rattle.mencius_model.specs.Next.{lines, learned_count, on_message, due_proposal_at, due_decision_at}
use Rattle.mencius_server.specs.State.{ServerState}
use Rattle.mencius_server.specs.Machine.{sent_on, after_hearing, learned_on}
use Rattle.mencius_server.specs.Laws.{HearIsEvent, HearLearnsAsEvent}
use Rattle.mencius_server.specs.Reached.{server_at}
use Rattle.std.proofs.lemmas.Bool.{and_parts, eqb-true, ltb-true}
use Rattle.mencius_base.specs.declared.message.Message.TheVariants.{Suggest, Skip, Accepted, Prepare, Promise, Propose, Learn}
use Rattle.mencius_base.specs.Members.{Membership}
use Rattle.mencius_base.specs.Message.{is_sent_to, is_for, is_within}
use Rattle.mencius_model.specs.Instance.{IsVoted}
use Rattle.mencius_model.proofs.reached.ServerFacts.{HasServerFacts, server_facts}
use Rattle.mencius_server.proofs.events.ServerTrace.{Meets, meets_propose}
use Rattle.mencius_server.proofs.events.HeardSkip.{meets_skip}
use Rattle.mencius_server.proofs.events.HeardKinds.{meets_accepted, meets_learn, meets_prepare, meets_promise, meets_suggest}
use Rattle.mencius_model.proofs.trace.Parts.{delivery}

voted_at : (m : Membership) (w : Trace) (p i : ℕ) → HasServerFacts m w → IsVoted w p i
voted_at m w p i facts = record { proposal = λ b e. facts.voted p i b e }

-- A message for a server goes to it, and its numbers are within the limits.
pub within_of : (m : Membership) (p : ℕ) (x : Message) → IsTrue (is_for m p x) → is_within m x ≡ true
within_of m p x addressed = (and_parts _ _ (and_parts _ _ addressed).1).1

goes_of : (m : Membership) (p : ℕ) (x : Message) → IsTrue (is_for m p x) → is_sent_to p x ≡ true
goes_of m p x addressed = (and_parts _ _ (and_parts _ _ addressed).1).0

meets_any : (m : Membership) (w : Trace) (k p : ℕ) (x : Message) → HasServerFacts m w → IsTrue (is_for m p x)
    → slice_get (sent_messages w) k ≡ Some x
    → Meets m w k p x (on_message m w (Heard k p ∷ w) p x)
meets_any m w k p (Suggest from inst ticket) facts addressed e =
    let to = and_parts _ _ (within_of m p (Suggest from inst ticket) addressed) in
    meets_suggest m w k p from inst ticket (ltb-true _ _ to.1) e (facts.one_suggest k from inst ticket e)
meets_any m w k p (Skip from first stop) facts addressed e = meets_skip m w k p from first stop e
meets_any m w k p (Accepted from to inst ballot) facts addressed e =
    let known = and_parts _ _ (within_of m p (Accepted from to inst ballot) addressed) in
    let here : to ≡ p = eqb-true _ _ (goes_of m p (Accepted from to inst ballot) addressed) in
    let P : ℕ → Type 0 =
    λ d. slice_get (sent_messages w) k ≡ Some (Accepted from d inst ballot)
    → Meets m w k p (Accepted from d inst ballot) (decision_lines p inst (due_decision_at m w (Heard k p ∷ w) p inst ballot)) in
    subst P (sym here)
    (λ said. meets_accepted m w k p from inst ballot (ltb-true _ _ known.1)
    (λ zero. facts.to_owner k from p inst
    (subst (λ (b : ℕ). slice_get (sent_messages w) k ≡ Some (Accepted from p inst b)) zero said)) said)
    e
meets_any m w k p (Prepare from inst ballot) facts addressed e =
    let known = and_parts _ _ (within_of m p (Prepare from inst ballot) addressed) in
    meets_prepare m w k p from inst ballot (ltb-true _ _ (and_parts _ _ known.0).1) e
meets_any m w k p (Promise from to inst ballot vote) facts addressed e =
    let known = and_parts _ _ (within_of m p (Promise from to inst ballot vote) addressed) in
    let inside = and_parts _ _ known.0 in
    let here : to ≡ p = eqb-true _ _ (goes_of m p (Promise from to inst ballot vote) addressed) in
    let P : ℕ → Type 0 =
    λ d. slice_get (sent_messages w) k ≡ Some (Promise from d inst ballot vote)
    → Meets m w k p (Promise from d inst ballot vote) (proposal_lines p inst ballot (due_proposal_at m w (Heard k p ∷ w) p inst ballot)) in
    subst P (sym here)
    (λ said. meets_promise m w k p from inst ballot vote (ltb-true _ _ inside.1) (ltb-true _ _ known.1)
    (voted_at m w p inst facts) said)
    e
meets_any m w k p (Propose from inst ballot value) facts addressed e =
    let known = and_parts _ _ (within_of m p (Propose from inst ballot value) addressed) in
    meets_propose m w k p from inst ballot value (ltb-true _ _ (and_parts _ _ known.0).1) e
    (facts.one_propose k from inst ballot value e)
meets_any m w k p (Learn from inst value) facts addressed e =
    let known = and_parts _ _ (within_of m p (Learn from inst value) addressed) in
    meets_learn m w k p from inst value (ltb-true _ _ known.1) e

-- The lines of a delivery are the lines of the delivered message.
delivery_row : (w : Trace) (s : ServerState) (k : ℕ) (x : Message) → slice_get (sent_messages w) k ≡ Some x
    → on_message s.members w (Heard k s.id ∷ w) s.id x ≡ lines s.members w (Deliver k s.id)
delivery_row w s k x heard = ap (delivery s.members w (Heard k s.id ∷ w) s.id) (sym heard)

pub hear_is_event : HearIsEvent
hear_is_event w s k x at addressed heard =
    let meets = meets_any s.members w k s.id x (server_facts s.members w at.reached) addressed heard in
    let row = delivery_row w s k x heard in
    let sends : sent_on s x ≡ messages_of (lines s.members w (Deliver k s.id)) =
    ap (λ (y : ServerState). sent_on y x) at.state ∙ meets.sends ∙ ap messages_of row in
    record {
      sent = sends;
      state = ap (λ (y : ServerState). after_hearing y x) at.state ∙ meets.state
          ∙ ap (λ (ls : List Line). server_at s.members (followed_by (Heard k s.id ∷ w) ls) s.id) row;
      refusal = λ o. ap (λ (ms : List Message). outbox_full o (length ms)) sends;
    }

pub hear_learns : HearLearnsAsEvent
hear_learns w s k x at addressed heard =
    let meets = meets_any s.members w k s.id x (server_facts s.members w at.reached) addressed heard in
    ap (λ (y : ServerState). learned_on y x) at.state ∙ meets.learns ∙ ap learned_count (delivery_row w s k x heard)
