-- In a reached trace, each message with a ballot has a sender or a receiver that leads this ballot.
use Rattle.std.proofs.Common.{◌≡◌, ℕ, ◌≤◌, eqb, Option, Some, None, inl, inr, refl, arith, eqb-true}
use Rattle.std.proofs.lemmas.Bool.{cases_Bool, cases_lt}
use Rattle.mencius_base.specs.Members.{Membership, leader, owner}
use Rattle.mencius_base.specs.declared.message.Message.{Message}
use Rattle.mencius_base.specs.declared.message.Message.TheVariants.{Suggest, Skip, Accepted, Prepare, Promise, Propose, Learn}
use Rattle.mencius_base.specs.declared.message.Value.{Value}
use Rattle.mencius_base.specs.declared.message.Vote.{Vote}
use Rattle.mencius_model.specs.Trace.{Sent, Trace, sent_messages}
use Rattle.mencius_model.specs.Instance.{proposal}
use Rattle.mencius_model.proofs.trace.AnswersLast.{proposal_in, sent_in}
use Rattle.mencius_model.proofs.rights.Journals.{reached_grown, some_server_of}
use Rattle.mencius_model.proofs.rights.LineRights.{IsGrown}
use Rattle.mencius_model.proofs.trace.Lists.{IsIn, get_in}
use Rattle.mencius_model.proofs.paxos.Paxos.{promise_covers}
use Rattle.mencius_model.proofs.reached.Senders.{acceptance_asked, prepare_right, promise_asked, propose_ballot}
use Rattle.mencius_model.proofs.reached.Suggesters.{suggest_owner}
use Rattle.mencius_model.specs.Ballots.{IsBallot, IsLed, IsVoteBelow, MessagesLed}

-- at every instance, the server `b mod n` leads each ballot b of n or more
led_round : (m : Membership) (b i p : ℕ) → 1 ≤ m.count → m.count ≤ b → owner m b ≡ p → leader m b i ≡ p
led_round m b i p some above own = elim (cases_Bool (eqb b 0)) [
  | inl e ↦ let zero_ballot = eqb-true b 0 e in absurd (omega (arith, zero_ballot))
  | inr e ↦ rw e own
]

module _ (m : Membership) (w : Trace) (some : 1 ≤ m.count) (grown : IsGrown m w) where
  proposed_ballot : (i b : ℕ) (z : Value) → proposal w i b ≡ Some z → IsBallot m b
  proposed_ballot i b z e = elim (cases_lt 0 b) [
    | inl lt ↦ let r = proposal_in w i b z lt e in inr (propose_ballot m w grown r.0 i b z r.1).0
    | inr ge ↦ inl (omega arith)
  ]

  led_vote : (q to i b : ℕ) (o : Option Vote) → IsIn (Sent (Promise q to i b o)) w → IsVoteBelow m b o
  led_vote q to i b None h = tt
  led_vote q to i b (Some x) h =
      let backed = (promise_covers m w grown q to i b (Some x) h).backed in
      (proposed_ballot i x.ballot x.value backed.1, backed.0)

  prepare_led : (p i b : ℕ) → IsIn (Sent (Prepare p i b)) w → (m.count ≤ b) × (leader m b i ≡ p)
  prepare_led p i b h =
      let may = prepare_right m w grown p i b h in
      (may.above, led_round m b i p some may.above may.own)

  propose_led : (p i b : ℕ) (z : Value) → IsIn (Sent (Propose p i b z)) w → (m.count ≤ b) × (leader m b i ≡ p)
  propose_led p i b z h =
      let r = propose_ballot m w grown p i b z h in (r.0, led_round m b i p some r.0 r.1)

  accepted_led : (q to i b : ℕ) → IsIn (Sent (Accepted q to i b)) w → IsBallot m b × (leader m b i ≡ to)
  accepted_led q to i b h = elim (acceptance_asked m w grown q to i b h) [
    | inl s ↦ rw s.0 (inl refl, suggest_owner m w grown to i s.1.0 s.1.1)
    | inr s ↦ let r = propose_led to i b s.0 s.1 in (inr r.0, r.1)
  ]

  led_message : (x : Message) → IsIn (Sent x) w → IsLed m x
  led_message (Suggest p i t) h = suggest_owner m w grown p i t h
  led_message (Skip p first stop) h = tt
  led_message (Accepted q to i b) h = accepted_led q to i b h
  led_message (Prepare p i b) h = prepare_led p i b h
  led_message (Promise q to i b o) h =
      let r = prepare_led to i b (promise_asked m w grown q to i b o h) in (r.0, r.1, led_vote q to i b o h)
  led_message (Propose p i b z) h = propose_led p i b z h
  led_message (Learn p i z) h = tt

pub messages_led : MessagesLed
messages_led m w r k x e =
    let there = sent_in x w (get_in (sent_messages w) k x e) in
    led_message m w (some_server_of m w r (Sent x) there) (reached_grown m w r) x there
