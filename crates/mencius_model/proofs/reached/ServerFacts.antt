-- Facts about every reached trace that the contracts of a server rest on.
use Rattle.std.proofs.Common.{◌≡◌, ℕ, ◌≤◌, [], Option, Some, None, inl, inr, refl, sym, ap, ◌∙◌, arith}
use Rattle.std.specs.Prelude.{slice_get}
use Rattle.mencius_base.specs.declared.message.Message.{Message}
use Rattle.mencius_base.specs.declared.message.Message.TheVariants.{Suggest, Accepted, Propose}
use Rattle.mencius_base.specs.declared.message.Value.{Value}
use Rattle.mencius_base.specs.declared.message.Value.TheVariants.{Ticket}
use Rattle.mencius_base.specs.Members.{Membership, owner}
use Rattle.mencius_model.specs.Trace.{Sent, Trace, sent_messages}
use Rattle.mencius_model.specs.Instance.{accepted_ballot, proposal, tried_ballot}
use Rattle.mencius_model.specs.Server.{front}
use Rattle.mencius_model.specs.Next.{IsReached}
use Rattle.mencius_model.proofs.trace.Lists.{IsIn, get_in}
use Rattle.mencius_model.proofs.rights.LineRights.{IsGrown}
use Rattle.mencius_model.proofs.trace.AnswersLast.{accepted_in, proposal_in, sent_in, start_in}
use Rattle.mencius_model.proofs.rights.EventRights.{propose_positive, propose_proposed, suggest_proposed}
use Rattle.mencius_model.proofs.reached.Suggesters.{suggest_front, suggest_once, suggest_owner}
use Rattle.mencius_model.proofs.paxos.Paxos.{accepted_proposed}
use Rattle.mencius_model.proofs.rights.Journals.{reached_grown, some_server}
use Rattle.mencius_model.proofs.reached.Senders.{acceptance_asked, own_untried, propose_once}

-- The facts of a trace about proposals, acceptances and the owner of an instance.
pub record HasServerFacts (m : Membership) (w : Trace) : Type 0 where
  -- Each Suggest at an instance contains the ticket that is proposed there at ballot 0. Each Propose contains the value
  -- that is proposed at its ballot.
  pub one_suggest : (k q i t : ℕ) → slice_get (sent_messages w) k ≡ Some (Suggest q i t) → proposal w i 0
      ≡ Some (Ticket t)
  pub one_propose : (k q i b : ℕ) (z : Value) → slice_get (sent_messages w) k ≡ Some (Propose q i b z) → proposal w i b
      ≡ Some z
  -- A value was proposed at each ballot that is accepted.
  pub voted : (p i b : ℕ) → accepted_ballot w p i ≡ Some b → (z : Value) × (proposal w i b ≡ Some z)
  -- An acceptance of ballot 0 goes to the owner of the instance.
  pub to_owner : (k q p i : ℕ) → slice_get (sent_messages w) k ≡ Some (Accepted q p i 0) → owner m i ≡ p
  -- An owner tries no ballot at its own instances, and suggests nothing from its front on.
  pub own_untried : (p i : ℕ) → owner m i ≡ p → tried_ballot w p i ≡ 0
  pub own_unsaid : (p i : ℕ) → owner m i ≡ p → front m w p ≤ i → proposal w i 0 ≡ None

module _ (m : Membership) (few : 1 ≤ m.count) (w : Trace) (g : IsGrown m w) where
  message_in : (k : ℕ) (x : Message) → slice_get (sent_messages w) k ≡ Some x → IsIn (Sent x) w
  message_in k x h = sent_in x w (get_in (sent_messages w) k x h)

  one_suggest_at : (q i t : ℕ) → IsIn (Sent (Suggest q i t)) w → proposal w i 0 ≡ Some (Ticket t)
  one_suggest_at q i t h =
      let r = suggest_proposed w q i t h in
      let s = start_in w i r.0 r.1 in
      let o = suggest_once m w few g q s.0 i t s.1 h s.2 in
      r.1 ∙ ap Some (s.3 ∙ ap Ticket (sym o.1))

  one_propose_at : (q i b : ℕ) (z : Value) → IsIn (Sent (Propose q i b z)) w → proposal w i b ≡ Some z
  one_propose_at q i b z h =
      let pos = propose_positive m w g q i b z h in
      let r = propose_proposed w q i b z pos h in
      let s = proposal_in w i b r.0 pos r.1 in
      r.1 ∙ ap Some (sym (propose_once m w g q s.0 i b z r.0 h s.1).1)

  voted_at : (p i b : ℕ) → accepted_ballot w p i ≡ Some b → (z : Value) × (proposal w i b ≡ Some z)
  voted_at p i b h = let r = accepted_in w p i b h in accepted_proposed m w g p r.0 i b r.1

  to_owner_at : (q p i : ℕ) → IsIn (Sent (Accepted q p i 0)) w → owner m i ≡ p
  to_owner_at q p i h =
      elim (acceptance_asked m w g q p i 0 h) [
        | inl s ↦ suggest_owner m w g p i s.1.0 s.1.1
        | inr s ↦ absurd (omega (arith, propose_positive m w g p i 0 s.0 s.1))
      ]

  own_unsaid_at : (p i : ℕ) → owner m i ≡ p → front m w p ≤ i → (o : Option Value) → proposal w i 0 ≡ o → o ≡ None
  own_unsaid_at p i mine past None e = refl
  own_unsaid_at p i mine past (Some z) e =
      let s = start_in w i z e in
      let same : s.0 ≡ p = sym (suggest_owner m w g s.0 i s.1 s.2) ∙ mine in
      let ahead = suggest_front m w s.0 i s.1 few s.2 in
      absurd (omega (arith, past, rw same at ahead))

  sound_grown : HasServerFacts m w
  sound_grown = record {
    one_suggest = λ k q i t h. one_suggest_at q i t (message_in k (Suggest q i t) h);
    one_propose = λ k q i b z h. one_propose_at q i b z (message_in k (Propose q i b z) h);
    voted = voted_at;
    to_owner = λ k q p i h. to_owner_at q p i (message_in k (Accepted q p i 0) h);
    own_untried = λ p i mine. own_untried m w g p i mine;
    own_unsaid = λ p i mine past. own_unsaid_at p i mine past (proposal w i 0) refl;
  }

sound_empty : (m : Membership) → HasServerFacts m []
sound_empty m = record {
  one_suggest = λ k q i t h. absurd (cc);
  one_propose = λ k q i b x h. absurd (cc);
  voted = λ p i b h. absurd (cc);
  to_owner = λ k q p i h. absurd (cc);
  own_untried = λ p i mine. refl;
  own_unsaid = λ p i mine past. refl;
}

pub server_facts : (m : Membership) (w : Trace) → IsReached m w → HasServerFacts m w
server_facts m w r =
    elim (some_server m w r) [
      | inl e ↦ rw e (sound_empty m)
      | inr few ↦ sound_grown m few w (reached_grown m w r)
    ]
