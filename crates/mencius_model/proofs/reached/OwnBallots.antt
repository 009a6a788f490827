-- No message names the ballot of a server's next first phase at an instance.
use Rattle.std.proofs.Common.{◌≡◌, ℕ, ◌+◌, ◌*◌, ◌/◌, ◌<◌, ◌≤◌, false, Option, Some, None, max, refl, sym, ◌∙◌, subst, inl, inr, arith}
use Rattle.std.proofs.Math.Nat.{mul-le-mul_right}
use Rattle.std.proofs.lemmas.Bool.{cases_Bool}
use Rattle.std.proofs.lemmas.Nat.{mod-mul-add}
use Rattle.mencius_base.specs.declared.message.Message.TheVariants.{Prepare, Propose}
use Rattle.mencius_base.specs.declared.message.Value.{Value}
use Rattle.mencius_base.specs.Members.{Membership, ballot_of, owner}
use Rattle.mencius_model.specs.Trace.{Sent, Trace}
use Rattle.mencius_model.specs.Instance.{accepters, promised_ballot, promisers, proposal, tried_ballot, IsUntried}
use Rattle.mencius_model.specs.Next.{IsReached, next_round}
use Rattle.mencius_model.proofs.trace.Lists.{IsIn}
use Rattle.mencius_model.proofs.trace.AnswersLast.{acceptance_in, proposal_in}
use Rattle.mencius_model.proofs.rights.LineRights.{IsGrown}
use Rattle.mencius_model.proofs.rights.Journals.{reached_grown}
use Rattle.mencius_model.proofs.reached.HeardWasSent.{accepters_accepted, promiser}
use Rattle.mencius_model.proofs.reached.Senders.{acceptance_asked, prepare_right, prepare_within, promise_asked, propose_ballot, propose_within}

-- At an instance, no message names a ballot that p leads and that is above all ballots that p tried there.
module _ (m : Membership) (w : Trace) (p j b : ℕ) (g : IsGrown m w) (mine : owner m b ≡ p)
    (above : tried_ballot w p j < b) where
  unprepared : (to : ℕ) → IsIn (Sent (Prepare to j b)) w → ⊥
  unprepared to h =
      let home : to ≡ p = sym (prepare_right m w g to j b h).own ∙ mine in
      let h' : IsIn (Sent (Prepare p j b)) w = subst (λ (q : ℕ). IsIn (Sent (Prepare q j b)) w) home h in
      let within : b ≤ tried_ballot w p j = prepare_within w p j b h' in
      omega arith

  unproposed : (q : ℕ) (z : Value) → IsIn (Sent (Propose q j b z)) w → ⊥
  unproposed q z h =
      let home : q ≡ p = sym (propose_ballot m w g q j b z h).1 ∙ mine in
      let h' : IsIn (Sent (Propose p j b z)) w = subst (λ (x : ℕ). IsIn (Sent (Propose x j b z)) w) home h in
      let within : b ≤ tried_ballot w p j = propose_within m w g p j b z h' in
      omega arith

  no_promiser : (q : ℕ) → promisers w p j b q ≡ false
  no_promiser q =
      elim (cases_Bool (promisers w p j b q)) [
        | inl e ↦ let h =
            promiser w p j b q e in absurd (unprepared h.to (promise_asked m w g q h.to j b h.vote h.promise))
        | inr e ↦ e
      ]

  no_accepter : (q : ℕ) → accepters w p j b q ≡ false
  no_accepter q =
      elim (cases_Bool (accepters w p j b q)) [
        | inl e ↦
            let h = acceptance_in w j b q (accepters_accepted w p j b q e) in
            elim (acceptance_asked m w g q h.0 j b h.1) [
              | inl s ↦ let zero : b ≡ 0 = s.0 in absurd (omega arith)
              | inr s ↦ absurd (unproposed h.0 s.0 s.1)
            ]
        | inr e ↦ e
      ]

  no_proposal : (o : Option Value) → proposal w j b ≡ o → o ≡ None
  no_proposal None e = refl
  no_proposal (Some z) e = let h = proposal_in w j b z (omega arith) e in absurd (unproposed h.0 z h.1)

  pub untried : IsUntried w p j b
  untried = record { unpromised = no_promiser; unaccepted = no_accepter; unsaid = no_proposal (proposal w j b) refl }

-- A ballot of the next round is above the ballot that the server tried.
pub next_round_above : (n p tried promised : ℕ) → 1 ≤ n → tried < (max (tried / n) (promised / n) + 1) * n + p
next_round_above n p tried promised some = above tried (promised / n) n p some where
  above : (b other n p : ℕ) → 1 ≤ n → b < (max (b / n) other + 1) * n + p
  above b other n p some =
      let d : ℕ = b / n in
      let grows : (b / n + 1) * n ≤ (max (b / n) other + 1) * n = mul-le-mul_right n (omega arith) in
      let whole : b < (b / n + 1) * n = omega arith in
      omega arith

pub next_untried : (m : Membership) (w : Trace) → IsReached m w → (p j : ℕ) → p < m.count
    → (tried_ballot w p j < ballot_of m (next_round m w p j) p) × IsUntried w p j (ballot_of m (next_round m w p j) p)
next_untried m w r p j member =
    let b : ℕ = ballot_of m (next_round m w p j) p in
    let above : tried_ballot w p j < b =
    next_round_above m.count p (tried_ballot w p j) (promised_ballot w p j) (omega arith) in
    (above, untried m w p j b (reached_grown m w r) (mod-mul-add (next_round m w p j) m.count p member) above)
