-- The senders of the messages, in any trace that grew line by line.
use Rattle.std.proofs.Common.{◌≡◌, ℕ, ◌<◌, ◌≤◌, ◌&&◌, eqb, [], ◌∷◌, inl, inr, refl, sym, ◌∙◌, arith, Option, None, lt-ltb, eqb-true}
use Rattle.std.proofs.lemmas.Bool.{cases_lt, cases_Bool, and_parts}
use Rattle.mencius_base.specs.declared.message.Message.TheVariants.{Accepted, Prepare, Promise, Propose}
use Rattle.mencius_base.specs.declared.message.Value.{Value}
use Rattle.mencius_base.specs.declared.message.Vote.{Vote}
use Rattle.mencius_base.specs.Members.{Membership, owner}
use Rattle.mencius_model.specs.Trace.{Line, Sent, Trace, greatest_by}
use Rattle.mencius_model.specs.Instance.{proposal, proposal_by, tried_ballot, tried_by}
use Rattle.mencius_model.proofs.trace.Lists.{IsIn}
use Rattle.mencius_model.proofs.rights.LineRights.{IsGrown, MayAccept, MayPrepare, MayPromise, IsAsked, MayPropose}
use Rattle.mencius_model.proofs.trace.AnswersLast.{greatest_ge, oldest_none, same_two}
use Rattle.mencius_model.proofs.rights.EventRights.{propose_positive}

-- ---- a ballot has one proposal, by its leader

greatest_in : (f : Line → ℕ) (w : Trace) → 0 < greatest_by f w → (l : Line) × IsIn l w × (f l ≡ greatest_by f w)
greatest_in f [] h = absurd (omega arith)
greatest_in f (l ∷ w) h =
    elim (cases_lt (greatest_by f w) (f l)) [
      | inl lt ↦ (l, inl refl, omega (arith, lt))
      | inr ge ↦ let r = greatest_in f w (omega (arith, ge, h)) in (r.0, inr r.1, omega (arith, r.2, ge))
    ]

tried_line : (p i b : ℕ) (l : Line) → 0 < b → tried_by p i l ≡ b → Sent (Prepare p i b) ≡ l
tried_line p i b (Sent (Prepare from inst ballot)) pos h =
    elim (cases_Bool (eqb from p && eqb inst i)) [
      | inl e ↦
          let r = and_parts (eqb from p) (eqb inst i) e in
          let s = eqb-true from p r.0 in
          let here = eqb-true inst i r.1 in
          let same : ballot ≡ b = rw e at h in
          cc
      | inr e ↦ let z : 0 ≡ b = rw e at h in absurd (omega arith)
    ]
tried_line p i b _ pos h = absurd (omega arith)

-- p prepares only ballots that it leads, and only at instances of other servers.
pub prepare_right : (m : Membership) (w : Trace) → IsGrown m w → (p i b : ℕ) → IsIn (Sent (Prepare p i b)) w
    → MayPrepare m p i b
prepare_right m [] grown p i b h = absurd h
prepare_right m (l ∷ w) grown p i b (inl e) = rw (← e) at grown.1
prepare_right m (l ∷ w) grown p i b (inr h) = prepare_right m w grown.0 p i b h

-- An owner tries no ballot at its own instances.
pub own_untried : (m : Membership) (w : Trace) → IsGrown m w → (p i : ℕ) → owner m i ≡ p → tried_ballot w p i ≡ 0
own_untried m w grown p i mine =
    elim (cases_lt 0 (tried_ballot w p i)) [
      | inl lt ↦
          let r = greatest_in (tried_by p i) w lt in
          let s = tried_line p i (tried_ballot w p i) r.0 lt r.2 in
          absurd ((prepare_right m w grown p i (tried_ballot w p i) (rw s r.1)).other mine)
      | inr ge ↦ omega arith
    ]

-- If p proposes at a ballot, it has prepared that ballot.
pub propose_prepared : (m : Membership) (w : Trace) → IsGrown m w → (p i b : ℕ) (z : Value)
    → IsIn (Sent (Propose p i b z)) w → IsIn (Sent (Prepare p i b)) w
propose_prepared m [] grown p i b z h = absurd h
propose_prepared m (l ∷ w) grown p i b z (inl e) =
    let may : MayPropose m w p i b z = rw (← e) at grown.1 in
    let pos : 0 < b = propose_positive m (l ∷ w) grown p i b z (inl e) in
    let r = greatest_in (tried_by p i) w (omega (arith, may.tried, pos)) in
    let there : IsIn (Sent (Prepare p i b)) w = rw (tried_line p i b r.0 pos (r.2 ∙ sym may.tried)) r.1 in
    inr there
propose_prepared m (l ∷ w) grown p i b z (inr h) = inr (propose_prepared m w grown.0 p i b z h)

-- If p proposes at a ballot, its round is at least 1 and p leads it.
pub propose_ballot : (m : Membership) (w : Trace) → IsGrown m w → (p i b : ℕ) (z : Value)
    → IsIn (Sent (Propose p i b z)) w → (m.count ≤ b) × (owner m b ≡ p)
propose_ballot m w grown p i b z h =
    let may = prepare_right m w grown p i b (propose_prepared m w grown p i b z h) in (may.above, may.own)

pub not_proposed : (w : Trace) (p i b : ℕ) (z : Value) → 0 < b → proposal w i b ≡ None
    → IsIn (Sent (Propose p i b z)) w → ⊥
not_proposed w p i b z pos none h =
    let n = oldest_none (proposal_by i b) (Sent (Propose p i b z)) w none h in
    let turned = rw (same_two i b, lt-ltb 0 b pos) at n in
    absurd (cc)

pub propose_once : (m : Membership) (w : Trace) → IsGrown m w → (p q i b : ℕ) (z x : Value)
    → IsIn (Sent (Propose p i b z)) w → IsIn (Sent (Propose q i b x)) w → (p ≡ q) × (z ≡ x)
propose_once m [] grown p q i b z x h also = absurd h
propose_once m (l ∷ w) grown p q i b z x (inl e) (inl left) = (cc, cc)
propose_once m (l ∷ w) grown p q i b z x (inl e) (inr also) =
    let may : MayPropose m w p i b z = rw (← e) at grown.1 in
    absurd (not_proposed w q i b x (propose_positive m w grown.0 q i b x also) may.none also)
propose_once m (l ∷ w) grown p q i b z x (inr h) (inl left) =
    let may : MayPropose m w q i b x = rw (← left) at grown.1 in
    absurd (not_proposed w p i b z (propose_positive m w grown.0 p i b z h) may.none h)
propose_once m (l ∷ w) grown p q i b z x (inr h) (inr also) = propose_once m w grown.0 p q i b z x h also

-- Acceptances and promises go to a server that asked for them.
asked_more : (l : Line) (w : Trace) (to i b : ℕ) → IsAsked w to i b → IsAsked (l ∷ w) to i b
asked_more l w to i b (inl s) = inl (s.0, (s.1.0, inr s.1.1))
asked_more l w to i b (inr right) = inr (right.0, inr right.1)

pub acceptance_asked : (m : Membership) (w : Trace) → IsGrown m w → (q to i b : ℕ)
    → IsIn (Sent (Accepted q to i b)) w → IsAsked w to i b
acceptance_asked m [] grown q to i b h = absurd h
acceptance_asked m (l ∷ w) grown q to i b (inl e) =
    let may : MayAccept w q to i b = rw (← e) at grown.1 in asked_more l w to i b may.asked
acceptance_asked m (l ∷ w) grown q to i b (inr h) = asked_more l w to i b (acceptance_asked m w grown.0 q to i b h)

pub promise_asked : (m : Membership) (w : Trace) → IsGrown m w → (q to i b : ℕ) (o : Option Vote)
    → IsIn (Sent (Promise q to i b o)) w → IsIn (Sent (Prepare to i b)) w
promise_asked m [] grown q to i b o h = absurd h
promise_asked m (l ∷ w) grown q to i b o (inl e) =
    let may : MayPromise w q to i b o = rw (← e) at grown.1 in inr may.asked
promise_asked m (l ∷ w) grown q to i b o (inr h) = inr (promise_asked m w grown.0 q to i b o h)

-- The greatest ballot that a server tried is at least each ballot that it prepared.
pub prepare_within : (w : Trace) (p i b : ℕ) → IsIn (Sent (Prepare p i b)) w → b ≤ tried_ballot w p i
prepare_within w p i b h =
    let greatest_by = greatest_ge (tried_by p i) (Sent (Prepare p i b)) w h in
    rw (same_two p i) at greatest_by

pub propose_within : (m : Membership) (w : Trace) → IsGrown m w → (p i b : ℕ) (z : Value)
    → IsIn (Sent (Propose p i b z)) w → b ≤ tried_ballot w p i
propose_within m [] grown p i b z h = absurd h
propose_within m (l ∷ w) grown p i b z (inl e) =
    let may : MayPropose m w p i b z = rw (← e) at grown.1 in omega (arith, may.tried)
propose_within m (l ∷ w) grown p i b z (inr h) = omega (arith, propose_within m w grown.0 p i b z h)

-- A server leads the ballot that it tries, if that ballot is above 0.
pub tried_owner : (m : Membership) (w : Trace) → IsGrown m w → (p i : ℕ) → 0 < tried_ballot w p i
    → owner m (tried_ballot w p i) ≡ p
tried_owner m w grown p i lt =
    let r = greatest_in (tried_by p i) w lt in
    let s = tried_line p i (tried_ballot w p i) r.0 lt r.2 in
    (prepare_right m w grown p i (tried_ballot w p i) (rw s r.1)).own
