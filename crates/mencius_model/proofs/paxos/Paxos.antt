-- If a value is chosen at an instance, every proposal at a greater ballot has that value, in any trace that grew line
-- by line. The file first shows the bounds that a promise sets, and why a proposal is safe.
use Rattle.std.proofs.Common.{◌≡◌, ℕ, zero, suc, ◌<◌, ◌≤◌, Bool, true, [], ◌∷◌, ◌⊎◌, inl, inr, refl, ◌∙◌, arith, Option, Some, None}
use Rattle.std.specs.Option.{option_map_or}
use Rattle.std.proofs.lemmas.Bool.{cases_lt}
use Rattle.mencius_base.specs.Numbers.{ServerId, Inst, BallotNo}
use Rattle.mencius_base.specs.declared.message.Message.TheVariants.{Accepted, Promise, Propose}
use Rattle.mencius_base.specs.declared.message.Value.{Value}
use Rattle.mencius_base.specs.declared.message.Value.TheVariants.{Noop}
use Rattle.mencius_base.specs.declared.message.Vote.{Vote}
use Rattle.mencius_base.specs.Members.{Membership}
use Rattle.mencius_model.specs.Trace.{Line, Sent, Trace}
use Rattle.mencius_model.specs.Instance.{promised_ballot, proposal, accepted_ballot, vote, are_majority, has_accepted}
use Rattle.mencius_model.proofs.trace.Lists.{IsIn, majorities_meet}
use Rattle.mencius_model.proofs.rights.LineRights.{May, IsGrown, MayAccept, MayPromise, MayPropose, Reaches}
use Rattle.mencius_model.proofs.trace.AnswersLast.{promise_within, acceptance_within, promised_more, accepted_above, accepted_in, proposed_more, proposal_in, acceptance_in}

-- If there is a vote, its ballot is below b and its value was proposed at that ballot.
abbrev pub IsBacked : Trace → Inst → BallotNo → Option Vote → Type 0
IsBacked w i b None = Unit {0}
IsBacked w i b (Some x) = (x.ballot < b) × (proposal w i x.ballot ≡ Some x.value)

-- q keeps its promise of ballot b of i with the vote `o`. The vote's ballot is at least each ballot below b that q
-- accepted. The vote, if there is one, was proposed at a ballot below b.
pub record IsPromiseKept (w : Trace) (q : ServerId) (i : Inst) (b : BallotNo) (o : Option Vote) : Type 0 where
  pub covers : (to : ServerId) (c : BallotNo) → IsIn (Sent (Accepted q to i c)) w → c < b → Reaches o c
  pub backed : IsBacked w i b o

-- A proposal of z at ballot b of i is safe. A majority has promised b or more, so it accepts nothing below b any more.
-- z is the value of the greatest vote of this majority, or no-op if it has no vote.
pub record IsSafe (m : Membership) (w : Trace) (i : Inst) (b : BallotNo) (z : Value) : Type 0 where
  pub among : ServerId → Bool
  pub majority : are_majority m among ≡ true
  pub highest : Option Vote
  pub bound : (q : ServerId) → among q ≡ true → b ≤ promised_ballot w q i
  pub covers : (q to : ServerId) (c : BallotNo) → among q ≡ true → IsIn (Sent (Accepted q to i c)) w → c < b
      → Reaches highest c
  pub backed : IsBacked w i b highest
  pub is : z ≡ option_map_or (λ x. x.value) highest Noop

backed_more : (l : Line) (w : Trace) (i b : ℕ) (o : Option Vote) → IsBacked w i b o → IsBacked (l ∷ w) i b o
backed_more l w i b None h = h
backed_more l w i b (Some x) h = (h.0, proposed_more l w i x.ballot x.value h.1)

backed_from : (w : Trace) (i b : ℕ) (h : Option Vote) → ((z : Vote) → h ≡ Some z → IsBacked w i b (Some z))
    → IsBacked w i b h
backed_from w i b None each = tt
backed_from w i b (Some z) each = each z refl

-- If a vote covers ballot c and a second vote covers the first, the second vote covers c.
reaches_through : (o h : Option Vote) (c : ℕ) → Reaches o c → ((y : Vote) → o ≡ Some y → Reaches h y.ballot)
    → Reaches h c
reaches_through None h c r each = absurd r
reaches_through (Some y) None c r each = each y refl
reaches_through (Some y) (Some x) c r each = let below : y.ballot ≤ x.ballot = each y refl in omega (arith, r)

-- A value was proposed at each ballot that was accepted.
pub accepted_proposed : (m : Membership) (w : Trace) → IsGrown m w → (q to i b : ℕ)
    → IsIn (Sent (Accepted q to i b)) w → (z : Value) × (proposal w i b ≡ Some z)
accepted_proposed m [] grown q to i b h = absurd h
accepted_proposed m (l ∷ w) grown q to i b (inl e) =
    let may : MayAccept w q to i b = rw (← e) at grown.1 in
    (may.value, proposed_more l w i b may.value may.there)
accepted_proposed m (l ∷ w) grown q to i b (inr h) =
    let r = accepted_proposed m w grown.0 q to i b h in
    (r.0, proposed_more l w i b r.0 r.1)

-- A server that reports its vote in a new promise keeps that promise.
vote_kept : (m : Membership) (w : Trace) → IsGrown m w → (q i b : ℕ) (o : Option ℕ) → accepted_ballot w q i ≡ o
    → promised_ballot w q i < b → IsPromiseKept w q i b (vote w q i)
vote_kept m w grown q i b None e a =
    record {
      covers = λ to c h lt. let r = accepted_above w q to i c h in absurd (cc);
      backed = rw e tt;
    }
vote_kept m w grown q i b (Some last) e a =
    let there = accepted_in w q i last e in
    let said = accepted_proposed m w grown q there.0 i last there.1 in
    let within = acceptance_within w q there.0 i last there.1 in
    record {
      covers =
          λ to c h lt.
          let r = accepted_above w q to i c h in
          let same : r.0 ≡ last = cc in
          rw (e, said.1) (omega (arith, r.2, same));
      backed = rw (e, said.1) (omega (arith, within, a), said.1);
    }

-- The vote in a promise covers each ballot below the promised ballot that the sender accepted at any time.
pub promise_covers : (m : Membership) (w : Trace) → IsGrown m w → (q to i b : ℕ) (o : Option Vote)
    → IsIn (Sent (Promise q to i b o)) w → IsPromiseKept w q i b o
promise_covers m [] grown q to i b o h = absurd h
promise_covers m (l ∷ w) grown q to i b o (inl e) =
    let may : MayPromise w q to i b o = rw (← e) at grown.1 in
    let kept : IsPromiseKept w q i b o =
    rw may.is (vote_kept m w grown.0 q i b (accepted_ballot w q i) refl may.above) in
    record {
      covers = λ to c h lt. elim h [ inl x ↦ absurd (cc) | inr x ↦ kept.covers to c x lt ];
      backed = backed_more l w i b o kept.backed;
    }
promise_covers m (l ∷ w) grown q to i b o (inr h) =
    let covered = promise_covers m w grown.0 q to i b o h in
    let s = promise_within w q to i b o h in
    record {
      covers =
          λ to c y lt. elim y [
            | inl x ↦ let may : MayAccept w q to i c = rw (← x) at grown.1 in absurd (omega (arith, may.free, s, lt))
            | inr x ↦ covered.covers to c x lt
          ];
      backed = backed_more l w i b o covered.backed;
    }

-- A safe proposal stays safe after another line.
safe_more : (m : Membership) (l : Line) (w : Trace) (i b : ℕ) (z : Value) → May m w l → IsSafe m w i b z
    → IsSafe m (l ∷ w) i b z
safe_more m l w i b z may s =
    record {
      among = s.among;
      majority = s.majority;
      highest = s.highest;
      bound = λ q a. promised_more l w q i b (s.bound q a);
      covers =
          λ q to c a h lt. elim h [
            | inl e ↦ let can : MayAccept w q to i c =
                rw (← e) at may in absurd (omega (arith, can.free, s.bound q a, lt))
            | inr there ↦ s.covers q to c a there lt
          ];
      backed = backed_more l w i b s.highest s.backed;
      is = s.is;
    }

-- A proposal is safe when it is made.
safe_at : (m : Membership) (w : Trace) (p i b : ℕ) (z : Value) → IsGrown m w → MayPropose m w p i b z
    → IsSafe m w i b z
safe_at m w p i b z grown may =
    record {
      among = may.among;
      majority = may.majority;
      highest = may.highest;
      bound = λ q a. let r = may.promised q a in promise_within w q r.to i b r.vote r.promise;
      covers =
          λ q to c a h lt.
          let r = may.promised q a in
          reaches_through r.vote may.highest c
          ((promise_covers m w grown q r.to i b r.vote r.promise).covers to c h lt) r.within;
      backed =
          backed_from w i b may.highest
          (λ x e. let r = may.reported x e in (promise_covers m w grown r.0 r.1 i b (Some x) r.2).backed);
      is = may.is;
    }

-- Every Propose of the trace is safe.
pub propose_safe : (m : Membership) (w : Trace) → IsGrown m w → (p i b : ℕ) (z : Value)
    → IsIn (Sent (Propose p i b z)) w → IsSafe m w i b z
propose_safe m [] grown p i b z h = absurd h
propose_safe m (l ∷ w) grown p i b z (inl e) =
    let may : MayPropose m w p i b z = rw (← e) at grown.1 in
    safe_more m l w i b z grown.1 (safe_at m w p i b z grown.0 may)
propose_safe m (l ∷ w) grown p i b z (inr h) = safe_more m l w i b z grown.1 (propose_safe m w grown.0 p i b z h)

proposal_safe : (m : Membership) (w : Trace) → IsGrown m w → (i b : ℕ) (z : Value) → 0 < b
    → proposal w i b ≡ Some z → IsSafe m w i b z
proposal_safe m w grown i b z pos h = let r = proposal_in w i b z pos h in propose_safe m w grown r.0 i b z r.1

-- If z was chosen at ballot c, every proposal at a greater ballot has the value z.
module _ (m : Membership) (w : Trace) (g : IsGrown m w) (i c : ℕ) (z : Value) (start : proposal w i c ≡ Some z)
    (chosen : are_majority m (has_accepted w i c) ≡ true) where
  above : (b : ℕ) (x : Value) (h : Option Vote) → Reaches h c → IsBacked w i b h → x ≡ option_map_or (λ x. x.value) h Noop
      → ((between : ℕ) (y : Value) → between < b → c < between → proposal w i between ≡ Some y → y ≡ z) → x ≡ z
  above b x None r backed is rest = absurd r
  above b x (Some highest) r backed is rest =
      elim (cases_lt c highest.ballot) [
        | inl lt ↦ is ∙ rest highest.ballot highest.value backed.0 lt backed.1
        | inr ge ↦ let e : highest.ballot ≡ c = omega (arith, r, ge) in let s = backed.1 in cc
      ]

  pub chosen_above_to : (n b : ℕ) (x : Value) → b ≤ n → c < b → proposal w i b ≡ Some x → x ≡ z
  chosen_above_to zero b x le lt h = absurd (omega arith)
  chosen_above_to (suc n) b x le lt h =
      let s = proposal_safe m w g i b x (omega arith) h in
      let one = majorities_meet m s.among (has_accepted w i c) s.majority chosen in
      let a = acceptance_in w i c one.0 one.2 in
      above b x s.highest (s.covers one.0 a.0 c one.1 a.1 lt) s.backed s.is
      (λ between y below past. chosen_above_to n between y (omega (arith, below, le)) past)

  pub chosen_above : (b : ℕ) (x : Value) → c < b → proposal w i b ≡ Some x → x ≡ z
  chosen_above b x lt h = chosen_above_to b b x (omega arith) lt h

module _ (m : Membership) (w : Trace) (g : IsGrown m w) (i : ℕ) where
  under : (b : ℕ) (x : Value) (h : Option Vote) → IsBacked w i b h → x ≡ option_map_or (λ x. x.value) h Noop
      → ((c : ℕ) (y : Value) → c < b → proposal w i c ≡ Some y → (y ≡ Noop) ⊎ (proposal w i 0 ≡ Some y))
      → (x ≡ Noop) ⊎ (proposal w i 0 ≡ Some x)
  under b x None backed is rest = inl is
  under b x (Some highest) backed is rest = rw is (rest highest.ballot highest.value backed.0 backed.1)

  origin_below : (n b : ℕ) (x : Value) → b ≤ n → proposal w i b ≡ Some x → (x ≡ Noop) ⊎ (proposal w i 0 ≡ Some x)
  origin_below zero b x le h = let e : b ≡ 0 = omega arith in inr (rw e at h)
  origin_below (suc n) b x le h =
      elim (cases_lt 0 b) [
        | inl pos ↦
            let s = proposal_safe m w g i b x pos h in
            under b x s.highest s.backed s.is (λ c y below. origin_below n c y (omega (arith, below, le)))
        | inr z ↦ origin_below n b x (omega arith) h
      ]

  -- Every proposal is no-op or the suggested ticket.
  pub origin : (b : ℕ) (x : Value) → proposal w i b ≡ Some x → (x ≡ Noop) ⊎ (proposal w i 0 ≡ Some x)
  origin b x h = origin_below b b x (omega arith) h
