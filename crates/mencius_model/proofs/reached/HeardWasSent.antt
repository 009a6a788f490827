-- Each message that a server heard was sent, including those in its sets and the message of its highest vote.
use Rattle.std.proofs.Common.{◌≡◌, ℕ, ◌≤◌, Bool, true, false, cond, ◌&&◌, eqb, ltb, List, [], ◌∷◌, ◌⊎◌, inl, inr, refl, sym, ap, ◌∙◌, arith, Option, Some, None, eqb-true, ltb-true, ltb-false, slice_get, map, fold}
use Rattle.std.specs.Prelude.{option_to_list}
use Rattle.std.proofs.lemmas.Bool.{and_parts, cases_Bool}
use Rattle.mencius_base.specs.declared.message.Message.{Message}
use Rattle.mencius_base.specs.declared.message.Message.TheVariants.{Promise}
use Rattle.mencius_base.specs.declared.message.Vote.{Vote}
use Rattle.mencius_model.specs.Trace.{Heard, Sent, Trace, sent_messages, heard_messages}
use Rattle.mencius_model.specs.Instance.{promisers, is_promise, accepters, is_acceptance, higher_vote, vote_reported, reported_vote, has_accepted}
use Rattle.mencius_model.proofs.trace.Lists.{IsIn, in_append, any_in, get_in}
use Rattle.mencius_model.proofs.rights.LineRights.{Reaches, HasPromised}
use Rattle.mencius_model.proofs.trace.AnswersLast.{sent_in, acceptance_message, in_acceptance, same_two}

in_get : (x : Message) (xs : List Message) (n : ℕ) → IsIn x (option_to_list (slice_get xs n)) → IsIn x xs
in_get x xs n h = go x xs (slice_get xs n) refl h where
  go : (x : Message) (xs : List Message) (o : Option Message) → slice_get xs n ≡ o → IsIn x (option_to_list o)
      → IsIn x xs
  go x xs None e h = absurd h
  go x xs (Some y) e (inl s) = rw s (get_in xs n y e)
  go x xs (Some y) e (inr s) = absurd s

pub heard_in : (w : Trace) (p : ℕ) (x : Message) → IsIn x (heard_messages w p) → IsIn (Sent x) w
heard_in [] p x h = absurd h
heard_in (Heard k q ∷ w) p x h =
    elim (cases_Bool (eqb q p)) [
      | inl e ↦
          elim (in_append x (heard_messages w p) (option_to_list (slice_get (sent_messages w) k)) (rw e at h)) [
            | inl a ↦ inr (heard_in w p x a)
            | inr a ↦ inr (sent_in x w (in_get x (sent_messages w) k a))
          ]
      | inr e ↦ inr (heard_in w p x (rw e at h))
    ]
heard_in (_ ∷ w) p x h = inr (heard_in w p x h)

-- ---- sets of servers

promise_message : (i b q : ℕ) (x : Message) → is_promise i b q x ≡ true
    → (to : ℕ) × (o : Option Vote) × (Promise q to i b o ≡ x)
promise_message i b q (Promise from to inst ballot vote) h =
    let r = and_parts (eqb inst i && eqb ballot b) (eqb from q) h in
    let s = and_parts (eqb inst i) (eqb ballot b) r.0 in
    let e = eqb-true inst i s.0 in
    let same = eqb-true ballot b s.1 in
    let so = eqb-true from q r.1 in
    (to, vote, cc)
promise_message i b q _ h = absurd (cc)

pub accepters_accepted : (w : Trace) (p i b q : ℕ) → accepters w p i b q ≡ true → has_accepted w i b q ≡ true
accepters_accepted w p i b q h =
    let r = any_in (is_acceptance i b q) (heard_messages w p) h in
    let s = acceptance_message i b q r.0 r.2 in
    in_acceptance w i b q s.0 (rw s.1 (heard_in w p r.0 r.1))

-- ---- the highest vote

higher_left : (y : Vote) (o : Option Vote) → (x : Vote) × (higher_vote (Some y) o ≡ Some x) × (y.ballot ≤ x.ballot)
higher_left y None = (y, refl, omega arith)
higher_left y (Some z) =
    elim (cases_Bool (ltb y.ballot z.ballot)) [
      | inl e ↦ (z, rw e, omega (arith, ltb-true y.ballot z.ballot e))
      | inr e ↦ (y, rw e, omega arith)
    ]

higher_right : (o : Option Vote) (z : Vote) → (x : Vote) × (higher_vote o (Some z) ≡ Some x) × (z.ballot ≤ x.ballot)
higher_right None z = (z, refl, omega arith)
higher_right (Some y) z =
    elim (cases_Bool (ltb y.ballot z.ballot)) [
      | inl e ↦ (z, rw e, omega arith)
      | inr e ↦ (y, rw e, omega (arith, ltb-false y.ballot z.ballot e))
    ]

higher_cases : (o r : Option Vote) (x : Vote) → higher_vote o r ≡ Some x → (o ≡ Some x) ⊎ (r ≡ Some x)
higher_cases None r x h = inr h
higher_cases (Some y) None x h = inl h
higher_cases (Some y) (Some z) x h =
    elim (cases_Bool (ltb y.ballot z.ballot)) [
      | inl e ↦ inr (rw e at h)
      | inr e ↦ inl (rw e at h)
    ]

fold_above : (votes : List (Option Vote)) (z : Vote) (c : ℕ) → c ≤ z.ballot
    → Reaches (fold higher_vote (Some z) votes) c
fold_above [] z c le = le
fold_above (o ∷ votes) z c le =
    let r = higher_left z o in
    rw r.1 (fold_above votes r.0 c (omega (arith, r.2, le)))

fold_reaches : (votes : List (Option Vote)) (start : Option Vote) (z : Vote) → IsIn (Some z) votes
    → Reaches (fold higher_vote start votes) z.ballot
fold_reaches [] start z h = absurd h
fold_reaches (o ∷ votes) start z (inl e) =
    let r = higher_right start z in
    rw (← e, r.1) (fold_above votes r.0 z.ballot r.2)
fold_reaches (o ∷ votes) start z (inr h) = fold_reaches votes (higher_vote start o) z h

fold_in : (votes : List (Option Vote)) (start : Option Vote) (z : Vote) → fold higher_vote start votes ≡ Some z
    → (start ≡ Some z) ⊎ IsIn (Some z) votes
fold_in [] start z h = inl h
fold_in (o ∷ votes) start z h =
    elim (fold_in votes (higher_vote start o) z h) [
      | inl e ↦ elim (higher_cases start o z e) [ inl a ↦ inl a | inr a ↦ inr (inl (sym a)) ]
      | inr there ↦ inr (inr there)
    ]

in_votes : (i b : ℕ) (xs : List Message) (x : Message) (z : Vote) → IsIn x xs → vote_reported i b x ≡ Some z
    → IsIn (Some z) (map (vote_reported i b) xs)
in_votes i b [] x z h e = absurd h
in_votes i b (y ∷ xs) x z (inl s) e = inl (rw s at (sym e))
in_votes i b (y ∷ xs) x z (inr h) e = inr (in_votes i b xs x z h e)

votes_in : (i b : ℕ) (xs : List Message) (z : Vote) → IsIn (Some z) (map (vote_reported i b) xs)
    → (x : Message) × IsIn x xs × (vote_reported i b x ≡ Some z)
votes_in i b [] z h = absurd h
votes_in i b (y ∷ xs) z (inl e) = (y, inl refl, sym e)
votes_in i b (y ∷ xs) z (inr h) = let r = votes_in i b xs z h in (r.0, inr r.1, r.2)

if_vote : (a : Bool) (o : Option Vote) (z : Vote) → cond a o None ≡ Some z → (a ≡ true) × (o ≡ Some z)
if_vote true o z h = (refl, h)
if_vote false o z h = absurd (cc)

vote_message : (i b : ℕ) (z : Vote) (x : Message) → vote_reported i b x ≡ Some z
    → (q : ℕ) × (to : ℕ) × (Promise q to i b (Some z) ≡ x)
vote_message i b z (Promise from to inst ballot vote) h =
    let r = if_vote (eqb inst i && eqb ballot b) vote z h in
    let s = and_parts (eqb inst i) (eqb ballot b) r.0 in
    let e = eqb-true inst i s.0 in
    let same = eqb-true ballot b s.1 in
    let so = r.1 in
    (from, to, cc)
vote_message i b z _ h = absurd (cc)

pub reported_promise : (w : Trace) (p i b : ℕ) (z : Vote) → reported_vote w p i b ≡ Some z
    → (q : ℕ) × (to : ℕ) × IsIn (Sent (Promise q to i b (Some z))) w
reported_promise w p i b z h =
    elim (fold_in (map (vote_reported i b) (heard_messages w p)) None z h) [
      | inl e ↦ absurd (cc)
      | inr there ↦
          let r = votes_in i b (heard_messages w p) z there in
          let s = vote_message i b z r.0 r.2 in
          (s.0, s.1, rw s.2 (heard_in w p r.0 r.1))
    ]

own_vote : (q to i b : ℕ) (o : Option Vote) → vote_reported i b (Promise q to i b o) ≡ o
own_vote q to i b o = rw (same_two i b)

pub promiser : (w : Trace) (p i b q : ℕ) → promisers w p i b q ≡ true → HasPromised w q i b (reported_vote w p i b)
promiser w p i b q h =
    let r = any_in (is_promise i b q) (heard_messages w p) h in
    let s = promise_message i b q r.0 r.2 in
    record {
      to = s.0;
      vote = s.1;
      promise = rw s.2 (heard_in w p r.0 r.1);
      within =
          λ x e.
          fold_reaches (map (vote_reported i b) (heard_messages w p)) None x
          (in_votes i b (heard_messages w p) r.0 x r.1
          (ap (vote_reported i b) (sym s.2) ∙ (own_vote q s.0 i b s.1 ∙ e)));
    }
