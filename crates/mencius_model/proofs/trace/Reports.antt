-- The reported vote is one of the votes that were heard, and a message that is heard again changes nothing.
use Rattle.std.proofs.Common.{◌≡◌, ℕ, ◌<◌, ◌≤◌, Bool, true, false, List, [], ◌∷◌, ◌++◌, Option, Some, None, ◌⊎◌, inl, inr, map, refl, ◌∙◌, ap, subst, arith, cond, ltb, eqb, ◌&&◌, ◌||◌, ⊎_elim, sym}
use Rattle.std.specs.Prelude.{Contains}
use Rattle.std.specs.List.{fold, list_any}
use Rattle.std.proofs.lemmas.List.Elements.{Contains-append_cases, Contains-append_left, Contains-append_right, Contains-push, Contains-push_cases}
use Rattle.std.proofs.lemmas.List.Folds.{list_any_at}
use Rattle.std.proofs.lemmas.Bool.{cases_Bool, cases_lt, eqb-true, le-ltb, lt-ltb}
use Rattle.mencius_base.specs.Numbers.{ServerId, Inst, BallotNo}
use Rattle.mencius_base.specs.declared.message.Message.{Message}
use Rattle.mencius_base.specs.declared.message.Message.TheVariants.{Suggest, Skip, Accepted, Prepare, Promise, Propose, Learn}
use Rattle.mencius_base.specs.declared.message.Vote.{Vote}
use Rattle.mencius_model.specs.Instance.{higher_vote, vote_reported}
use Rattle.mencius_model.proofs.trace.ServerSets.{any_more}
use Rattle.mencius_model.proofs.trace.Lists.{IsIn}

contains_here : {X : Type 0} (x : X) (xs : List X) → Contains (x ∷ xs) x
contains_here x xs = Contains-append_left (x ∷ []) xs x (Contains-push [] x)

contains_later : {X : Type 0} (y x : X) (xs : List X) → Contains xs x → Contains (y ∷ xs) x
contains_later y x xs has = Contains-append_right (y ∷ []) xs x has

contains_cases : {X : Type 0} (y x : X) (xs : List X) → Contains (y ∷ xs) x → (y ≡ x) ⊎ Contains xs x
contains_cases y x xs has =
    ⊎_elim
    (λ (one : Contains (y ∷ []) x). ⊎_elim (λ (none : Contains [] x). absurd (let few = none.1 in omega arith))
    (λ (same : y ≡ x). inl same) (Contains-push_cases [] y x one))
    (λ (later : Contains xs x). inr later)
    (Contains-append_cases (y ∷ []) xs x has)

pub contained_in : {X : Type 0} (xs : List X) (x : X) → Contains xs x → IsIn x xs
contained_in [] x has = absurd (let few = has.1 in omega arith)
contained_in (y ∷ xs) x has =
    elim (contains_cases y x xs has) [
      | inl same ↦ inl (sym same)
      | inr later ↦ inr (contained_in xs x later)
    ]

-- The second vote does not replace the first as the highest vote. It is absent, or its ballot is not greater than the
-- ballot of the first.
abbrev pub Stands : Option Vote → Option Vote → Type 0
Stands x None = Unit {0}
Stands None (Some y) = ⊥
Stands (Some x) (Some y) = y.ballot ≤ x.ballot

pub higher_vote-stands : (o r : Option Vote) → Stands o r → higher_vote o r ≡ o
higher_vote-stands None None stands = refl
higher_vote-stands (Some o) None stands = refl
higher_vote-stands None (Some r) stands = absurd stands
higher_vote-stands (Some o) (Some r) stands = rw (le-ltb o.ballot r.ballot stands)

Stands-higher_vote_right : (o r : Option Vote) → Stands (higher_vote o r) r
Stands-higher_vote_right o None = tt
Stands-higher_vote_right None (Some r) = omega arith
Stands-higher_vote_right (Some o) (Some r) =
    ⊎_elim
    (λ (less : o.ballot < r.ballot). rw (lt-ltb o.ballot r.ballot less) (omega arith))
    (λ (more : r.ballot ≤ o.ballot). rw (le-ltb o.ballot r.ballot more) more)
    (cases_lt o.ballot r.ballot)

Stands-higher_vote_left : (o x r : Option Vote) → Stands o r → Stands (higher_vote o x) r
Stands-higher_vote_left o x None stands = tt
Stands-higher_vote_left None x (Some r) stands = absurd stands
Stands-higher_vote_left (Some o) None (Some r) stands = stands
Stands-higher_vote_left (Some o) (Some x) (Some r) stands =
    ⊎_elim
    (λ (less : o.ballot < x.ballot). rw (lt-ltb o.ballot x.ballot less) (omega arith))
    (λ (more : x.ballot ≤ o.ballot). rw (le-ltb o.ballot x.ballot more) stands)
    (cases_lt o.ballot x.ballot)

-- A vote that is reported twice in a row counts once.
pub higher_vote_twice : (o r : Option Vote) → higher_vote (higher_vote o r) r ≡ higher_vote o r
higher_vote_twice o r = higher_vote-stands (higher_vote o r) r (Stands-higher_vote_right o r)

Stands-fold : (vs : List (Option Vote)) (o r : Option Vote) → Stands o r → Stands (fold higher_vote o vs) r
Stands-fold [] o r stands = stands
Stands-fold (x ∷ vs) o r stands = Stands-fold vs (higher_vote o x) r (Stands-higher_vote_left o x r stands)

Stands-fold_heard : (report : Message → Option Vote) (hs : List Message) (x : Message) (o : Option Vote)
    → Contains hs x → Stands (fold higher_vote o (map report hs)) (report x)
Stands-fold_heard report [] x o has = absurd (let few = has.1 in omega arith)
Stands-fold_heard report (h ∷ hs) x o has =
    ⊎_elim
    (λ (same : h ≡ x). Stands-fold (map report hs) (higher_vote o (report h)) (report x)
    (subst (λ (y : Message). Stands (higher_vote o (report h)) (report y)) same
    (Stands-higher_vote_right o (report h))))
    (λ (later : Contains hs x). Stands-fold_heard report hs x (higher_vote o (report h)) later)
    (contains_cases h x hs has)

-- No vote that was heard replaces the highest vote that was heard.
pub Stands-heard : (report : Message → Option Vote) (hs : List Message) (x : Message) → Contains hs x
    → Stands (fold higher_vote None (map report hs)) (report x)
Stands-heard report hs x has = Stands-fold_heard report hs x None has

-- A repeated message does not change whether some heard message passes a test.
pub any_again : (test : Message → Bool) (hs : List Message) (x : Message) → Contains hs x
    → list_any test (hs ++ x ∷ []) ≡ list_any test hs
any_again test hs x has =
    any_more test hs x
    ∙ ⊎_elim
    (λ (yes : test x ≡ true). let found : list_any test hs
    ≡ true = list_any_at test hs has.0 x has.1 (ap test has.2 ∙ yes) in rw found)
    (λ (other : test x ≡ false). ap (λ (a : Bool). list_any test hs || a) other ∙ or_false (list_any test hs))
    (cases_Bool (test x))
  where
    or_false : (a : Bool) → (a || false) ≡ a
    or_false true = refl
    or_false false = refl

-- The higher of two votes is one of them.
higher_vote-cases : (o r : Option Vote) (x : Vote) → higher_vote o r ≡ Some x → (o ≡ Some x) ⊎ (r ≡ Some x)
higher_vote-cases None r x e = inr e
higher_vote-cases (Some o) None x e = inl e
higher_vote-cases (Some o) (Some r) x e = either (ltb o.ballot r.ballot) e
  where
    either : (d : Bool) → cond d (Some r) (Some o) ≡ Some x → (Some o ≡ Some x) ⊎ (Some r ≡ Some x)
    either true e = inr e
    either false e = inl e

-- Only a promise reports a vote.
promise_reported : (i b : ℕ) (x : Message) (z : Vote) → vote_reported i b x ≡ Some z
    → (from : ℕ) × (to : ℕ) × (x ≡ Promise from to i b (Some z))
promise_reported i b (Promise from to inst ballot vote) z e = either (eqb inst i) (eqb ballot b) refl refl e
  where
    either : (a d : Bool) → eqb inst i ≡ a → eqb ballot b ≡ d → cond (a && d) vote None ≡ Some z
        → (p : ℕ) × (q : ℕ) × (Promise from to inst ballot vote ≡ Promise p q i b (Some z))
    either true true here at e =
        let inst_is : inst ≡ i = eqb-true inst i here in
        let ballot_is : ballot ≡ b = eqb-true ballot b at in
        (from, to, rw (inst_is, ballot_is, e))
    either true false here at e = absurd (cc)
    either false d here at e = absurd (cc)
promise_reported i b (Suggest from inst ticket) z e = absurd (cc)
promise_reported i b (Skip from first stop) z e = absurd (cc)
promise_reported i b (Accepted from to inst ballot) z e = absurd (cc)
promise_reported i b (Prepare from inst ballot) z e = absurd (cc)
promise_reported i b (Propose from inst ballot value) z e = absurd (cc)
promise_reported i b (Learn from inst value) z e = absurd (cc)

abbrev IsReported : List Message → Inst → BallotNo → Vote → Type 0
IsReported hs i b x = (from : ServerId) × (to : ServerId) × Contains hs (Promise from to i b (Some x))

fold_heard : (i b : ℕ) (z : Vote) (hs : List Message) (o : Option Vote)
    → fold higher_vote o (map (vote_reported i b) hs) ≡ Some z
    → (o ≡ Some z) ⊎ IsReported hs i b z
fold_heard i b z [] o e = inl e
fold_heard i b z (h ∷ hs) o e =
    ⊎_elim
    (λ (first : higher_vote o (vote_reported i b h) ≡ Some z). ⊎_elim
    (λ (before : o ≡ Some z). inl before)
    (λ (here : vote_reported i b h ≡ Some z).
    let said = promise_reported i b h z here in
    inr (said.0, said.1, subst (λ (y : Message). Contains (h ∷ hs) y) said.2 (contains_here h hs)))
    (higher_vote-cases o (vote_reported i b h) z first))
    (λ (later : IsReported hs i b z). inr (later.0, later.1, contains_later h _ hs later.2))
    (fold_heard i b z hs (higher_vote o (vote_reported i b h)) e)

-- The highest vote was reported by a promise that was heard.
pub higher_vote-heard : (i b : ℕ) (z : Vote) (hs : List Message) → fold higher_vote None (map (vote_reported i b) hs) ≡ Some z
    → (from : ℕ) × (to : ℕ) × Contains hs (Promise from to i b (Some z))
higher_vote-heard i b z hs e =
    ⊎_elim
    (λ (none : None ≡ Some z). absurd (cc))
    (λ (heard : IsReported hs i b z). heard)
    (fold_heard i b z hs None e)
