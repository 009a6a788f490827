-- An instance has at most one Suggest, and at most one Propose at a ballot.
use Rattle.std.proofs.Common.{◌≡◌, ℕ, zero, suc, ◌+◌, ◌≤◌, Bool, true, false, cond, eqb, ◌==◌, ◌&&◌, Some, slice_get, List, [], ◌∷◌, ◌++◌, count_by, inl, inr, refl, sym, ◌∙◌, ap, subst, arith}
use Rattle.std.proofs.lemmas.List.Sums.{sum_by-append, sum_by-cons}
use Rattle.std.proofs.lemmas.Bool.{and_from, and_parts, cases_Bool, eq-eqb, eqb-true}
use Rattle.mencius_base.specs.Numbers.{Inst, BallotNo}
use Rattle.mencius_base.specs.declared.message.Message.{Message}
use Rattle.mencius_base.specs.declared.message.Message.TheVariants.{Suggest, Propose}
use Rattle.mencius_base.specs.Members.{Membership, owner}
use Rattle.mencius_model.specs.Trace.{Submitted, Heard, Lost, Suspected, Retried, Executed, Sent, Learned, Trace, sent_messages}
use Rattle.mencius_model.specs.Laws.{AtMostOnePropose, AtMostOneSuggest}
use Rattle.mencius_model.specs.Next.{IsReached}
use Rattle.mencius_model.proofs.rights.LineRights.{IsGrown, MayPropose, MaySuggest}
use Rattle.mencius_model.proofs.rights.Journals.{reached_grown, some_server_of}
use Rattle.mencius_model.proofs.trace.Lists.{IsIn}
use Rattle.mencius_model.proofs.reached.Suggesters.{suggest_front, suggest_owner}
use Rattle.mencius_model.proofs.reached.Senders.{not_proposed}
use Rattle.mencius_model.proofs.rights.EventRights.{propose_positive}
use Rattle.mencius_model.proofs.trace.AnswersLast.{sent_in}

abbrev bit : (Message → Bool) → Message → ℕ
bit test x = cond (test x) 1 0

-- Whether the message is a Suggest at instance i.
abbrev pub is_suggestion_at : Inst → Message → Bool
is_suggestion_at i (Suggest from inst ticket) = inst == i
is_suggestion_at i _ = false

-- Whether the message is a Propose at ballot b of instance i.
abbrev is_proposal_at : Inst → BallotNo → Message → Bool
is_proposal_at i b (Propose from inst ballot value) = inst == i && ballot == b
is_proposal_at i b _ = false

-- If no message of a list passes a test, the count is 0.
none_counted : (test : Message → Bool) (xs : List Message) → ((x : Message) → IsIn x xs → test x ≡ true → ⊥)
    → count_by test xs ≤ 0
none_counted test [] never = omega arith
none_counted test (x ∷ xs) never =
    elim (cases_Bool (test x)) [
      | inl e ↦ absurd (never x (inl refl) e)
      | inr e ↦
          let here : bit test x ≡ 0 = rw e refl in
          let split : count_by test (x ∷ xs) ≡ bit test x + count_by test xs = sum_by-cons (bit test) x xs in
          omega (arith, split, here, none_counted test xs (λ y h. never y (inr h)))
    ]

one_more : (test : Message → Bool) (x : Message) (xs : List Message)
    → count_by test (xs ++ x ∷ []) ≡ count_by test xs + bit test x
one_more test x xs = let e = sum_by-append (bit test) xs (x ∷ []) in omega (arith, e, sum_by-cons (bit test) x [])

-- If a message that passes a test may be sent only when none was sent before, at most one is ever sent.
module _ (m : Membership) (test : Message → Bool) (first : (w : Trace) (x : Message) → IsGrown m (Sent x ∷ w)
    → test x ≡ true → (y : Message) → IsIn (Sent y) w → test y ≡ true → ⊥) where
  once_sent : (w : Trace) (x : Message) → IsGrown m (Sent x ∷ w) → count_by test (sent_messages w) ≤ 1
      → count_by test (sent_messages w ++ x ∷ []) ≤ 1
  once_sent w x grown before =
      elim (cases_Bool (test x)) [
        | inl e ↦
            let here : bit test x ≡ 1 = rw e refl in
            let none : count_by test (sent_messages w) ≤ 0 =
            none_counted test (sent_messages w) (λ y h passes. first w x grown e y (sent_in y w h) passes) in
            omega (arith, one_more test x (sent_messages w), here, none)
        | inr e ↦
            let here : bit test x ≡ 0 = rw e refl in
            omega (arith, one_more test x (sent_messages w), here, before)
      ]

  same_sent : (xs : List Message) → count_by test xs ≤ 1 → count_by test (xs ++ []) ≤ 1
  same_sent xs h = omega (arith, sum_by-append (bit test) xs [], h)

  once : (w : Trace) → IsGrown m w → count_by test (sent_messages w) ≤ 1
  once [] grown = omega arith
  once (Sent x ∷ w) grown = once_sent w x grown (once w grown.0)
  once (Submitted command p ∷ w) grown = same_sent (sent_messages w) (once w grown.0)
  once (Heard k p ∷ w) grown = same_sent (sent_messages w) (once w grown.0)
  once (Lost k p ∷ w) grown = same_sent (sent_messages w) (once w grown.0)
  once (Suspected p q ∷ w) grown = same_sent (sent_messages w) (once w grown.0)
  once (Retried p ∷ w) grown = same_sent (sent_messages w) (once w grown.0)
  once (Executed p ∷ w) grown = same_sent (sent_messages w) (once w grown.0)
  once (Learned p i z ∷ w) grown = same_sent (sent_messages w) (once w grown.0)

suggestion_first : (m : Membership) (i : ℕ) → 1 ≤ m.count → (w : Trace) (x : Message) → IsGrown m (Sent x ∷ w)
    → is_suggestion_at i x ≡ true → (y : Message) → IsIn (Sent y) w
    → is_suggestion_at i y ≡ true → ⊥
suggestion_first m i some w (Suggest p j t) grown e (Suggest q inst u) h holds =
    let may : MaySuggest m w p j t = grown.1 in
    let at : j ≡ i = eqb-true j i e in
    let there : inst ≡ i = eqb-true inst i holds in
    let mine : owner m inst ≡ q = suggest_owner m w grown.0 q inst u h in
    let same : q ≡ p = sym mine ∙ ap (owner m) (there ∙ sym at) ∙ may.own in
    let before = suggest_front m w q inst u some h in
    omega (arith, may.past, rw same at before)
suggestion_first m i some w (Suggest p j t) grown e _ h holds = cc
suggestion_first m i some w _ grown e y h holds = cc

proposal_first : (m : Membership) (i b : ℕ) → (w : Trace) (x : Message) → IsGrown m (Sent x ∷ w)
    → is_proposal_at i b x ≡ true → (y : Message) → IsIn (Sent y) w → is_proposal_at i b y ≡ true → ⊥
proposal_first m i b w (Propose p j c z) grown e (Propose q inst ballot y) h holds =
    let may : MayPropose m w p j c z = grown.1 in
    let mine = and_parts (eqb j i) (eqb c b) e in
    let other = and_parts (eqb inst i) (eqb ballot b) holds in
    let same_place : inst ≡ j = eqb-true inst i other.0 ∙ sym (eqb-true j i mine.0) in
    let same_ballot : ballot ≡ c = eqb-true ballot b other.1 ∙ sym (eqb-true c b mine.1) in
    let there : IsIn (Sent (Propose q j c y)) w =
    subst (λ (n : ℕ). IsIn (Sent (Propose q j n y)) w) same_ballot
    (subst (λ (n : ℕ). IsIn (Sent (Propose q n ballot y)) w) same_place h) in
    not_proposed w q j c y (propose_positive m w grown.0 q j c y there) may.none there
proposal_first m i b w (Propose p j c z) grown e _ h holds = cc
proposal_first m i b w _ grown e y h holds = cc

no_line : (m : Membership) (w : Trace) (r : IsReached m w) (test : Message → Bool)
    → (1 ≤ m.count → count_by test (sent_messages w) ≤ 1) → (v : Trace) → w ≡ v → count_by test (sent_messages w) ≤ 1
no_line m w r test some [] e = rw e (omega arith)
no_line m w r test some (l ∷ v) e = some (some_server_of m w r l (subst (IsIn l) (sym e) (inl refl)))

-- An instance has at most one Suggest.
pub suggestions_few : (m : Membership) (w : Trace) → IsReached m w → (i : ℕ)
    → count_by (is_suggestion_at i) (sent_messages w) ≤ 1
suggestions_few m w r i =
    no_line m w r (is_suggestion_at i)
    (λ some. once m (is_suggestion_at i) (suggestion_first m i some) w (reached_grown m w r)) w refl

-- An instance has at most one Propose at a ballot.
proposals_few : (m : Membership) (w : Trace) → IsReached m w → (i b : ℕ)
    → count_by (is_proposal_at i b) (sent_messages w) ≤ 1
proposals_few m w r i b = once m (is_proposal_at i b) (proposal_first m i b) w (reached_grown m w r)

-- ---- if at most one message passes, it has one place

module _ (test : Message → Bool) where
  -- If a message of the list passes, the count is at least 1.
  some_counted : (xs : List Message) (k : ℕ) (x : Message) → slice_get xs k ≡ Some x → test x ≡ true
      → 1 ≤ count_by test xs
  some_counted [] k x there passes = absurd (cc)
  some_counted (y ∷ xs) zero x there passes =
      let same : y ≡ x = cc in
      let here : bit test y ≡ 1 = rw (ap test same ∙ passes) refl in
      let split : count_by test (y ∷ xs) ≡ bit test y + count_by test xs = sum_by-cons (bit test) y xs in
      omega (arith, here, split)
  some_counted (y ∷ xs) (suc k) x there passes =
      let split : count_by test (y ∷ xs) ≡ bit test y + count_by test xs = sum_by-cons (bit test) y xs in
      omega (arith, split, some_counted xs k x there passes)

  -- If the first message of a list passes and at most one message passes, no later message passes.
  alone : (y : Message) (xs : List Message) (k : ℕ) (x z : Message) → count_by test (y ∷ xs) ≤ 1 → y ≡ z
      → test z ≡ true → slice_get xs k ≡ Some x → test x ≡ true → ⊥
  alone y xs k x z few same first there passes =
      let here : bit test y ≡ 1 = rw (ap test same ∙ first) refl in
      let split : count_by test (y ∷ xs) ≡ bit test y + count_by test xs = sum_by-cons (bit test) y xs in
      absurd (omega (arith, here, split, few, some_counted xs k x there passes))

  one_place : (xs : List Message) → count_by test xs ≤ 1 → (k l : ℕ) (x y : Message) → slice_get xs k ≡ Some x
      → test x ≡ true → slice_get xs l ≡ Some y → test y ≡ true → k ≡ l
  one_place [] few k l x y there passes other too = absurd (cc)
  one_place (z ∷ xs) few zero zero x y there passes other too = refl
  one_place (z ∷ xs) few zero (suc l) x y there passes other too =
      absurd (alone z xs l y x few (cc) passes other too)
  one_place (z ∷ xs) few (suc k) zero x y there passes other too =
      absurd (alone z xs k x y few (cc) too there passes)
  one_place (z ∷ xs) few (suc k) (suc l) x y there passes other too =
      let split : count_by test (z ∷ xs) ≡ bit test z + count_by test xs = sum_by-cons (bit test) z xs in
      ap suc (one_place xs (omega (arith, split, few)) k l x y there passes other too)

pub one_suggestion_holds : AtMostOneSuggest
one_suggestion_holds m w r k l p q i t u there other =
    one_place (is_suggestion_at i) (sent_messages w) (suggestions_few m w r i) k l (Suggest p i t) (Suggest q i u)
    there (eq-eqb i i refl) other (eq-eqb i i refl)

pub one_proposal_holds : AtMostOnePropose
one_proposal_holds m w r k l p q i b x y there other =
    let passes = and_from (eqb i i) (eqb b b) (eq-eqb i i refl) (eq-eqb b b refl) in
    one_place (is_proposal_at i b) (sent_messages w) (proposals_few m w r i b) k l (Propose p i b x) (Propose q i b y)
    there passes other passes
