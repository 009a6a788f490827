-- After the lines of each call, the slot in the trace is the one that the call leaves.
use Rattle.std.proofs.Common.{◌≡◌, ◌≢◌, ℕ, ◌<◌, ◌≤◌, Bool, true, false, List, [], ◌∷◌, Option, Some, None, map, refl, sym, ◌∙◌, ap, arith, cond, leb, ltb, eqb, ◌&&◌, ◌||◌, ⊎_elim}
use Rattle.mencius_base.specs.declared.message.Value.TheVariants.{Noop}
use Rattle.std.specs.Option.{option_or, option_map_or}
use Rattle.std.specs.Prelude.{Contains, is_none, slice_get}
use Rattle.std.specs.List.{fold, list_any}
use Rattle.std.proofs.lemmas.Bool.{cases_lt, eq-eqb, eqb-true, leb-true, lt-ltb, le-ltb, ltb-true, ne_eqb}
use Rattle.mencius_base.specs.Numbers.{ServerId, Inst, BallotNo}
use Rattle.mencius_base.specs.declared.message.Message.{Message}
use Rattle.mencius_base.specs.declared.message.Message.TheVariants.{Suggest, Skip, Accepted, Prepare, Promise, Propose, Learn}
use Rattle.mencius_base.specs.declared.message.Value.{Value}
use Rattle.mencius_base.specs.declared.message.Vote.{Vote}
use Rattle.mencius_base.specs.Members.{Membership, numbers_below, owner}
use Rattle.mencius_model.specs.Trace.{Line, Heard, Sent, Learned, Trace, followed_by, heard_messages, sent_messages}
use Rattle.mencius_model.specs.Instance.{accepted_ballot, accepters, are_majority, greater_ballot, higher_vote, is_acceptance, is_promise, learned_value, promised_ballot, promisers, proposal, proposal_by, reported_vote, tried_by, tried_ballot, vote, vote_reported, IsUntried, IsVoted}
use Rattle.mencius_model.specs.Rules.{answer_lines, decision_lines, due_decision_from, due_proposal_from, prepare_answer_from, proposal_lines, acceptance_lines}
use Rattle.mencius_model.specs.Next.{due_decision_at, due_proposal_at}
use Rattle.coord_paxos.specs.SlotState.{SlotState}
use Rattle.coord_paxos.specs.Fresh.{new_slot}
use Rattle.coord_paxos.specs.Slot.{acceptance_answer, after_accept, after_acceptance, after_answer, after_begin, after_learn, after_prepare, after_promise, due_decision, due_proposal, has_majority, promise_answer, with_acceptance, with_learned, with_promise, with_proposal}
use Rattle.coord_paxos.specs.Reached.{if_own, slot_at}
use Rattle.coord_paxos.specs.Laws.{is_counted_at, is_touched_by}
use Rattle.mencius_base.specs.declared.message.Answer.TheVariants.{Promise as Promised, Silent}
use Rattle.mencius_model.proofs.trace.NumberLists.{count_by-map, map-below_constant, map-below_same}
use Rattle.mencius_model.proofs.trace.OneMoreLine.{option_or-none, greater_ballot-none, max-zero, greatest_quiet, oldest_quiet, vote_of_same}
use Rattle.mencius_model.proofs.trace.Reports.{Stands-heard, any_again, higher_vote-stands}
use Rattle.mencius_model.proofs.trace.QuietLines.{IsQuiet, IsUncounted, quiet_heard, quiet_learn}
use Rattle.coord_paxos.proofs.SlotTrace.{same_slot, slot_at-accepted, slot_at-heard, slot_at-heard_acceptance, slot_at-heard_promise, slot_at-learned, slot_at-learning, slot_at-promised, slot_at-proposed, slot_at-proposing, slot_at-quiet, slot_at-unsaid, slot_hearing}
use Rattle.mencius_model.proofs.trace.ServerSets.{heard_more, or-true, votes_more}
use Rattle.mencius_model.proofs.trace.Parts.{vote_of}

-- ---- nothing

nothing_owned : (a : Bool) → ◌≡◌ {A = Option Value} (cond a None None) None
nothing_owned true = refl
nothing_owned false = refl

pub slot_at-empty : (m : Membership) (p i : ℕ) → slot_at m [] p i ≡ new_slot m
slot_at-empty m p i = same_slot _ _ refl refl refl refl refl refl (nothing_owned _)
    (sym (map-below_constant _ m.count false (λ q h. refl))) (sym (map-below_constant _ m.count false (λ q h. refl)))

-- ---- prepare

module _ (m : Membership) (w : Trace) (p q i b : ℕ) where
  prepared_unlearned : (a : Bool) → ltb (promised_ballot w p i) b ≡ a
      → slot_at m (followed_by w (answer_lines p q i b (cond a (Promised (vote w p i)) Silent))) p i
      ≡ after_answer (slot_at m w p i) b (cond a (Promised (vote w p i)) Silent)
  prepared_unlearned true above =
      let over : promised_ballot w p i < b =
      ltb-true _ _ above in slot_at-promised m w p q i b (vote w p i) (omega arith)
  prepared_unlearned false below = refl

  prepared_knowing : (o : Option Value)
      → slot_at m
      (followed_by w (answer_lines p q i b (prepare_answer_from (promised_ballot w p i) (vote w p i) b o))) p i
      ≡ after_answer (slot_at m w p i) b (prepare_answer_from (promised_ballot w p i) (vote w p i) b o)
  prepared_knowing None = prepared_unlearned (ltb (promised_ballot w p i) b) refl
  prepared_knowing (Some x) = slot_at-quiet m w (Sent (Learn p i x)) p i (quiet_learn p p i i x) refl

  pub prepared : slot_at m (followed_by w (answer_lines p q i b (prepare_answer_from (promised_ballot w p i) (vote w p i) b (learned_value w p i)))) p i ≡ after_prepare (slot_at m w p i) b
  prepared = prepared_knowing (learned_value w p i)

-- ---- accept

module _ (m : Membership) (w : Trace) (p q i b : ℕ) (z : Value) (said : proposal w i b ≡ Some z) where
  accepted_or_not : (a : Bool) → leb (promised_ballot w p i) b ≡ a
      → slot_at m (followed_by w (cond a (Sent (Accepted p q i b) ∷ []) [])) p i
      ≡ cond a (record (slot_at m w p i) {
        promised = b;
        vote = Some (record { ballot = b; value = z });
      }) (slot_at m w p i)
  accepted_or_not true high = slot_at-accepted m w p q i b z (leb-true _ _ high) said
  accepted_or_not false low = refl

  pub accepts : slot_at m (followed_by w (acceptance_lines p q i b (promised_ballot w p i))) p i ≡ after_accept (slot_at m w p i) b z
  accepts = accepted_or_not (leb (promised_ballot w p i) b) refl

-- ---- learn

learning_once : (s : SlotState) (z : Value) (o : Option Value) → s.learned ≡ o
    → record s { learned = option_or o (Some z) } ≡ cond (is_none o) (record s { learned = Some z }) s
learning_once s z None e = refl
learning_once s z (Some x) e = ap (λ (o : Option Value). record s { learned = o }) (sym e)

pub learns : (m : Membership) (w : Trace) (p i : ℕ) (z : Value)
    → slot_at m (Learned p i z ∷ w) p i ≡ after_learn (slot_at m w p i) z
learns m w p i z = slot_at-learning m w p i z ∙ learning_once (slot_at m w p i) z (learned_value w p i) refl

-- ---- begin

-- p's slot for i as it would be if b were the ballot that p tries
abbrev pub slot_trying : Membership → Trace → ServerId → Inst → BallotNo → SlotState
slot_trying m w p i b = record (slot_at m w p i) {
  trying = b;
  reported = reported_vote w p i b;
  proposal = if_own m p i b (proposal w i b);
  promises = map (promisers w p i b) (numbers_below m.count);
  accepts = map (accepters w p i b) (numbers_below m.count);
}

slot_at-tried : (m : Membership) (w : Trace) (p i b : ℕ) → tried_ballot w p i < b
    → slot_at m (Sent (Prepare p i b) ∷ w) p i ≡ slot_trying m w p i b
slot_at-tried m w p i b above =
    let l : Line = Sent (Prepare p i b) in
    let by : tried_by p i l ≡ b = rw (eq-eqb p p refl, eq-eqb i i refl) in
    let tried : tried_ballot (l ∷ w) p i ≡ b = rw by (omega arith) in
    let proposals : (c : ℕ) → proposal (l ∷ w) i c ≡ proposal w i c = λ c. oldest_quiet (proposal_by i c) l w refl in
    same_slot _ _ refl
    (max-zero (promised_ballot w p i))
    (ap (vote_of (l ∷ w) i) (greater_ballot-none (accepted_ballot w p i))
    ∙ vote_of_same (l ∷ w) w i (accepted_ballot w p i) proposals)
    (option_or-none (learned_value w p i))
    tried
    (ap (reported_vote (l ∷ w) p i) tried)
    (ap (λ (c : ℕ). if_own m p i c (proposal (l ∷ w) i c)) tried ∙ ap (if_own m p i b) (proposals b))
    (ap (λ (c : ℕ). map (promisers (l ∷ w) p i c) (numbers_below m.count)) tried)
    (ap (λ (c : ℕ). map (accepters (l ∷ w) p i c) (numbers_below m.count)) tried)

-- a message that is not a promise of ballot b of i reports no vote there
report_of : (i b : ℕ) (x : Message) → ((q : ℕ) → is_promise i b q x ≡ false) → vote_reported i b x ≡ None
report_of i b (Promise from to inst ballot reports) none = either (eqb inst i && eqb ballot b) (none from)
  where
    either : (a : Bool) → (a && eqb from from) ≡ false → cond a reports None ≡ None
    either true e = let itself : eqb from from ≡ true = eq-eqb from from refl in absurd (cc)
    either false e = refl
report_of i b (Suggest from inst ticket) none = refl
report_of i b (Skip from first stop) none = refl
report_of i b (Accepted from to inst ballot) none = refl
report_of i b (Prepare from inst ballot) none = refl
report_of i b (Propose from inst ballot value) none = refl
report_of i b (Learn from inst value) none = refl

neither : (a d : Bool) → (a || d) ≡ false → (a ≡ false) × (d ≡ false)
neither false d e = (refl, e)
neither true d e = absurd (cc)

unreported : (i b : ℕ) (hs : List Message) → ((q : ℕ) → list_any (is_promise i b q) hs ≡ false)
    → fold higher_vote None (map (vote_reported i b) hs) ≡ None
unreported i b [] none = refl
unreported i b (x ∷ hs) none =
    ap (λ (o : Option Vote). fold higher_vote o (map (vote_reported i b) hs))
    (report_of i b x (λ q. (neither (is_promise i b q x) (list_any (is_promise i b q) hs) (none q)).0))
    ∙ unreported i b hs (λ q. (neither (is_promise i b q x) (list_any (is_promise i b q) hs) (none q)).1)

pub slot_untried : (m : Membership) (w : Trace) (p i b : ℕ) → IsUntried w p i b
    → slot_trying m w p i b ≡ after_begin (slot_at m w p i) b
slot_untried m w p i b untried =
    same_slot _ _ refl refl refl refl refl
    (unreported i b (heard_messages w p) untried.unpromised)
    (ap (if_own m p i b) untried.unsaid ∙ nothing_owned _)
    (sym (map-below_constant (promisers w p i b) m.count false (λ q h. untried.unpromised q)))
    (sym (map-below_constant (accepters w p i b) m.count false (λ q h. untried.unaccepted q)))

pub begins : (m : Membership) (w : Trace) (p i b : ℕ) → tried_ballot w p i < b → IsUntried w p i b
    → slot_at m (Sent (Prepare p i b) ∷ w) p i ≡ after_begin (slot_at m w p i) b
begins m w p i b above untried = slot_at-tried m w p i b above ∙ slot_untried m w p i b untried

-- ---- add_promise

-- p may have made the proposal at ballot b of i if b is above 0, or if p owns i
owned : (m : Membership) (p i b : ℕ) (o : Option Value) → (b ≡ 0 → owner m i ≡ p) → if_own m p i b o ≡ o
owned m p i b o mine =
    ⊎_elim
    (λ (tried : 0 < b). rw (lt-ltb 0 b tried, or-true (eqb (owner m i) p)))
    (λ (untried : b ≤ 0). let zero : b ≡ 0 = omega arith in rw (eq-eqb (owner m i) p (mine zero)))
    (cases_lt 0 b)

pub due_proposal-slot_at : (m : Membership) (w : Trace) (p i b : ℕ) → 0 < b → b ≡ tried_ballot w p i
    → due_proposal (slot_at m w p i)
    ≡ due_proposal_from (learned_value w p i) (proposal w i b) (are_majority m (promisers w p i b))
    (reported_vote w p i b)
due_proposal-slot_at m w p i b tried same =
    ap (λ (c : ℕ). cond
    ((is_none (learned_value w p i) && is_none (if_own m p i c (proposal w i c)))
    && has_majority m (map (promisers w p i c) (numbers_below m.count)))
    (Some (option_map_or (λ x. x.value) (reported_vote w p i c) Noop)) None) (sym same)
    ∙ rw (
      owned m p i b (proposal w i b) (λ zero. absurd (omega arith)),
      count_by-map (promisers w p i b) (numbers_below m.count),
    )

pub due_decision-slot_at : (m : Membership) (w : Trace) (p i b : ℕ) → (b ≡ 0 → owner m i ≡ p) → b ≡ tried_ballot w p i
    → due_decision (slot_at m w p i)
    ≡ due_decision_from (learned_value w p i) (proposal w i b) (are_majority m (accepters w p i b))
due_decision-slot_at m w p i b mine same =
    ap (λ (c : ℕ). cond
    (is_none (learned_value w p i) && has_majority m (map (accepters w p i c) (numbers_below m.count)))
    (if_own m p i c (proposal w i c)) None) (sym same)
    ∙ rw (owned m p i b (proposal w i b) mine, count_by-map (accepters w p i b) (numbers_below m.count))

pub voted_later : (w : Trace) (l : Line) (p i : ℕ) → IsQuiet p i l → IsVoted w p i → IsVoted (l ∷ w) p i
voted_later w l p i quiet voted = record {
  proposal = λ b e.
      let before = voted.proposal b
      (sym (ap (greater_ballot (accepted_ballot w p i)) quiet.accepted ∙ greater_ballot-none (accepted_ballot w p i))
      ∙ e) in
      (before.0, oldest_quiet (proposal_by i b) l w (quiet.proposed b) ∙ before.1);
}

uncounted_promise : (from to i b j c : ℕ) (o : Option Vote) → (eqb i j && eqb b c) ≡ false
    → IsUncounted j c (Promise from to i b o)
uncounted_promise from to i b j c o other =
    record { promise = λ q. rw other; acceptance = λ q. refl; report = rw other }

uncounted_acceptance : (from to i b j c : ℕ) → (eqb i j && eqb b c) ≡ false → IsUncounted j c (Accepted from to i b)
uncounted_acceptance from to i b j c other = record { promise = λ q. refl; acceptance = λ q. rw other; report = refl }

-- a proposal is due only if nothing was proposed
due_unsaid : (l o : Option Value) (a : Bool) (x z : Value)
    → cond ((is_none l && is_none o) && a) (Some x) None ≡ Some z → o ≡ None
due_unsaid None None a x z e = refl
due_unsaid None (Some y) a x z e = absurd (cc)
due_unsaid (Some y) o a x z e = absurd (cc)

-- a value is decided only if nothing was learned
decided_unlearned : (l : Option Value) (a : Bool) (o : Option Value) (z : Value)
    → cond (is_none l && a) o None ≡ Some z → l ≡ None
decided_unlearned None a o z e = refl
decided_unlearned (Some x) a o z e = absurd (cc)

module _ (m : Membership) (w : Trace) (k p i from b : ℕ) (r : Option Vote)
    (e : slice_get (sent_messages w) k ≡ Some (Promise from p i b r)) where
  tried_still : tried_ballot (Heard k p ∷ w) p i ≡ tried_ballot w p i
  tried_still = greatest_quiet (tried_by p i) (Heard k p) w refl

  promise_heard : b ≡ tried_ballot w p i → slot_at m (Heard k p ∷ w) p i ≡ with_promise (slot_at m w p i) from r
  promise_heard same = slot_at-heard_promise m w k p i from r (e ∙ ap (λ (c : ℕ). Some (Promise from p i c r)) same)

  -- the slot that counts this promise has the proposal due that follows from all promises heard, including this one
  promise_due : 0 < b → b ≡ tried_ballot w p i
      → due_proposal (with_promise (slot_at m w p i) from r)
      ≡ due_proposal_from (learned_value w p i) (proposal w i b) (are_majority m (promisers (Heard k p ∷ w) p i b))
      (reported_vote (Heard k p ∷ w) p i b)
  promise_due tried same =
      ap due_proposal (sym (promise_heard same))
      ∙ due_proposal-slot_at m (Heard k p ∷ w) p i b tried (same ∙ sym tried_still)
      ∙ ap (λ (o : Option Value). due_proposal_from o (proposal (Heard k p ∷ w) i b)
      (are_majority m (promisers (Heard k p ∷ w) p i b)) (reported_vote (Heard k p ∷ w) p i b))
      (option_or-none (learned_value w p i))
      ∙ ap (λ (o : Option Value). due_proposal_from (learned_value w p i) o
      (are_majority m (promisers (Heard k p ∷ w) p i b)) (reported_vote (Heard k p ∷ w) p i b))
      (option_or-none (proposal w i b))

  pub promise_answered : 0 < b → promise_answer (slot_at m w p i) from b r ≡ due_proposal_at m w (Heard k p ∷ w) p i b
  promise_answered tried = either (eqb b (tried_ballot w p i)) refl
    where
      either : (a : Bool) → eqb b (tried_ballot w p i) ≡ a
          → cond a (due_proposal (with_promise (slot_at m w p i) from r)) None
          ≡ cond a
          (due_proposal_from (learned_value w p i) (proposal w i b) (are_majority m (promisers (Heard k p ∷ w) p i b))
          (reported_vote (Heard k p ∷ w) p i b)) None
      either true at = promise_due tried (eqb-true _ _ at)
      either false at = refl

  promise_proposed : 0 < b → IsVoted w p i → b ≡ tried_ballot w p i → (o : Option Value)
      → due_proposal (with_promise (slot_at m w p i) from r) ≡ o
      → slot_at m (followed_by (Heard k p ∷ w) (proposal_lines p i b o)) p i
      ≡ with_proposal (with_promise (slot_at m w p i) from r) o
  promise_proposed tried voted same None due = promise_heard same
  promise_proposed tried voted same (Some x) due =
      let mine : b ≡ 0 → owner m i ≡ p = λ zero. absurd (omega arith) in
      let unproposed : if_own m p i (tried_ballot w p i) (proposal w i (tried_ballot w p i)) ≡ None =
      due_unsaid _ _ _ _ x due in
      let unsaid : proposal w i b ≡ None =
      sym (owned m p i b (proposal w i b) mine)
      ∙ ap (λ (c : ℕ). if_own m p i c (proposal w i c)) same ∙ unproposed in
      slot_at-proposed m (Heard k p ∷ w) p i b x (voted_later w (Heard k p) p i (quiet_heard k p i) voted) tried
      (same ∙ sym tried_still)
      (oldest_quiet (proposal_by i b) (Heard k p) w refl ∙ unsaid)
      ∙ ap (λ (s : SlotState). record s { proposal = Some x }) (promise_heard same)

  pub promise_counted : 0 < b → IsVoted w p i
      → slot_at m (followed_by (Heard k p ∷ w) (proposal_lines p i b (promise_answer (slot_at m w p i) from b r))) p i
      ≡ after_promise (slot_at m w p i) from b r
  promise_counted tried voted = either (eqb b (tried_ballot w p i)) refl
    where
      either : (a : Bool) → eqb b (tried_ballot w p i) ≡ a
          → slot_at m (followed_by (Heard k p ∷ w)
          (proposal_lines p i b (cond a (due_proposal (with_promise (slot_at m w p i) from r)) None))) p i
          ≡ cond a (with_proposal (with_promise (slot_at m w p i) from r)
          (due_proposal (with_promise (slot_at m w p i) from r))) (slot_at m w p i)
      either true at =
          promise_proposed tried voted (eqb-true _ _ at) (due_proposal (with_promise (slot_at m w p i) from r)) refl
      either false at =
          slot_at-heard m w k p i _ e
          (uncounted_promise from p i b i (tried_ballot w p i) r
          (ap (λ (a : Bool). eqb i i && a) at ∙ rw (eq-eqb i i refl)))

-- ---- add_accept

module _ (m : Membership) (w : Trace) (k p i from b : ℕ)
    (e : slice_get (sent_messages w) k ≡ Some (Accepted from p i b)) where
  acceptance_heard : b ≡ tried_ballot w p i → slot_at m (Heard k p ∷ w) p i ≡ with_acceptance (slot_at m w p i) from
  acceptance_heard same = slot_at-heard_acceptance m w k p i from (e ∙ ap (λ (c : ℕ). Some (Accepted from p i c)) same)

  -- the slot that counts this acceptance decides the value that follows from all acceptances heard, including this one
  acceptance_due : (b ≡ 0 → owner m i ≡ p) → b ≡ tried_ballot w p i
      → due_decision (with_acceptance (slot_at m w p i) from)
      ≡ due_decision_from (learned_value w p i) (proposal w i b) (are_majority m (accepters (Heard k p ∷ w) p i b))
  acceptance_due mine same =
      ap due_decision (sym (acceptance_heard same))
      ∙ due_decision-slot_at m (Heard k p ∷ w) p i b mine
      (same ∙ sym (greatest_quiet (tried_by p i) (Heard k p) w refl))
      ∙ ap (λ (o : Option Value). due_decision_from o (proposal (Heard k p ∷ w) i b)
      (are_majority m (accepters (Heard k p ∷ w) p i b))) (option_or-none (learned_value w p i))
      ∙ ap (λ (o : Option Value). due_decision_from (learned_value w p i) o
      (are_majority m (accepters (Heard k p ∷ w) p i b))) (option_or-none (proposal w i b))

  pub acceptance_answered : (b ≡ 0 → owner m i ≡ p)
      → acceptance_answer (slot_at m w p i) from b ≡ due_decision_at m w (Heard k p ∷ w) p i b
  acceptance_answered mine = either (eqb b (tried_ballot w p i)) refl
    where
      either : (a : Bool) → eqb b (tried_ballot w p i) ≡ a
          → cond a (due_decision (with_acceptance (slot_at m w p i) from)) None
          ≡ cond a
          (due_decision_from (learned_value w p i) (proposal w i b)
          (are_majority m (accepters (Heard k p ∷ w) p i b))) None
      either true at = acceptance_due mine (eqb-true _ _ at)
      either false at = refl

  acceptance_decided : b ≡ tried_ballot w p i → (o : Option Value)
      → due_decision (with_acceptance (slot_at m w p i) from) ≡ o
      → slot_at m (followed_by (Heard k p ∷ w) (decision_lines p i o)) p i
      ≡ with_learned (with_acceptance (slot_at m w p i) from) o
  acceptance_decided same None due = acceptance_heard same
  acceptance_decided same (Some x) due =
      let unlearned : learned_value w p i ≡ None = decided_unlearned _ _ _ x due in
      slot_at-quiet m (Learned p i x ∷ Heard k p ∷ w) (Sent (Learn p i x)) p i (quiet_learn p p i i x) refl
      ∙ slot_at-learned m (Heard k p ∷ w) p i x (ap (λ (o : Option Value). option_or o None) unlearned)
      ∙ ap (λ (s : SlotState). record s { learned = Some x }) (acceptance_heard same)

  pub acceptance_counted :
      slot_at m (followed_by (Heard k p ∷ w) (decision_lines p i (acceptance_answer (slot_at m w p i) from b))) p i
      ≡ after_acceptance (slot_at m w p i) from b
  acceptance_counted = either (eqb b (tried_ballot w p i)) refl
    where
      either : (a : Bool) → eqb b (tried_ballot w p i) ≡ a
          → slot_at m (followed_by (Heard k p ∷ w)
          (decision_lines p i (cond a (due_decision (with_acceptance (slot_at m w p i) from)) None))) p i
          ≡ cond a (with_learned (with_acceptance (slot_at m w p i) from)
          (due_decision (with_acceptance (slot_at m w p i) from))) (slot_at m w p i)
      either true at = acceptance_decided (eqb-true _ _ at) (due_decision (with_acceptance (slot_at m w p i) from)) refl
      either false at =
          slot_at-heard m w k p i _ e
          (uncounted_acceptance from p i b i (tried_ballot w p i)
          (ap (λ (a : Bool). eqb i i && a) at ∙ rw (eq-eqb i i refl)))

-- ---- every other line

pub untouched_quiet : (p i : ℕ) (l : Line) → is_touched_by p i l ≡ false → IsQuiet p i l
untouched_quiet p i (Sent (Suggest from inst ticket)) e =
    record { promised = refl; proposed = λ b. rw e; accepted = refl; learned = refl; tried = refl }
untouched_quiet p i (Sent (Accepted from to inst ballot)) e =
    record { promised = rw e; proposed = λ b. refl; accepted = rw e; learned = refl; tried = refl }
untouched_quiet p i (Sent (Prepare from inst ballot)) e =
    record { promised = refl; proposed = λ b. refl; accepted = refl; learned = refl; tried = rw e }
untouched_quiet p i (Sent (Promise from to inst ballot reports)) e =
    record { promised = rw e; proposed = λ b. refl; accepted = refl; learned = refl; tried = refl }
untouched_quiet p i (Sent (Propose from inst ballot value)) e =
    record { promised = refl; proposed = λ b. rw e; accepted = refl; learned = refl; tried = refl }
untouched_quiet p i (Learned server inst value) e =
    record { promised = refl; proposed = λ b. refl; accepted = refl; learned = rw e; tried = refl }
untouched_quiet p i l e =
    record { promised = refl; proposed = λ b. refl; accepted = refl; learned = refl; tried = refl }

pub untouched_heard : (w : Trace) (p i : ℕ) (l : Line) → is_touched_by p i l ≡ false → heard_messages (l ∷ w) p
    ≡ heard_messages w p
untouched_heard w p i (Heard message server) e = rw e
untouched_heard w p i l e = refl

pub untouched : (m : Membership) (w : Trace) (p i : ℕ) (l : Line) → is_touched_by p i l ≡ false
    → slot_at m (l ∷ w) p i ≡ slot_at m w p i
untouched m w p i l e = slot_at-quiet m w l p i (untouched_quiet p i l e) (untouched_heard w p i l e)

counts_nothing : (i b : ℕ) (x : Message) → is_counted_at i b x ≡ false → IsUncounted i b x
counts_nothing i b (Promise from to inst ballot reports) e = uncounted_promise from to inst ballot i b reports e
counts_nothing i b (Accepted from to inst ballot) e = uncounted_acceptance from to inst ballot i b e
counts_nothing i b (Suggest from inst ticket) e = record { promise = λ q. refl; acceptance = λ q. refl; report = refl }
counts_nothing i b (Skip from first stop) e = record { promise = λ q. refl; acceptance = λ q. refl; report = refl }
counts_nothing i b (Prepare from inst ballot) e = record { promise = λ q. refl; acceptance = λ q. refl; report = refl }
counts_nothing i b (Propose from inst ballot value) e =
    record { promise = λ q. refl; acceptance = λ q. refl; report = refl }
counts_nothing i b (Learn from inst value) e = record { promise = λ q. refl; acceptance = λ q. refl; report = refl }

pub uncounted : (m : Membership) (w : Trace) (k p i : ℕ) (x : Message) → slice_get (sent_messages w) k ≡ Some x
    → is_counted_at i (tried_ballot w p i) x ≡ false
    → slot_at m (Heard k p ∷ w) p i ≡ slot_at m w p i
uncounted m w k p i x e none = slot_at-heard m w k p i x e (counts_nothing i (tried_ballot w p i) x none)

-- a line that proposes nothing at ballot b of i leaves the proposal there unchanged
still_proposed : (w : Trace) (l : Line) (i b : ℕ) → proposal_by i b l ≡ None → proposal (l ∷ w) i b ≡ proposal w i b
still_proposed w l i b none = oldest_quiet (proposal_by i b) l w none

pub proposal_elsewhere : (m : Membership) (w : Trace) (p q i b : ℕ) (z : Value) → IsVoted w p i → b ≢ tried_ballot w p i
    → slot_at m (Sent (Propose q i b z) ∷ w) p i ≡ slot_at m w p i
proposal_elsewhere m w p q i b z voted other =
    slot_at-proposing m w (Sent (Propose q i b z)) p i _ voted refl refl refl refl refl
    (ap (if_own m p i (tried_ballot w p i))
    (still_proposed w (Sent (Propose q i b z)) i (tried_ballot w p i)
    (rw (eq-eqb i i refl, ne_eqb b (tried_ballot w p i) other))))

pub suggestion_elsewhere : (m : Membership) (w : Trace) (p q i ticket : ℕ) → IsVoted w p i → owner m i ≢ p
    → slot_at m (Sent (Suggest q i ticket) ∷ w) p i ≡ slot_at m w p i
suggestion_elsewhere m w p q i ticket voted other =
    slot_at-proposing m w (Sent (Suggest q i ticket)) p i _ voted refl refl refl refl refl
    (⊎_elim
    (λ (tried : 0 < tried_ballot w p i). ap (if_own m p i (tried_ballot w p i))
    (still_proposed w (Sent (Suggest q i ticket)) i (tried_ballot w p i)
    (rw (eq-eqb i i refl, ne_eqb (tried_ballot w p i) 0 (λ zero. absurd (omega arith))))))
    (λ (untried : tried_ballot w p i ≤ 0). rw (ne_eqb (owner m i) p other, le-ltb 0 (tried_ballot w p i) untried))
    (cases_lt 0 (tried_ballot w p i)))

-- ---- repeats

pub message_twice : (m : Membership) (w : Trace) (k p i : ℕ) (x : Message) → slice_get (sent_messages w) k ≡ Some x
    → Contains (heard_messages w p) x
    → slot_at m (Heard k p ∷ w) p i ≡ slot_at m w p i
message_twice m w k p i x e before =
    slot_at-unsaid m w (Heard k p) p i (quiet_heard k p i) ∙ ap (slot_hearing m w p i) (heard_more w k p x e)
    ∙ same_slot _ _ refl refl refl refl refl
    (votes_more (vote_reported i (tried_ballot w p i)) (heard_messages w p) x
    ∙ higher_vote-stands _ _ (Stands-heard (vote_reported i (tried_ballot w p i)) (heard_messages w p) x before))
    refl
    (map-below_same _ _ m.count false
    (λ q h. any_again (is_promise i (tried_ballot w p i) q) (heard_messages w p) x before))
    (map-below_same _ _ m.count false
    (λ q h. any_again (is_acceptance i (tried_ballot w p i) q) (heard_messages w p) x before))
