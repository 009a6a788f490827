-- Hearing a Learn, Prepare, Suggest, Accepted or Promise has the effect that the model gives to its delivery.
use Rattle.std.proofs.Common.{◌≡◌, ℕ, ◌+◌, ◌<◌, ◌≤◌, Bool, true, false, List, [], ◌∷◌, ◌++◌, Option, Some, None, refl, sym, ◌∙◌, ap, subst, arith, cond, leb, ltb, eqb, ◌&&◌, ⊎_elim}
use Rattle.std.specs.Prelude.{slice_get, is_none}
use Rattle.std.proofs.lemmas.Bool.{ltb-true, leb-true, eqb-true, eq-eqb, ne_eqb, lt-ltb, cases_lt}
use Rattle.mencius_base.specs.declared.message.Answer.{Answer}
use Rattle.mencius_base.specs.declared.message.Answer.TheVariants.{Promise as Promised, Known, Silent}
use Rattle.mencius_base.specs.declared.message.Message.TheVariants.{Suggest, Skip, Accepted, Prepare, Promise, Propose, Learn}
use Rattle.mencius_base.specs.declared.message.Value.{Value}
use Rattle.mencius_base.specs.declared.message.Value.TheVariants.{Ticket}
use Rattle.mencius_base.specs.declared.message.Vote.{Vote}
use Rattle.mencius_base.specs.Members.{Membership, first_owned, owner}
use Rattle.mencius_model.specs.Trace.{Line, Heard, Sent, Learned, Trace, followed_by, sent_messages, messages_of}
use Rattle.mencius_model.specs.Instance.{promised_ballot, proposal, tried_ballot, learned_value, accepted_ballot, accepters, promisers, reported_vote, vote, are_majority, IsVoted}
use Rattle.mencius_model.specs.Server.{front}
use Rattle.mencius_model.specs.Next.{learned_count, due_proposal_at, due_decision_at}
use Rattle.mencius_model.specs.Rules.{answer_lines, decision_lines, due_decision_from, due_proposal_from, prepare_answer_from, proposal_lines, own_skip_lines, acceptance_lines, learning_lines}
use Rattle.mencius_model.proofs.trace.OneMoreLine.{greater_ballot-none}
use Rattle.coord_paxos.specs.SlotState.{SlotState}
use Rattle.coord_paxos.specs.Slot.{acceptance_answer, promise_answer, after_answer, after_promise, with_proposal, due_proposal, with_promise, after_accept, after_prepare, after_learn, after_acceptance, with_learned, due_decision, with_acceptance}
use Rattle.coord_paxos.specs.Reached.{if_own, slot_at}
use Rattle.coord_paxos.proofs.SlotTrace.{slot_at-quiet, slot_at-heard, slot_at-heard_acceptance, slot_at-heard_promise, slot_at-proposed, slot_at-accepted, slot_at-promised, slot_at-learned}
use Rattle.coord_paxos.proofs.SlotLaws.{acceptance_answered, promise_answered}
use Rattle.mencius_model.proofs.trace.QuietLines.{quiet_propose, quiet_accepted, quiet_promise, quiet_learned, quiet_learn, quiet_skip, IsUncounted}
use Rattle.mencius_model.proofs.trace.ServerSets.{or-true}
use Rattle.mencius_server.specs.State.{slot, with_slot, with_slot_and_front}
use Rattle.mencius_server.specs.Machine.{after_prepare_at, next_front}
use Rattle.mencius_server.specs.Reached.{server_at}
use Rattle.mencius_server.proofs.events.ServerTrace.{Meets, server_written, slot-server_at}
use Rattle.mencius_base.specs.Limits.{instance_count}

-- ---- Learn

uncounted_learn : (q i : ℕ) (z : Value) (j c : ℕ) → IsUncounted j c (Learn q i z)
uncounted_learn q i z j c = record { promise = λ r. refl; acceptance = λ r. refl; report = refl }

learn_cases : (m : Membership) (w : Trace) (k p q i : ℕ) (z : Value) → i < instance_count
    → slice_get (sent_messages w) k ≡ Some (Learn q i z)
    → (o : Option Value) → learned_value w p i ≡ o
    → Meets m w k p (Learn q i z) (cond (is_none o) (Learned p i z ∷ []) [])
learn_cases m w k p q i z small e None un = record {
  sends = refl;
  learns = rw (slot-server_at m w p i small, un);
  state =
      ap (λ (s : SlotState). with_slot (server_at m w p) i (after_learn s z)) (slot-server_at m w p i small)
      ∙ ap (λ (o : Option Value). with_slot (server_at m w p) i
      (cond (is_none o) (record (slot_at m w p i) { learned = Some z }) (slot_at m w p i))) un
      ∙ server_written m w (Learned p i z ∷ Heard k p ∷ w) p i (front m w p) _ (omega arith)
      (slot_at-learned m (Heard k p ∷ w) p i z (rw un)
      ∙ ap (λ (s : SlotState). record s { learned = Some z })
      (slot_at-heard m w k p i _ e (uncounted_learn q i z i (tried_ballot w p i))))
      (λ j ne. slot_at-quiet m (Heard k p ∷ w) (Learned p i z) p j (quiet_learned p i j z ne) refl
      ∙ slot_at-heard m w k p j _ e (uncounted_learn q i z j (tried_ballot w p j)));
}
learn_cases m w k p q i z small e (Some y) un = record {
  sends = refl;
  learns = rw (slot-server_at m w p i small, un);
  state =
      ap (λ (s : SlotState). with_slot (server_at m w p) i (after_learn s z)) (slot-server_at m w p i small)
      ∙ ap (λ (o : Option Value). with_slot (server_at m w p) i
      (cond (is_none o) (record (slot_at m w p i) { learned = Some z }) (slot_at m w p i))) un
      ∙ server_written m w (Heard k p ∷ w) p i (front m w p) _ (omega arith)
      (slot_at-heard m w k p i _ e (uncounted_learn q i z i (tried_ballot w p i)))
      (λ j ne. slot_at-heard m w k p j _ e (uncounted_learn q i z j (tried_ballot w p j)));
}

pub meets_learn : (m : Membership) (w : Trace) (k p q i : ℕ) (z : Value) → i < instance_count
    → slice_get (sent_messages w) k ≡ Some (Learn q i z)
    → Meets m w k p (Learn q i z) (learning_lines p i z (learned_value w p i))
meets_learn m w k p q i z small e = learn_cases m w k p q i z small e (learned_value w p i) refl

-- ---- Prepare

uncounted_prepare : (q i b : ℕ) (j c : ℕ) → IsUncounted j c (Prepare q i b)
uncounted_prepare q i b j c = record { promise = λ r. refl; acceptance = λ r. refl; report = refl }

-- After a Prepare, the server has the slot that the slot's answer leaves.
prepare_state : (m : Membership) (w : Trace) (p i b : ℕ) (answer : Answer) → i < instance_count
    → prepare_answer_from (promised_ballot w p i) (vote w p i) b (learned_value w p i) ≡ answer
    → after_prepare_at (server_at m w p) i b
    ≡ with_slot (server_at m w p) i (after_answer (slot_at m w p i) b answer)
prepare_state m w p i b answer small is =
    ap (λ (s : SlotState). with_slot (server_at m w p) i (after_prepare s b)) (slot-server_at m w p i small)
    ∙ ap (λ (x : Answer). with_slot (server_at m w p) i (after_answer (slot_at m w p i) b x)) is

unlearned_cases : (m : Membership) (w : Trace) (k p q i b : ℕ) → i < instance_count
    → slice_get (sent_messages w) k ≡ Some (Prepare q i b)
    → learned_value w p i ≡ None → (a : Bool) → ltb (promised_ballot w p i) b ≡ a
    → Meets m w k p (Prepare q i b) (answer_lines p q i b (cond a (Promised (vote w p i)) Silent))
unlearned_cases m w k p q i b small e un true high = record {
  sends = rw (slot-server_at m w p i small, un, high);
  learns = refl;
  state =
      prepare_state m w p i b (Promised (vote w p i)) small (rw (un, high))
      ∙ (server_written m w (Sent (Promise p q i b (vote w p i)) ∷ Heard k p ∷ w) p i (front m w p) _ (omega arith)
      (slot_at-promised m (Heard k p ∷ w) p q i b (vote w p i)
      (let above : promised_ballot w p i < b = ltb-true _ _ high in
      omega arith)
      ∙ ap (λ (s : SlotState). record s { promised = b })
      (slot_at-heard m w k p i _ e (uncounted_prepare q i b i (tried_ballot w p i))))
      (λ j ne. slot_at-quiet m (Heard k p ∷ w) (Sent (Promise p q i b (vote w p i))) p j
      (quiet_promise p q i b j (vote w p i) ne) refl
      ∙ slot_at-heard m w k p j _ e (uncounted_prepare q i b j (tried_ballot w p j))));
}
unlearned_cases m w k p q i b small e un false low = record {
  sends = rw (slot-server_at m w p i small, un, low);
  learns = refl;
  state =
      prepare_state m w p i b Silent small (rw (un, low))
      ∙ (server_written m w (Heard k p ∷ w) p i (front m w p) _ (omega arith)
      (slot_at-heard m w k p i _ e (uncounted_prepare q i b i (tried_ballot w p i)))
      (λ j ne. slot_at-heard m w k p j _ e (uncounted_prepare q i b j (tried_ballot w p j))));
}

prepare_cases : (m : Membership) (w : Trace) (k p q i b : ℕ) → i < instance_count
    → slice_get (sent_messages w) k ≡ Some (Prepare q i b)
    → (o : Option Value) → learned_value w p i ≡ o
    → Meets m w k p (Prepare q i b)
    (answer_lines p q i b (prepare_answer_from (promised_ballot w p i) (vote w p i) b o))
prepare_cases m w k p q i b small e None un =
    unlearned_cases m w k p q i b small e un (ltb (promised_ballot w p i) b) refl
prepare_cases m w k p q i b small e (Some x) known = record {
  sends = rw (slot-server_at m w p i small, known);
  learns = refl;
  state =
      prepare_state m w p i b (Known x) small (rw known)
      ∙ (server_written m w (Sent (Learn p i x) ∷ Heard k p ∷ w) p i (front m w p) _ (omega arith)
      (slot_at-quiet m (Heard k p ∷ w) (Sent (Learn p i x)) p i (quiet_learn p p i i x) refl
      ∙ slot_at-heard m w k p i _ e (uncounted_prepare q i b i (tried_ballot w p i)))
      (λ j ne. slot_at-quiet m (Heard k p ∷ w) (Sent (Learn p i x)) p j (quiet_learn p p i j x) refl
      ∙ slot_at-heard m w k p j _ e (uncounted_prepare q i b j (tried_ballot w p j))));
}

pub meets_prepare : (m : Membership) (w : Trace) (k p q i b : ℕ) → i < instance_count
    → slice_get (sent_messages w) k ≡ Some (Prepare q i b)
    → Meets m w k p (Prepare q i b) (answer_lines p q i b (prepare_answer_from (promised_ballot w p i) (vote w p i) b (learned_value w p i)))
meets_prepare m w k p q i b small e = prepare_cases m w k p q i b small e (learned_value w p i) refl

-- ---- Suggest

uncounted_suggest : (q i t : ℕ) (j c : ℕ) → IsUncounted j c (Suggest q i t)
uncounted_suggest q i t j c = record { promise = λ r. refl; acceptance = λ r. refl; report = refl }

-- At the trace v, server p has the slots of the trace w and the front f.
pub record IsSkipping (m : Membership) (w v : Trace) (p f : ℕ) : Type 0 where
  pub slots : (j : ℕ) → slot_at m v p j ≡ slot_at m w p j
  pub front : front m v p ≡ f

-- The slot after it accepts the ticket t at ballot 0.
abbrev with_ticket : SlotState → ℕ → SlotState
with_ticket s t = record s { promised = 0; vote = Some (record { ballot = 0; value = Ticket t }) }

suggest_accepts : (m : Membership) (w v : Trace) (p q i f : ℕ) (t : ℕ) → IsSkipping m w v p f
    → proposal v i 0 ≡ Some (Ticket t)
    → (a : Bool) → leb (promised_ballot w p i) 0 ≡ a
    → with_slot_and_front (server_at m w p) i (cond a (with_ticket (slot_at m w p i) t) (slot_at m w p i)) f
    ≡ server_at m (followed_by v (cond a (Sent (Accepted p q i 0) ∷ []) [])) p
suggest_accepts m w v p q i f t skips said true free =
    let none : promised_ballot v p i ≡ promised_ballot w p i = ap (λ (s : SlotState). s.promised) (skips.slots i) in
    let zero : promised_ballot w p i ≤ 0 = leb-true _ _ free in
    server_written m w (Sent (Accepted p q i 0) ∷ v) p i f _ (rw (← skips.front) (omega arith))
    (slot_at-accepted m v p q i 0 (Ticket t) (omega arith) said
    ∙ ap (λ (s : SlotState). with_ticket s t) (skips.slots i))
    (λ j ne. slot_at-quiet m v (Sent (Accepted p q i 0)) p j (quiet_accepted p q i 0 j ne) refl ∙ skips.slots j)
suggest_accepts m w v p q i f t skips said false taken =
    server_written m w v p i f _ skips.front (skips.slots i) (λ j ne. skips.slots j)

suggest_skips : (m : Membership) (w : Trace) (k p q i t : ℕ) → i < instance_count
    → slice_get (sent_messages w) k ≡ Some (Suggest q i t)
    → (a : Bool) → ltb (front m w p) i ≡ a
    → IsSkipping m w
    (followed_by (Heard k p ∷ w) (cond a (Sent (Skip p (front m w p) (first_owned m p (i + 1))) ∷ []) [])) p
    (cond a (first_owned m p (i + 1)) (front m w p))
suggest_skips m w k p q i t small e true ahead = record {
  slots = λ j. slot_at-quiet m (Heard k p ∷ w) (Sent (Skip p (front m w p) (first_owned m p (i + 1)))) p j
      (quiet_skip p p _ _ j) refl
      ∙ slot_at-heard m w k p j _ e (uncounted_suggest q i t j (tried_ballot w p j));
  front = let past : front m w p < i = ltb-true _ _ ahead in rw (eq-eqb p p refl) (omega arith);
}
suggest_skips m w k p q i t small e false behind = record {
  slots = λ j. slot_at-heard m w k p j _ e (uncounted_suggest q i t j (tried_ballot w p j));
  front = omega arith;
}

-- The lines of a suggestion, with a Skip if `a` is true, and an acceptance if `d` is true.
abbrev suggest_lines : Membership → Trace → ℕ → ℕ → ℕ → Bool → Bool → List Line
suggest_lines m w p q i a d =
    cond a (Sent (Skip p (front m w p) (first_owned m p (i + 1))) ∷ []) [] ++ cond d (Sent (Accepted p q i 0) ∷ []) []

suggest_messages : (m : Membership) (w : Trace) (p q i : ℕ) (a d : Bool)
    → (messages_of (cond a (Sent (Skip p (front m w p) (first_owned m p (i + 1))) ∷ []) [])
    ++ messages_of (cond d (Sent (Accepted p q i 0) ∷ []) []))
    ≡ messages_of (suggest_lines m w p q i a d)
suggest_messages m w p q i true true = refl
suggest_messages m w p q i true false = refl
suggest_messages m w p q i false true = refl
suggest_messages m w p q i false false = refl

suggest_learnings : (m : Membership) (w : Trace) (p q i : ℕ) (a d : Bool)
    → 0 ≡ learned_count (suggest_lines m w p q i a d)
suggest_learnings m w p q i true true = refl
suggest_learnings m w p q i true false = refl
suggest_learnings m w p q i false true = refl
suggest_learnings m w p q i false false = refl

-- After these lines, the server has the new front and has accepted the ticket if `d` is true.
suggest_state : (m : Membership) (w : Trace) (k p q i t : ℕ) → i < instance_count
    → slice_get (sent_messages w) k ≡ Some (Suggest q i t) → proposal w i 0 ≡ Some (Ticket t)
    → (a d : Bool) → ltb (front m w p) i ≡ a → leb (promised_ballot w p i) 0 ≡ d
    → with_slot_and_front (server_at m w p) i (cond d (with_ticket (slot_at m w p i) t) (slot_at m w p i))
    (cond a (first_owned m p (i + 1)) (front m w p))
    ≡ server_at m (followed_by (Heard k p ∷ w) (suggest_lines m w p q i a d)) p
suggest_state m w k p q i t small e said true d ahead free =
    suggest_accepts m w _ p q i _ t (suggest_skips m w k p q i t small e true ahead) (rw said) d free
suggest_state m w k p q i t small e said false d ahead free =
    suggest_accepts m w _ p q i _ t (suggest_skips m w k p q i t small e false ahead) (rw said) d free

suggest_cases : (m : Membership) (w : Trace) (k p q i t : ℕ) → i < instance_count
    → slice_get (sent_messages w) k ≡ Some (Suggest q i t) → proposal w i 0 ≡ Some (Ticket t)
    → (a d : Bool) → ltb (front m w p) i ≡ a → leb (promised_ballot w p i) 0 ≡ d
    → Meets m w k p (Suggest q i t) (suggest_lines m w p q i a d)
suggest_cases m w k p q i t small e said a d ahead free = record {
  sends = rw (slot-server_at m w p i small, ahead, free) (suggest_messages m w p q i a d);
  learns = suggest_learnings m w p q i a d;
  state =
      ap (λ (s : SlotState). with_slot_and_front (server_at m w p) i (after_accept s 0 (Ticket t))
      (next_front (server_at m w p) i)) (slot-server_at m w p i small)
      ∙ ap (λ (x : Bool). with_slot_and_front (server_at m w p) i
      (cond x (with_ticket (slot_at m w p i) t) (slot_at m w p i)) (next_front (server_at m w p) i)) free
      ∙ ap (λ (x : Bool). with_slot_and_front (server_at m w p) i
      (cond d (with_ticket (slot_at m w p i) t) (slot_at m w p i))
      (cond x (first_owned m p (i + 1)) (front m w p))) ahead
      ∙ suggest_state m w k p q i t small e said a d ahead free;
}

pub meets_suggest : (m : Membership) (w : Trace) (k p q i t : ℕ) → i < instance_count
    → slice_get (sent_messages w) k ≡ Some (Suggest q i t) → proposal w i 0 ≡ Some (Ticket t)
    → Meets m w k p (Suggest q i t) (own_skip_lines m p (front m w p) i ++ acceptance_lines p q i 0 (promised_ballot w p i))
meets_suggest m w k p q i t small e said =
    suggest_cases m w k p q i t small e said (ltb (front m w p) i) (leb (promised_ballot w p i) 0) refl refl

-- ---- Accepted

uncounted_accepted : (from to i b j c : ℕ) → (eqb i j && eqb b c) ≡ false → IsUncounted j c (Accepted from to i b)
uncounted_accepted from to i b j c other = record { promise = λ r. refl; acceptance = λ r. rw other; report = refl }

elsewhere : (i j b c : ℕ) → (j ≡ i → ⊥) → (eqb i j && eqb b c) ≡ false
elsewhere i j b c ne = rw (ne_eqb i j (λ e. ne (sym e)))

-- A proposal at ballot b counts as p's own if p owns the instance or b is above 0.
own_said : (m : Membership) (p i b : ℕ) (o : Option Value) → (b ≡ 0 → owner m i ≡ p) → if_own m p i b o ≡ o
own_said m p i b o mine =
    ⊎_elim
    (λ (tried : 0 < b). rw (lt-ltb 0 b tried, or-true (eqb (owner m i) p)))
    (λ (untried : b ≤ 0). let zero : b ≡ 0 = omega arith in rw (eq-eqb (owner m i) p (mine zero)))
    (cases_lt 0 b)

-- If a decision is due, the instance is unlearned.
unlearned_learns : (o : Option Value) (a : Bool) (x : Option Value) (z : Value)
    → cond (is_none o && a) x None ≡ Some z → o ≡ None
unlearned_learns None a x z e = refl
unlearned_learns (Some y) a x z e = absurd (cc)

learn_decided : (m : Membership) (w : Trace) (k p from i : ℕ) → i < instance_count
    → slice_get (sent_messages w) k ≡ Some (Accepted from p i (tried_ballot w p i))
    → (o : Option Value) → due_decision (with_acceptance (slot_at m w p i) from) ≡ o
    → with_slot (server_at m w p) i (with_learned (with_acceptance (slot_at m w p i) from) o)
    ≡ server_at m (followed_by (Heard k p ∷ w) (decision_lines p i o)) p
learn_decided m w k p from i small e None un =
    server_written m w (Heard k p ∷ w) p i (front m w p) _ (omega arith)
    (slot_at-heard_acceptance m w k p i from e)
    (λ j ne. slot_at-heard m w k p j _ e
    (uncounted_accepted from p i (tried_ballot w p i) j (tried_ballot w p j)
    (elsewhere i j (tried_ballot w p i) (tried_ballot w p j) ne)))
learn_decided m w k p from i small e (Some x) decided =
    let un : learned_value w p i ≡ None = unlearned_learns (learned_value w p i) _ _ x decided in
    server_written m w (Sent (Learn p i x) ∷ Learned p i x ∷ Heard k p ∷ w) p i (front m w p) _ (omega arith)
    (slot_at-quiet m (Learned p i x ∷ Heard k p ∷ w) (Sent (Learn p i x)) p i (quiet_learn p p i i x) refl
    ∙ slot_at-learned m (Heard k p ∷ w) p i x (rw un)
    ∙ ap (λ (s : SlotState). record s { learned = Some x }) (slot_at-heard_acceptance m w k p i from e))
    (λ j ne. slot_at-quiet m (Learned p i x ∷ Heard k p ∷ w) (Sent (Learn p i x)) p j (quiet_learn p p i j x) refl
    ∙ slot_at-quiet m (Heard k p ∷ w) (Learned p i x) p j (quiet_learned p i j x ne) refl
    ∙ slot_at-heard m w k p j _ e
    (uncounted_accepted from p i (tried_ballot w p i) j (tried_ballot w p j)
    (elsewhere i j (tried_ballot w p i) (tried_ballot w p j) ne)))

accepted_tried : (m : Membership) (w : Trace) (k p from i : ℕ) → i < instance_count
    → slice_get (sent_messages w) k ≡ Some (Accepted from p i (tried_ballot w p i))
    → Meets m w k p (Accepted from p i (tried_ballot w p i))
    (decision_lines p i (due_decision (with_acceptance (slot_at m w p i) from)))
accepted_tried m w k p from i small e =
    let answer : acceptance_answer (slot (server_at m w p) i) from (tried_ballot w p i)
    ≡ due_decision (with_acceptance (slot_at m w p i) from) =
    ap (λ (s : SlotState). acceptance_answer s from (tried_ballot w p i)) (slot-server_at m w p i small)
    ∙ ap (λ (a : Bool). cond a (due_decision (with_acceptance (slot_at m w p i) from)) None)
    (eq-eqb (tried_ballot w p i) (tried_ballot w p i) refl) in
    record {
      sends = ap (λ (o : Option Value). messages_of (decision_lines p i o)) answer;
      learns = ap (λ (o : Option Value). learned_count (decision_lines p i o)) answer;
      state =
          ap (λ (s : SlotState). with_slot (server_at m w p) i (after_acceptance s from (tried_ballot w p i)))
          (slot-server_at m w p i small)
          ∙ ap (λ (a : Bool). with_slot (server_at m w p) i
          (cond a (with_learned (with_acceptance (slot_at m w p i) from)
          (due_decision (with_acceptance (slot_at m w p i) from))) (slot_at m w p i)))
          (eq-eqb (tried_ballot w p i) (tried_ballot w p i) refl)
          ∙ learn_decided m w k p from i small e (due_decision (with_acceptance (slot_at m w p i) from)) refl;
    }

-- The slot and the trace give the same lines for a decision.
accepted_lines : (m : Membership) (w : Trace) (k p from i : ℕ) → (tried_ballot w p i ≡ 0 → owner m i ≡ p)
    → slice_get (sent_messages w) k ≡ Some (Accepted from p i (tried_ballot w p i))
    → decision_lines p i (due_decision (with_acceptance (slot_at m w p i) from))
    ≡ decision_lines p i (due_decision_at m w (Heard k p ∷ w) p i (tried_ballot w p i))
accepted_lines m w k p from i mine e =
    ap (decision_lines p i)
    (ap (λ (a : Bool). cond a (due_decision (with_acceptance (slot_at m w p i) from)) None)
    (sym (eq-eqb (tried_ballot w p i) (tried_ballot w p i) refl))
    ∙ acceptance_answered m w k p i from (tried_ballot w p i) e mine)

accepted_cases : (m : Membership) (w : Trace) (k p from i b : ℕ) → i < instance_count → (b ≡ 0 → owner m i ≡ p)
    → slice_get (sent_messages w) k ≡ Some (Accepted from p i b)
    → (d : Bool) → eqb b (tried_ballot w p i) ≡ d
    → Meets m w k p (Accepted from p i b) (decision_lines p i (due_decision_at m w (Heard k p ∷ w) p i b))
accepted_cases m w k p from i b small mine e true same =
    let tried : tried_ballot w p i ≡ b = sym (eqb-true b (tried_ballot w p i) same) in
    let P : ℕ → Type 0 =
    λ c. (c ≡ 0 → owner m i ≡ p) → slice_get (sent_messages w) k ≡ Some (Accepted from p i c)
    → Meets m w k p (Accepted from p i c) (decision_lines p i (due_decision_at m w (Heard k p ∷ w) p i c)) in
    subst P tried
    (λ own said. subst (λ (ls : List Line). Meets m w k p (Accepted from p i (tried_ballot w p i)) ls)
    (accepted_lines m w k p from i own said) (accepted_tried m w k p from i small said))
    mine e
accepted_cases m w k p from i b small mine e false other = record {
  sends = ap (λ (o : Option Value). messages_of (decision_lines p i o)) (stale from) ∙ ap messages_of no_lines;
  learns = ap (λ (o : Option Value). learned_count (decision_lines p i o)) (stale from) ∙ ap learned_count no_lines;
  state =
      ap (λ (s : SlotState). with_slot (server_at m w p) i (after_acceptance s from b)) (slot-server_at m w p i small)
      ∙ ap (λ (d : Bool). with_slot (server_at m w p) i
      (cond d (with_learned (with_acceptance (slot_at m w p i) from)
      (due_decision (with_acceptance (slot_at m w p i) from))) (slot_at m w p i))) other
      ∙ server_written m w (Heard k p ∷ w) p i (front m w p) _ (omega arith)
      (slot_at-heard m w k p i _ e (uncounted_accepted from p i b i (tried_ballot w p i) (rw (eq-eqb i i refl, other))))
      (λ j ne. slot_at-heard m w k p j _ e
      (uncounted_accepted from p i b j (tried_ballot w p j) (elsewhere i j b (tried_ballot w p j) ne)))
      ∙ ap (λ (ls : List Line). server_at m (followed_by (Heard k p ∷ w) ls) p) no_lines;
}
  where
    no_lines : [] ≡ decision_lines p i (due_decision_at m w (Heard k p ∷ w) p i b)
    no_lines = ap
        (λ (d : Bool). decision_lines p i
        (cond d (due_decision_from (learned_value w p i) (proposal w i b)
        (are_majority m (accepters (Heard k p ∷ w) p i b))) None))
        (sym other)

    stale : (from : ℕ) → acceptance_answer (slot (server_at m w p) i) from b ≡ None
    stale from =
        ap (λ (s : SlotState). acceptance_answer s from b) (slot-server_at m w p i small)
        ∙ ap (λ (d : Bool). cond d (due_decision (with_acceptance (slot_at m w p i) from)) None) other

pub meets_accepted : (m : Membership) (w : Trace) (k p from i b : ℕ) → i < instance_count → (b ≡ 0 → owner m i ≡ p)
    → slice_get (sent_messages w) k ≡ Some (Accepted from p i b)
    → Meets m w k p (Accepted from p i b) (decision_lines p i (due_decision_at m w (Heard k p ∷ w) p i b))
meets_accepted m w k p from i b small mine e =
    accepted_cases m w k p from i b small mine e (eqb b (tried_ballot w p i)) refl

-- ---- Promise

uncounted_promise : (from to i b : ℕ) (o : Option Vote) (j c : ℕ) → (eqb i j && eqb b c) ≡ false
    → IsUncounted j c (Promise from to i b o)
uncounted_promise from to i b o j c other =
    record { promise = λ r. rw other; acceptance = λ r. refl; report = rw other }

counts_proposal : (p i b : ℕ) (o : Option Value) → 0 ≡ learned_count (proposal_lines p i b o)
counts_proposal p i b None = refl
counts_proposal p i b (Some x) = refl

-- If a proposal is due, nothing was proposed before.
unsaid_proposes : (a d : Bool) (o x : Option Value) (z : Value) → cond ((a && is_none o) && d) x None ≡ Some z
    → o ≡ None
unsaid_proposes true d None x z e = refl
unsaid_proposes true d (Some y) x z e = absurd (cc)
unsaid_proposes false d o x z e = absurd (cc)

propose_decided : (m : Membership) (w : Trace) (k p from i : ℕ) (r : Option Vote) → i < instance_count
    → 0 < tried_ballot w p i → IsVoted w p i
    → slice_get (sent_messages w) k ≡ Some (Promise from p i (tried_ballot w p i) r)
    → (o : Option Value) → due_proposal (with_promise (slot_at m w p i) from r) ≡ o
    → with_slot (server_at m w p) i (with_proposal (with_promise (slot_at m w p i) from r) o)
    ≡ server_at m (followed_by (Heard k p ∷ w) (proposal_lines p i (tried_ballot w p i) o)) p
propose_decided m w k p from i r small high voted e None un =
    server_written m w (Heard k p ∷ w) p i (front m w p) _ (omega arith)
    (slot_at-heard_promise m w k p i from r e)
    (λ j ne. slot_at-heard m w k p j _ e
    (uncounted_promise from p i (tried_ballot w p i) r j (tried_ballot w p j)
    (elsewhere i j (tried_ballot w p i) (tried_ballot w p j) ne)))
propose_decided m w k p from i r small high voted e (Some x) decided =
    let ahead : front m (Sent (Propose p i (tried_ballot w p i) x) ∷ Heard k p ∷ w) p ≡ front m w p = omega arith in
    let tried : tried_ballot w p i ≡ tried_ballot (Heard k p ∷ w) p i = omega arith in
    let unsaid : proposal w i (tried_ballot w p i) ≡ None =
    sym (own_said m p i (tried_ballot w p i) (proposal w i (tried_ballot w p i)) (λ z. absurd (omega arith)))
    ∙ unsaid_proposes _ _ _ _ x decided in
    server_written m w (Sent (Propose p i (tried_ballot w p i) x) ∷ Heard k p ∷ w) p i (front m w p) _ ahead
    (slot_at-proposed m (Heard k p ∷ w) p i (tried_ballot w p i) x (voted_after m w k p i voted) high tried (rw unsaid)
    ∙ ap (λ (s : SlotState). record s { proposal = Some x }) (slot_at-heard_promise m w k p i from r e))
    (λ j ne. slot_at-quiet m (Heard k p ∷ w) (Sent (Propose p i (tried_ballot w p i) x)) p j
    (quiet_propose p i (tried_ballot w p i) j x ne) refl
    ∙ slot_at-heard m w k p j _ e
    (uncounted_promise from p i (tried_ballot w p i) r j (tried_ballot w p j)
    (elsewhere i j (tried_ballot w p i) (tried_ballot w p j) ne)))
  where
    voted_after : (m : Membership) (w : Trace) (k p i : ℕ) → IsVoted w p i → IsVoted (Heard k p ∷ w) p i
    voted_after m w k p i voted = record {
      proposal =
          λ b e. let said =
          voted.proposal b (sym (greater_ballot-none (accepted_ballot w p i)) ∙ e) in (said.0, rw said.1);
    }

-- The slot and the trace give the same lines for a proposal.
promise_lines : (m : Membership) (w : Trace) (k p from i : ℕ) (o : Option Vote) → 0 < tried_ballot w p i
    → slice_get (sent_messages w) k ≡ Some (Promise from p i (tried_ballot w p i) o)
    → proposal_lines p i (tried_ballot w p i) (due_proposal (with_promise (slot_at m w p i) from o))
    ≡ proposal_lines p i (tried_ballot w p i) (due_proposal_at m w (Heard k p ∷ w) p i (tried_ballot w p i))
promise_lines m w k p from i o high e =
    ap (proposal_lines p i (tried_ballot w p i))
    (ap (λ (a : Bool). cond a (due_proposal (with_promise (slot_at m w p i) from o)) None)
    (sym (eq-eqb (tried_ballot w p i) (tried_ballot w p i) refl))
    ∙ promise_answered m w k p i from (tried_ballot w p i) o e high)

promise_tried : (m : Membership) (w : Trace) (k p from i : ℕ) (r : Option Vote) → i < instance_count
    → 0 < tried_ballot w p i → IsVoted w p i
    → slice_get (sent_messages w) k ≡ Some (Promise from p i (tried_ballot w p i) r)
    → Meets m w k p (Promise from p i (tried_ballot w p i) r)
    (proposal_lines p i (tried_ballot w p i) (due_proposal (with_promise (slot_at m w p i) from r)))
promise_tried m w k p from i r small high voted e =
    let answer : promise_answer (slot (server_at m w p) i) from (tried_ballot w p i) r
    ≡ due_proposal (with_promise (slot_at m w p i) from r) =
    ap (λ (s : SlotState). promise_answer s from (tried_ballot w p i) r) (slot-server_at m w p i small)
    ∙ ap (λ (a : Bool). cond a (due_proposal (with_promise (slot_at m w p i) from r)) None)
    (eq-eqb (tried_ballot w p i) (tried_ballot w p i) refl) in
    record {
      sends = ap (λ (o : Option Value). messages_of (proposal_lines p i (tried_ballot w p i) o)) answer;
      learns = counts_proposal p i (tried_ballot w p i) (due_proposal (with_promise (slot_at m w p i) from r));
      state =
          ap (λ (s : SlotState). with_slot (server_at m w p) i (after_promise s from (tried_ballot w p i) r))
          (slot-server_at m w p i small)
          ∙ ap (λ (a : Bool). with_slot (server_at m w p) i
          (cond a (with_proposal (with_promise (slot_at m w p i) from r)
          (due_proposal (with_promise (slot_at m w p i) from r))) (slot_at m w p i)))
          (eq-eqb (tried_ballot w p i) (tried_ballot w p i) refl)
          ∙ propose_decided m w k p from i r small high voted e
          (due_proposal (with_promise (slot_at m w p i) from r)) refl;
    }

promise_cases : (m : Membership) (w : Trace) (k p from i b : ℕ) (r : Option Vote) → i < instance_count → 0 < b
    → IsVoted w p i → slice_get (sent_messages w) k ≡ Some (Promise from p i b r)
    → (d : Bool) → eqb b (tried_ballot w p i) ≡ d
    → Meets m w k p (Promise from p i b r) (proposal_lines p i b (due_proposal_at m w (Heard k p ∷ w) p i b))
promise_cases m w k p from i b r small high voted e true same =
    let tried : tried_ballot w p i ≡ b = sym (eqb-true b (tried_ballot w p i) same) in
    let P : ℕ → Type 0 =
    λ c. 0 < c → slice_get (sent_messages w) k ≡ Some (Promise from p i c r)
    → Meets m w k p (Promise from p i c r) (proposal_lines p i c (due_proposal_at m w (Heard k p ∷ w) p i c)) in
    subst P tried
    (λ above said. subst (λ (ls : List Line). Meets m w k p (Promise from p i (tried_ballot w p i) r) ls)
    (promise_lines m w k p from i r above said) (promise_tried m w k p from i r small above voted said))
    high e
promise_cases m w k p from i b r small high voted e false other = record {
  sends = ap (λ (o : Option Value). messages_of (proposal_lines p i b o)) stale ∙ ap messages_of no_lines;
  learns = ap learned_count no_lines;
  state =
      ap (λ (s : SlotState). with_slot (server_at m w p) i (after_promise s from b r)) (slot-server_at m w p i small)
      ∙ ap (λ (d : Bool). with_slot (server_at m w p) i
      (cond d (with_proposal (with_promise (slot_at m w p i) from r)
      (due_proposal (with_promise (slot_at m w p i) from r))) (slot_at m w p i))) other
      ∙ server_written m w (Heard k p ∷ w) p i (front m w p) _ (omega arith)
      (slot_at-heard m w k p i _ e
      (uncounted_promise from p i b r i (tried_ballot w p i) (rw (eq-eqb i i refl, other))))
      (λ j ne. slot_at-heard m w k p j _ e
      (uncounted_promise from p i b r j (tried_ballot w p j) (elsewhere i j b (tried_ballot w p j) ne)))
      ∙ ap (λ (ls : List Line). server_at m (followed_by (Heard k p ∷ w) ls) p) no_lines;
}
  where
    no_lines : [] ≡ proposal_lines p i b (due_proposal_at m w (Heard k p ∷ w) p i b)
    no_lines = ap
        (λ (d : Bool). proposal_lines p i b
        (cond d
        (due_proposal_from (learned_value w p i) (proposal w i b) (are_majority m (promisers (Heard k p ∷ w) p i b))
        (reported_vote (Heard k p ∷ w) p i b)) None)) (sym other)

    stale : promise_answer (slot (server_at m w p) i) from b r ≡ None
    stale =
        ap (λ (s : SlotState). promise_answer s from b r) (slot-server_at m w p i small)
        ∙ ap (λ (d : Bool). cond d (due_proposal (with_promise (slot_at m w p i) from r)) None) other

pub meets_promise : (m : Membership) (w : Trace) (k p from i b : ℕ) (o : Option Vote) → i < instance_count → 0 < b
    → IsVoted w p i → slice_get (sent_messages w) k ≡ Some (Promise from p i b o)
    → Meets m w k p (Promise from p i b o) (proposal_lines p i b (due_proposal_at m w (Heard k p ∷ w) p i b))
meets_promise m w k p from i b o small high voted e =
    promise_cases m w k p from i b o small high voted e (eqb b (tried_ballot w p i)) refl
