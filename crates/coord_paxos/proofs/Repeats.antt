-- Counting the same promise or acceptance twice changes nothing.
use Rattle.std.proofs.Common.{◌≡◌, ℕ, Bool, true, false, Option, Some, None, refl, ◌∙◌, ap, cond, eqb, ◌&&◌}
use Rattle.std.specs.Prelude.{is_none}
use Rattle.std.proofs.lemmas.List.{set-set}
use Rattle.mencius_base.specs.declared.message.Value.{Value}
use Rattle.mencius_base.specs.declared.message.Vote.{Vote}
use Rattle.coord_paxos.specs.Slot.{acceptance_answer, after_acceptance, after_promise, due_decision, due_proposal, promise_answer, with_acceptance, with_learned, with_promise, with_proposal}
use Rattle.coord_paxos.specs.SlotState.{SlotState}
use Rattle.mencius_model.proofs.trace.Reports.{higher_vote_twice}

-- ---- promises

with_promise_twice : (s : SlotState) (q : ℕ) (o : Option Vote)
    → with_promise (with_promise s q o) q o ≡ with_promise s q o
with_promise_twice s q o = rw (set-set s.promises q true true, higher_vote_twice s.reported o)

-- a promise that adds nothing to a slot is ignored, if no proposal is due
promise_ignored : (s : SlotState) (q b : ℕ) (o : Option Vote) → with_promise s q o ≡ s → due_proposal s ≡ None
    → (after_promise s q b o ≡ s) × (promise_answer s q b o ≡ None)
promise_ignored s q b o same done = either (eqb b s.trying)
  where
    either : (d : Bool)
        → (cond d (with_proposal (with_promise s q o) (due_proposal (with_promise s q o))) s ≡ s)
        × (cond d (due_proposal (with_promise s q o)) None ≡ None)
    either true = (
      ap (λ (r : SlotState). with_proposal r (due_proposal r)) same ∙ ap (with_proposal s) done,
      ap due_proposal same
          ∙ done,
    )
    either false = (refl, refl)

-- no proposal is due once one is recorded
proposed_once : (l : Option Value) (a : Bool) (z x : Value)
    → cond ((is_none l && is_none (Some z)) && a) (Some x) None ≡ None
proposed_once None a z x = refl
proposed_once (Some y) a z x = refl

promise_noted : (s : SlotState) (q : ℕ) (r : Option Vote) → with_promise s q r ≡ s → (o : Option Value)
    → due_proposal s ≡ o
    → (with_promise (with_proposal s o) q r ≡ with_proposal s o) × (due_proposal (with_proposal s o) ≡ None)
promise_noted s q r same None e = (same, e)
promise_noted s q r same (Some x) e =
    (ap (λ (y : SlotState). with_proposal y (Some x)) same, proposed_once s.learned _ x _)

pub promise_twice : (s : SlotState) (q b : ℕ) (o : Option Vote)
    → (after_promise (after_promise s q b o) q b o ≡ after_promise s q b o)
    × (promise_answer (after_promise s q b o) q b o ≡ None)
promise_twice s q b o = either (eqb b s.trying) refl
  where
    either : (a : Bool) → eqb b s.trying ≡ a
        → (after_promise (cond a (with_proposal (with_promise s q o) (due_proposal (with_promise s q o))) s) q b o
        ≡ cond a (with_proposal (with_promise s q o) (due_proposal (with_promise s q o))) s)
        × (promise_answer (cond a (with_proposal (with_promise s q o) (due_proposal (with_promise s q o))) s) q b o ≡ None)
    either true e =
        let noted = promise_noted (with_promise s q o) q o (with_promise_twice s q o)
        (due_proposal (with_promise s q o)) refl in
        promise_ignored (with_proposal (with_promise s q o) (due_proposal (with_promise s q o))) q b o noted.0 noted.1
    either false e = (
      ap (λ (a : Bool). cond a (with_proposal (with_promise s q o) (due_proposal (with_promise s q o))) s) e,
      ap (λ (a : Bool). cond a (due_proposal (with_promise s q o)) None) e,
    )

-- ---- acceptances

with_acceptance_twice : (s : SlotState) (q : ℕ) → with_acceptance (with_acceptance s q) q ≡ with_acceptance s q
with_acceptance_twice s q = rw (set-set s.accepts q true true)

-- an acceptance that adds nothing to a slot is ignored, if no value is decided
acceptance_ignored : (s : SlotState) (q b : ℕ) → with_acceptance s q ≡ s → due_decision s ≡ None
    → (after_acceptance s q b ≡ s) × (acceptance_answer s q b ≡ None)
acceptance_ignored s q b same done = either (eqb b s.trying)
  where
    either : (a : Bool)
        → (cond a (with_learned (with_acceptance s q) (due_decision (with_acceptance s q))) s ≡ s)
        × (cond a (due_decision (with_acceptance s q)) None ≡ None)
    either true = (
      ap (λ (r : SlotState). with_learned r (due_decision r)) same ∙ ap (with_learned s) done,
      ap due_decision same
          ∙ done,
    )
    either false = (refl, refl)

acceptance_noted : (s : SlotState) (q : ℕ) → with_acceptance s q ≡ s → (o : Option Value) → due_decision s ≡ o
    → (with_acceptance (with_learned s o) q ≡ with_learned s o) × (due_decision (with_learned s o) ≡ None)
acceptance_noted s q same None e = (same, e)
acceptance_noted s q same (Some x) e = (ap (λ (r : SlotState). with_learned r (Some x)) same, refl)

pub acceptance_twice : (s : SlotState) (q b : ℕ)
    → (after_acceptance (after_acceptance s q b) q b ≡ after_acceptance s q b)
    × (acceptance_answer (after_acceptance s q b) q b ≡ None)
acceptance_twice s q b = either (eqb b s.trying) refl
  where
    either : (a : Bool) → eqb b s.trying ≡ a
        → (after_acceptance (cond a (with_learned (with_acceptance s q) (due_decision (with_acceptance s q))) s) q b
        ≡ cond a (with_learned (with_acceptance s q) (due_decision (with_acceptance s q))) s)
        × (acceptance_answer (cond a (with_learned (with_acceptance s q) (due_decision (with_acceptance s q))) s) q b ≡ None)
    either true e =
        let counted = with_acceptance s q in
        let noted = acceptance_noted counted q (with_acceptance_twice s q) (due_decision counted) refl in
        acceptance_ignored (with_learned counted (due_decision counted)) q b noted.0 noted.1
    either false e = (
      ap (λ (a : Bool). cond a (with_learned (with_acceptance s q) (due_decision (with_acceptance s q))) s) e,
      ap (λ (a : Bool). cond a (due_decision (with_acceptance s q)) None) e,
    )
