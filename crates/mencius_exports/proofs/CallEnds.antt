-- A call over bytes in memory ends as a call of the program does, if all of its texts were written.
use Rattle.std.specs.Prelude.{IfOk}
use Rattle.std.proofs.Common.{◌≡◌, ◌⊎◌, ◌≤◌, ◌∙◌, ℕ, Bool, List, [], Some, Result, Ok, Err, ap, ap₂, subst, sym, arith, inl, inr}
use Rattle.clap.specs.Words.{Text}
use Rattle.mencius_io.specs.Streams.{HasFailed, StreamState}
use Rattle.mencius_app.specs.Calls.{IsProgramCall, call_streams}
use Rattle.mencius_app.specs.Tasks.{StreamUse, used}
use Rattle.mencius_app.specs.declared.ending.Ending.{Ending}
use Rattle.mencius_exports.specs.declared.call.Called.{Called}
use Rattle.mencius_exports.specs.Calls.{gets_text}

-- the state of a stream with known bytes and this number of failed calls
abbrev pub of : List ℕ → ℕ → StreamState
of bytes failures = record { bytes = Some bytes; failures = failures }

none_failed : (old new : ℕ) → new ≤ 0 → HasFailed old new → ⊥
none_failed old new none (inl more) = omega (arith, more, none)
none_failed old new none (inr most) = omega (arith, most, none)

-- if a fact holds unless a write failed, and no write failed, then the fact holds
pub written : {X : Type 0} (old new : ℕ) → new ≤ 0 → X ⊎ HasFailed old new → X
written old new none (inl x) = x
written old new none (inr failed) = absurd (none_failed old new none failed)

-- one stream has the states of another one in a call, and stays the same if the other one does
abbrev pub Follows : StreamUse → StreamUse → Type 0
Follows u v = (u.state u.old ≡ v.state v.old) × (u.state u.new ≡ v.state v.new) × (u.new ≡ u.old → v.new ≡ v.old)

-- a text in memory is an empty writer if no write failed
pub text_follows : {T : Type 0} (bytes : T → List ℕ) (failures : T → ℕ) (old new : T) → bytes old ≡ []
    → failures old ≡ 0 → failures new ≡ 0
    → Follows (used (λ text. of (bytes text) (failures text)) old new) (gets_text (bytes new))
text_follows bytes failures old new empty none still =
    (ap₂ of empty none, ap (of (bytes new)) still, λ same. ap bytes same ∙ empty)

-- a call of the program is also one over streams that follow its own
pub followed : (arguments : List Text) (ending : Ending) (source sink errors then_source then_sink then_errors : StreamUse)
    → Follows source then_source → Follows sink then_sink → Follows errors then_errors
    → IsProgramCall arguments (call_streams source sink errors) ending
    → IsProgramCall arguments (call_streams then_source then_sink then_errors) ending
followed arguments ending source sink errors then_source then_sink then_errors r w e h = record {
  call = rw (r.0, r.1, w.0, w.1) at h.call;
  unread = λ is. r.2 (h.unread is);
  unwritten = λ is. w.2 (h.unwritten is);
  complaint = rw (e.0, e.1) at h.complaint;
  quiet = λ other. e.2 (h.quiet other);
}

-- the result of a call has a property if it has this property whenever all of its texts were written
pub ended_call : {E : Type 0} (IsSuchCall : ℕ → List ℕ → List ℕ → Bool → Type 0) (call : Result Called E)
    (status failed_writes failed_says : ℕ) (printed said : List ℕ) (is_asked : Bool)
    → IfOk call (λ _. (failed_writes ≡ 0) × (failed_says ≡ 0)) → IfOk call (λ x. x.status ≡ status)
    → IfOk call (λ x. x.printed.items ≡ printed) → IfOk call (λ x. x.said.items ≡ said)
    → IfOk call (λ x. x.is_asked ≡ is_asked)
    → (failed_writes ≡ 0 → failed_says ≡ 0 → IsSuchCall status printed said is_asked)
    → IfOk call (λ x. IsSuchCall x.status x.printed.items x.said.items x.is_asked)
ended_call IsSuchCall (Ok x) status failed_writes failed_says printed said is_asked whole status_is printed_is said_is asked_is such =
    subst (λ n. IsSuchCall n x.printed.items x.said.items x.is_asked) (sym status_is)
    (subst (λ p. IsSuchCall status p x.said.items x.is_asked) (sym printed_is)
    (subst (λ s. IsSuchCall status printed s x.is_asked) (sym said_is)
    (subst (λ a. IsSuchCall status printed said a) (sym asked_is) (such whole.0 whole.1))))
ended_call IsSuchCall (Err e) status failed_writes failed_says printed said is_asked whole status_is printed_is said_is asked_is such =
    tt
