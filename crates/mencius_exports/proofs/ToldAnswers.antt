-- The `Answer` reports the call, or that there was no memory for it.
use mir.Val.{bool_byte}
use Rattle.std.specs.Prelude.{IfOk, MatchResult}
use Rattle.std.proofs.Common.{◌≡◌, ℕ, Bool, true, false, List, [], Result, Ok, Err, inl, inr, refl, subst}
use Rattle.mencius_exports.specs.declared.answer.Answer.{Answer}
use Rattle.mencius_exports.specs.declared.call.Called.{Called}
use Rattle.mencius_exports.specs.Calls.{Answers, Tells, asked_number, memory_status}

pub number_is : (is_asked : Bool) → bool_byte is_asked ≡ asked_number is_asked
number_is true = refl
number_is false = refl

-- after a call that ran out of memory, the `Answer` has the status for this and reports two empty texts
pub told_of_none : (answer : Answer) (status : ℕ) (printed said : List ℕ) (is_asked : Bool)
    (out then_out err then_err : List ℕ) → status ≡ memory_status → printed ≡ [] → said ≡ [] → is_asked ≡ false
    → Tells answer status printed said is_asked out then_out err then_err
    → Tells answer memory_status [] [] false out then_out err then_err
told_of_none answer status printed said is_asked out then_out err then_err status_is printed_is said_is asked_is told =
    subst (λ a. Tells answer memory_status [] [] a out then_out err then_err) asked_is
    (subst (λ s. Tells answer memory_status [] s is_asked out then_out err then_err) said_is
    (subst (λ p. Tells answer memory_status p said is_asked out then_out err then_err) printed_is
    (subst (λ n. Tells answer n printed said is_asked out then_out err then_err) status_is told)))

-- the `Answer` is right after a call that has a result and after a call that ran out of memory
pub answers : {E : Type 0} (IsSuchCall : ℕ → List ℕ → List ℕ → Bool → Type 0) (call : Result Called E) (answer : Answer)
    (out then_out err then_err : List ℕ)
    → IfOk call (λ x. IsSuchCall x.status x.printed.items x.said.items x.is_asked)
    → MatchResult call (λ x. Tells answer x.status x.printed.items x.said.items x.is_asked out then_out err then_err)
    (λ _. Tells answer memory_status [] [] false out then_out err then_err)
    → Answers IsSuchCall answer out then_out err then_err
answers IsSuchCall (Ok x) answer out then_out err then_err is told =
    inl (x.status, x.printed.items, x.said.items, x.is_asked, is, told)
answers IsSuchCall (Err e) answer out then_out err then_err is told = inr told
