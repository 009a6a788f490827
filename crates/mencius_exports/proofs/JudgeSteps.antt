-- The steps of a judge that takes a log in pieces, before and after it has its verdict.
use Rattle.std.specs.Prelude.{IfErr, IfOk}
use Rattle.std.proofs.Common.{◌≡◌, ◌++◌, ℕ, Bool, true, false, List, [], Option, Some, None, Result, Ok, Err, inl, append_assoc, append-nil, subst, sym}
use Rattle.core.specs.Option.{is_some}
use Rattle.mencius_io.specs.declared.failure.Failure.{Failure}
use Rattle.mencius_judge.specs.Taken.{HasTaken, IsNotTaken}
use Rattle.mencius_judge.specs.LogReader.{AreBroken, AreJudged}
use Rattle.mencius_judge.specs.declared.log_reader.Breach.{Breach}
use Rattle.mencius_judge.specs.declared.log_reader.LogReader.{LogReader}
use Rattle.mencius_judge.specs.declared.log_reader.Verdict.{Verdict}
use Rattle.mencius_app.specs.Ending.{ending_of, lines_of_ending, status_of_ending}
use Rattle.mencius_exports.specs.LiveJudges.{EndsFrom, HasReadUpTo, IsCalled, IsJudged, IsJudgement, Reports, ReportsEnd, TakesFrom, TakesPiece}
use Rattle.mencius_exports.specs.declared.answer.Answer.{Answer}
use Rattle.mencius_exports.specs.declared.call.Called.{Called}
use Rattle.mencius_exports.specs.declared.log_judge.LogJudge.{LogJudge}

-- a judge without a verdict has processed the bytes
pub taken_without : (judging : LogJudge) (bytes : List ℕ) (verdict : Option Called) → false ≡ is_some verdict
    → HasReadUpTo judging bytes verdict → HasTaken judging.reader bytes
taken_without judging bytes None none read = read
taken_without judging bytes (Some called) none read = absurd (cc)

-- after a verdict, the judge has also taken any bytes that follow
pub taken_with : (judging : LogJudge) (bytes piece : List ℕ) (verdict : Option Called) → true ≡ is_some verdict
    → HasReadUpTo judging bytes verdict → HasReadUpTo judging (bytes ++ piece) verdict
taken_with judging bytes piece None some read = absurd (cc)
taken_with judging bytes piece (Some called) some read =
    λ rest. subst (λ all. IsCalled judging.is_brief judging.is_json all called)
    (sym (append_assoc bytes piece rest)) (read (piece ++ rest))

-- a verdict that is right no matter what follows is right at the end of the log
pub right_with : (judging : LogJudge) (bytes : List ℕ) (verdict : Option Called) (called : Called)
    → verdict ≡ Some called → HasReadUpTo judging bytes verdict
    → IsCalled judging.is_brief judging.is_json bytes called
right_with judging bytes verdict called is read =
    subst (λ all. IsCalled judging.is_brief judging.is_json all called) (append-nil bytes)
    (subst (HasReadUpTo judging bytes) is read [])

-- a judge that was found and put back took its piece
pub took : (piece : List ℕ) (before after : Option LogJudge) (judging next shown : LogJudge)
    (answer : Answer) (out then_out err then_err : List ℕ) → before ≡ Some judging → after ≡ Some next
    → TakesPiece piece judging next → shown ≡ next → Reports shown.verdict answer out then_out err then_err
    → TakesFrom piece before after answer out then_out err then_err
took piece before after judging next shown answer out then_out err then_err found put step same told =
    subst (λ held. TakesFrom piece held after answer out then_out err then_err) (sym found) (
      next,
      put,
      step,
      subst (λ x. Reports x.verdict answer out then_out err then_err) same told,
    )

-- a judge that was found gave its verdict on the bytes that it had taken
pub ended : (before : Option LogJudge) (judging shown : LogJudge)
    (answer : Answer) (out then_out err then_err : List ℕ) → before ≡ Some judging → shown ≡ judging
    → ReportsEnd shown answer out then_out err then_err → EndsFrom before answer out then_out err then_err
ended before judging shown answer out then_out err then_err found same told =
    subst (λ held. EndsFrom held answer out then_out err then_err) (sym found)
    (subst (λ x. ReportsEnd x answer out then_out err then_err) same told)

-- the result at the end of a log is right for the bytes that were taken
pub judged_at_end : (reader : LogReader) (result : Result Verdict Failure)
    → IfOk result (λ verdict. (bytes : List ℕ) → HasTaken reader bytes → AreJudged bytes verdict)
    → IfErr result (λ x. (bytes : List ℕ) → HasTaken reader bytes → IsNotTaken bytes x)
    → (bytes : List ℕ) → HasTaken reader bytes → IsJudgement bytes result
judged_at_end reader (Ok verdict) kept fault bytes taken = kept bytes taken
judged_at_end reader (Err failure) kept fault bytes taken = fault bytes taken

-- a call reports a judgement if it has the status, the text and the lines that belong to it
pub called_with : {E : Type 0} (IsSuch : List ℕ → Type 0) (call : Result Called E) (done : Result Bool Failure)
    (printed : List ℕ) (is_brief is_json : Bool) → IfOk call (λ x. x.status ≡ status_of_ending (ending_of true done))
    → IfOk call (λ x. x.printed.items ≡ printed)
    → IfOk call (λ x. x.said.items ≡ lines_of_ending (ending_of true done)) → IfOk call (λ x. x.is_asked ≡ false)
    → ((bytes : List ℕ) → IsSuch bytes → IsJudged is_brief is_json bytes done printed)
    → IfOk call (λ x. (bytes : List ℕ) → IsSuch bytes → IsCalled is_brief is_json bytes x)
called_with IsSuch (Ok x) done printed is_brief is_json status_is printed_is said_is asked_is such =
    λ bytes is. (
      inl (
        done,
        subst (IsJudged is_brief is_json bytes done) (sym printed_is) (such bytes is),
        status_is,
        said_is,
      ),
      asked_is,
    )
called_with IsSuch (Err e) done printed is_brief is_json status_is printed_is said_is asked_is such = tt

-- a breach that was taken out of its box is right
pub broken_with : (bytes : List ℕ) (x y : Breach) → y ≡ x
    → AreBroken bytes x.number x.violation x.quotes.items → AreBroken bytes y.number y.violation y.quotes.items
broken_with bytes x y same broken =
    subst (λ (b : Breach). AreBroken bytes b.number b.violation b.quotes.items) (sym same) broken
