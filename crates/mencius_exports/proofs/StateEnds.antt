-- A call for a state ends with its text or with a fault, if all of its texts were written.
use Rattle.std.specs.Prelude.{IfErr, IfSome, OnOk, true}
use Rattle.std.proofs.Common.{◌≡◌, ◌++◌, ◌∙◌, ℕ, List, [], Some, Result, Ok, Err, ap, subst, sym}
use Rattle.mencius_io.specs.declared.failure.Failure.{Failure}
use Rattle.mencius_input.specs.declared.kind.Kind.TheVariants.{Replay}
use Rattle.mencius_app.specs.Ending.{failure_in, lines_of_ending}
use Rattle.mencius_app.specs.Failures.{Fails, explained_as}
use Rattle.mencius_app.specs.Replay.{IsMadeOf}
use Rattle.mencius_app.specs.States.{state_task, state_text}
use Rattle.mencius_app.specs.Tasks.{Streams, Writes, streams}
use Rattle.mencius_app.specs.declared.ending.Ending.{Ending}
use Rattle.mencius_app.specs.declared.ending.Ending.TheVariants.{Failed}
use Rattle.mencius_exports.specs.Calls.{IsEndOfState, ending_of_state}
use Rattle.mencius_exports.proofs.CallEnds.{of}

-- the streams of a call before and after it, and the numbers of failed writes
module _ (input left before out err_1 err : List ℕ) (w_0 w_1 : ℕ) (before_is : before ≡ []) (err_is : err_1 ≡ [])
    (w_none : w_0 ≡ 0) (w_still : w_1 ≡ 0) where
  abbrev s : Streams
  s = streams (of input 0) (of left 0) (of before w_0) (of out w_1)

  abbrev IsFailed : Ending → Type 0
  IsFailed ending = IfSome (failure_in ending)
      (Fails (explained_as Replay state_task) (streams (of input 0) (of left 0) (of [] 0) (of out 0)))

  failed : (ending : Ending) → IfSome (failure_in ending) (Fails (explained_as Replay state_task) s) → IsFailed ending
  failed ending h =
      subst (λ o. IfSome (failure_in ending)
      (Fails (explained_as Replay state_task) (streams (of input 0) (of left 0) (of o 0) (of out 0)))) before_is
      (subst (λ n. IfSome (failure_in ending)
      (Fails (explained_as Replay state_task) (streams (of input 0) (of left 0) (of before n) (of out 0)))) w_none
      (subst (λ n. IfSome (failure_in ending)
      (Fails (explained_as Replay state_task) (streams (of input 0) (of left 0) (of before w_0) (of out n)))) w_still h))

  state_text_out : Writes state_task s true → IsMadeOf state_text (Some input) out
  state_text_out wrote =
      let all : out ≡ wrote.0 = wrote.2 ∙ ap (λ o. o ++ wrote.0) before_is in
      subst (IsMadeOf state_text (Some input)) (sym all) wrote.1.0

  pub state_ended : (done : Result (Unit {0}) Failure) → OnOk done (Writes state_task s true)
      → IfErr done (Fails (explained_as Replay state_task) s) → err ≡ err_1 ++ lines_of_ending (ending_of_state done)
      → IsEndOfState input (ending_of_state done) out err
  state_ended (Ok x) wrote fails said = record {
    done = λ _. state_text_out wrote;
    no_other = (λ e. absurd (cc), λ e. absurd (cc), λ e. absurd (cc));
    failed = (left, tt);
    told = said ∙ ap (λ e. e ++ []) err_is;
  }
  state_ended (Err failure) wrote fails said = record {
    done = λ e. absurd (cc);
    no_other = (λ e. absurd (cc), λ e. absurd (cc), λ e. absurd (cc));
    failed = (left, failed (Failed failure) fails);
    told = said ∙ ap (λ e. e ++ lines_of_ending (Failed failure)) err_is;
  }
