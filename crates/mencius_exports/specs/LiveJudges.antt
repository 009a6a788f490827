-- A judge that takes a log in pieces, and the reports that its host gets.
use Rattle.std.specs.Prelude.{◌≡◌, ◌≢◌, ◌⊎◌, ℕ, Bool, true, false, List, [], ◌++◌, Option, Some, None, IfSome, Result, Ok, Err}
use Rattle.mencius_io.specs.declared.failure.Failure.{Failure}
use Rattle.mencius_judge.specs.declared.log_reader.Verdict.{Verdict}
use Rattle.mencius_judge.specs.LogReader.{AreJudged}
use Rattle.mencius_judge.specs.Taken.{HasTaken, IsNotTaken}
use Rattle.mencius_app.specs.Ending.{ending_of, lines_of_ending, status_of_ending}
use Rattle.mencius_app.specs.Judgements.{IsJudgementOf}
use Rattle.mencius_exports.specs.Calls.{Tells, memory_status}
use Rattle.mencius_exports.specs.declared.answer.Answer.{Answer}
use Rattle.mencius_exports.specs.declared.call.Called.{Called}
use Rattle.mencius_exports.specs.declared.log_judge.LogJudge.{LogJudge}
use Rattle.mencius_exports.specs.declared.live_judge.LiveJudge.{LiveJudge}

-- ---- verdicts

-- the verdict on these bytes is right, or judging them fails in this way
abbrev pub IsJudgement : List ℕ → Result Verdict Failure → Type 0
IsJudgement bytes (Ok verdict) = AreJudged bytes verdict
IsJudgement bytes (Err failure) = IsNotTaken bytes failure

-- judging these bytes may have this result and print this text, as the task of the program does. A failure prints
-- nothing
abbrev pub IsJudged : Bool → Bool → List ℕ → Result Bool Failure → List ℕ → Type 0
IsJudged is_brief is_json bytes (Ok kept) printed = IsJudgementOf is_brief is_json (Some bytes) printed kept
IsJudged is_brief is_json bytes (Err failure) printed = IsNotTaken bytes failure × (printed ≡ [])

-- a call that judges these bytes may have this status and these texts. The only other possible result is that memory
-- ran out for the texts
abbrev pub IsJudgeCall : Bool → Bool → List ℕ → ℕ → List ℕ → List ℕ → Type 0
IsJudgeCall is_brief is_json bytes status printed said =
    ((done : Result Bool Failure) × IsJudged is_brief is_json bytes done printed
    × (status ≡ status_of_ending (ending_of true done)) × (said ≡ lines_of_ending (ending_of true done)))
    ⊎ ((status ≡ memory_status) × (printed ≡ []) × (said ≡ []))

-- this call judges these bytes, and wants no more of them
abbrev pub IsCalled : Bool → Bool → List ℕ → Called → Type 0
IsCalled is_brief is_json bytes called =
    IsJudgeCall is_brief is_json bytes called.status called.printed.items called.said.items × (called.is_asked ≡ false)

-- ---- the judge

-- without a verdict, the judge has judged each line of these bytes that has ended, and they keep all promises. A
-- verdict is right no matter what follows the bytes
abbrev pub HasReadUpTo : LogJudge → List ℕ → Option Called → Type 0
HasReadUpTo judging bytes None = HasTaken judging.reader bytes
HasReadUpTo judging bytes (Some called) = (rest : List ℕ) → IsCalled judging.is_brief judging.is_json (bytes ++ rest) called

-- the judge has taken these bytes
abbrev pub HasRead : LogJudge → List ℕ → Type 0
HasRead judging bytes = HasReadUpTo judging bytes judging.verdict

-- the judge still has its options, and its verdict if it had one
pub record Keeps (old new : LogJudge) : Type 0 where
  pub brief : new.is_brief ≡ old.is_brief
  pub json : new.is_json ≡ old.is_json
  pub verdict : (called : Called) → old.verdict ≡ Some called → new ≡ old

-- the judge took a piece of the log
pub record TakesPiece (piece : List ℕ) (old new : LogJudge) : Type 0 where
  pub keeps : Keeps old new
  pub taken : (before : List ℕ) → HasRead old before → HasRead new (before ++ piece)

-- ---- reports

-- with the flag there is a judge, and without it there is none
abbrev pub HoldsIf : Bool → Option LogJudge → Type 0
HoldsIf true held = held ≢ None
HoldsIf false held = held ≡ None

-- the flag says whether there is a judge
abbrev pub IsWhole : LiveJudge → Type 0
IsWhole judge = HoldsIf judge.is_begun judge.held.value

-- the `Answer` reports the verdict, or that the judge wants more bytes
abbrev pub Reports : Option Called → Answer → List ℕ → List ℕ → List ℕ → List ℕ → Type 0
Reports None answer out then_out err then_err = Tells answer 0 [] [] true out then_out err then_err
Reports (Some called) answer out then_out err then_err =
    Tells answer called.status called.printed.items called.said.items called.is_asked out then_out err then_err

-- the `Answer` reports a call that judges these bytes
abbrev pub ReportsOn : LogJudge → List ℕ → Answer → List ℕ → List ℕ → List ℕ → List ℕ → Type 0
ReportsOn judging bytes answer out then_out err then_err =
    (called : Called) × IsCalled judging.is_brief judging.is_json bytes called
    × Tells answer called.status called.printed.items called.said.items called.is_asked out then_out err then_err

-- the `Answer` reports the verdict on the bytes that the judge has taken, as if the log ended there
abbrev pub ReportsEnd : LogJudge → Answer → List ℕ → List ℕ → List ℕ → List ℕ → Type 0
ReportsEnd judging answer out then_out err then_err =
    (bytes : List ℕ) → HasRead judging bytes → ReportsOn judging bytes answer out then_out err then_err

-- the judge took a piece, and its report was given. Without a judge, the report is that there is no memory
abbrev pub TakesFrom : List ℕ → Option LogJudge → Option LogJudge → Answer
    → List ℕ → List ℕ → List ℕ → List ℕ → Type 0
TakesFrom piece None after answer out then_out err then_err =
    (after ≡ None) × Tells answer memory_status [] [] false out then_out err then_err
TakesFrom piece (Some judging) after answer out then_out err then_err =
    (next : LogJudge) × (after ≡ Some next) × TakesPiece piece judging next
    × Reports next.verdict answer out then_out err then_err

-- the judge of a host took a piece, and its report was given
abbrev pub TakesBytes : List ℕ → LiveJudge → LiveJudge → Answer → List ℕ → List ℕ → List ℕ → List ℕ → Type 0
TakesBytes piece old new answer out then_out err then_err =
    IsWhole new × TakesFrom piece old.held.value new.held.value answer out then_out err then_err

-- the verdict of the judge was given. Without a judge, the report is that there is no memory
abbrev pub EndsFrom : Option LogJudge → Answer → List ℕ → List ℕ → List ℕ → List ℕ → Type 0
EndsFrom None answer out then_out err then_err = Tells answer memory_status [] [] false out then_out err then_err
EndsFrom (Some judging) answer out then_out err then_err = ReportsEnd judging answer out then_out err then_err

-- the judge of a host stayed the same, and its verdict was given
abbrev pub Ends : LiveJudge → LiveJudge → Answer → List ℕ → List ℕ → List ℕ → List ℕ → Type 0
Ends old new answer out then_out err then_err =
    IsWhole new × (new.held.value ≡ old.held.value) × EndsFrom old.held.value answer out then_out err then_err

-- there is a judge that has these options and has taken nothing, or no judge
abbrev pub Begins : Bool → Bool → LiveJudge → Type 0
Begins is_brief is_json new =
    IsWhole new × IfSome new.held.value
    (λ judging. (judging.is_brief ≡ is_brief) × (judging.is_json ≡ is_json) × HasRead judging [])
