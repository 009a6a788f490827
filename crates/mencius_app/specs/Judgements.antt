-- The text of a judgement, and the log that it belongs to.
use Rattle.std.specs.Prelude.{◌≡◌, ℕ, Bool, true, false, if◌then◌else◌, List, Option, IfSome}
use Rattle.mencius_judge.specs.declared.log_reader.Verdict.{Verdict}
use Rattle.mencius_judge.specs.declared.log_reader.Verdict.TheVariants.{Kept, Unjudged, Broken}
use Rattle.mencius_log.specs.BadLines.{ExplainsLine}
use Rattle.mencius_judge.specs.LogReader.{AreBad, IsVerdictOf}
use Rattle.mencius_verdict.specs.VerdictJson.{json_text}
use Rattle.mencius_verdict.specs.VerdictLines.{broken_line, explained_text, kept_line, unjudged_line}
use Rattle.mencius_app.specs.Failures.{ExplainedTask, Explanation}
use Rattle.mencius_app.specs.Tasks.{Task}

-- the text that reports a verdict. A brief text has only the line of the verdict
abbrev pub report_text : Bool → Verdict → List ℕ
report_text is_brief (Kept counts) = kept_line counts
report_text is_brief (Unjudged counts) = unjudged_line counts
report_text true (Broken breach) = broken_line breach.number breach.violation
report_text false (Broken breach) = explained_text breach.number breach.violation breach.quotes.items

-- the text that reports a verdict, perhaps as a JSON object
abbrev pub verdict_text : Bool → Bool → Verdict → List ℕ
verdict_text is_brief is_json verdict = if is_json then json_text verdict else report_text is_brief verdict

-- whether a verdict says that all promises are kept and something was judged
abbrev pub is_kept : Verdict → Bool
is_kept (Kept counts) = true
is_kept (Unjudged counts) = false
is_kept (Broken breach) = false

-- the text reports a verdict on some bytes, and `kept` says whether the verdict is that all promises are kept and
-- something was judged. If the reader's bytes are known, they are these bytes
pub record IsJudgementOf (is_brief is_json : Bool) (known : Option (List ℕ)) (text : List ℕ) (kept : Bool) : Type 0 where
  pub verdict : Verdict
  pub on : IsVerdictOf known verdict
  pub is : text ≡ verdict_text is_brief is_json verdict
  pub says : kept ≡ is_kept verdict

-- the task of judging, with its options. Its text is clean exactly if all promises are kept and something was judged. Its
-- input is bad if a line has this fault, and the lines before it keep all promises
abbrev pub judge_task : Bool → Bool → Task
judge_task is_brief is_json = record {
  IsText = IsJudgementOf is_brief is_json;
  IsBadInput = λ known fault. IfSome known (λ bytes. (number : ℕ) × AreBad bytes fault number);
}

-- the words name the number of a line of the log that has this fault
abbrev pub ExplainsByLine : Explanation
ExplainsByLine fault bytes words = (number : ℕ) × AreBad bytes fault number × ExplainsLine number words

abbrev pub explained_judgement : Bool → Bool → ExplainedTask
explained_judgement is_brief is_json = record { task = judge_task is_brief is_json; Tells = ExplainsByLine }
