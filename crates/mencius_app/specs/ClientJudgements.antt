-- The text of a judgement of what clients saw, and the log that it belongs to.
use Rattle.std.specs.Prelude.{◌≡◌, ◌⊎◌, ◌<◌, ℕ, Bool, true, false, if◌then◌else◌, List, [], ◌++◌, Option, IfSome, length}
use Rattle.mencius_io.specs.Streams.{most_bytes}
use Rattle.mencius_io.specs.declared.fault.IoFault.{IoFault}
use Rattle.mencius_io.specs.declared.fault.IoFault.TheVariants.{BadLimit}
use Rattle.mencius_log.specs.BadLines.{ExplainsLine}
use Rattle.mencius_clients.specs.declared.client_verdict.ClientVerdict.{ClientVerdict}
use Rattle.mencius_clients.specs.declared.client_verdict.ClientVerdict.TheVariants.{Linearizable, Unjudged, NotLinearizable, Broken, Undecided}
use Rattle.mencius_clients.specs.ClientJson.{client_json}
use Rattle.mencius_clients.specs.ClientLines.{client_explanation, client_verdict_line, order_lines}
use Rattle.mencius_clients.specs.ClientVerdicts.{IsVerdictFor}
use Rattle.mencius_clients.specs.ReadLogs.{IsBadAt}
use Rattle.mencius_command_line.specs.declared.client_options.ClientOptions.{ClientOptions}
use Rattle.mencius_app.specs.Failures.{ExplainedTask, Explanation}
use Rattle.mencius_app.specs.Tasks.{Task}

-- the lines of the order of a verdict, as the executions of one server. Only a linearizable log has an order
abbrev pub order_text : ClientVerdict → List ℕ
order_text (Linearizable counts order) = order_lines order.items
order_text (Unjudged counts) = []
order_text (NotLinearizable number key quotes fitting) = []
order_text (Broken number violation) = []
order_text (Undecided number key cause) = []

-- the text that follows the line of a verdict: the lines that explain it, unless it is to be brief, and the order if it
-- was requested
abbrev pub further_text : ClientOptions → ClientVerdict → List ℕ
further_text options verdict =
    (if options.is_brief then [] else client_explanation verdict) ++ (if options.with_order then order_text verdict else [])

-- the line of the verdict and the text after it, or one JSON object
abbrev pub client_text : ClientOptions → ClientVerdict → List ℕ
client_text options verdict =
    if options.is_json then client_json options.with_order verdict else client_verdict_line verdict ++ further_text options verdict

-- whether a verdict says that the log is linearizable
abbrev pub is_linearizable : ClientVerdict → Bool
is_linearizable (Linearizable counts order) = true
is_linearizable (Unjudged counts) = false
is_linearizable (NotLinearizable number key quotes fitting) = false
is_linearizable (Broken number violation) = false
is_linearizable (Undecided number key cause) = false

-- the text reports a verdict on some bytes, and `kept` says whether the verdict is that they are linearizable. If the
-- reader's bytes are known, they are these bytes
pub record IsClientJudgementOf (options : ClientOptions) (known : Option (List ℕ)) (text : List ℕ) (kept : Bool)
    : Type 0 where
  pub verdict : ClientVerdict
  pub on : (bytes : List ℕ) × IfSome known (λ all. all ≡ bytes) × IsVerdictFor bytes options.most verdict
  pub is : text ≡ client_text options verdict
  pub says : kept ≡ is_linearizable verdict

-- a line of the bytes has this fault, or there are too many bytes
abbrev pub IsBadLog : List ℕ → IoFault → Type 0
IsBadLog bytes fault = ((fault ≡ BadLimit) × (most_bytes < length bytes)) ⊎ ((number : ℕ) × IsBadAt bytes fault number)

-- the task of judging what clients saw, with its options. Its text is clean exactly if the log is linearizable
abbrev pub clients_task : ClientOptions → Task
clients_task options = record {
  IsText = IsClientJudgementOf options;
  IsBadInput = λ known fault. IfSome known (λ bytes. IsBadLog bytes fault);
}

-- the words name the number of a line of the log that has this fault
abbrev pub ExplainsBadLine : Explanation
ExplainsBadLine fault bytes words = (number : ℕ) × IsBadAt bytes fault number × ExplainsLine number words

abbrev pub explained_clients : ClientOptions → ExplainedTask
explained_clients options = record { task = clients_task options; Tells = ExplainsBadLine }
