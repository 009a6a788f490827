-- The text that reports a verdict on a log that clients saw.
use Rattle.std.specs.Prelude.{ℕ, List, [], ◌∷◌, ◌++◌, codes, decimal, flat_map, string_bytes}
use Rattle.mencius_base.specs.declared.command.CommandId.{CommandId}
use Rattle.mencius_log.specs.declared.observation.Answer.{Answer}
use Rattle.mencius_log.specs.declared.observation.Observation.TheVariants.{Execute}
use Rattle.mencius_log.specs.ObservationLines.{answer_text, observation_line}
use Rattle.mencius_verdict.specs.VerdictLines.{broken_line, quote_lines}
use Rattle.mencius_clients.specs.declared.client_lines.TheConstants.{FITTING_SENTENCE}
use Rattle.mencius_clients.specs.declared.client_counts.ClientCounts.{ClientCounts}
use Rattle.mencius_clients.specs.declared.client_verdict.ClientVerdict.{ClientVerdict}
use Rattle.mencius_clients.specs.declared.client_verdict.ClientVerdict.TheVariants.{Linearizable, Unjudged, NotLinearizable, Broken, Undecided}
use Rattle.mencius_clients.specs.declared.client_verdict.GiveUp.{GiveUp}
use Rattle.mencius_clients.specs.declared.client_verdict.GiveUp.TheVariants.{Waiting, Configurations}

-- a word, and then the counts of a log
abbrev pub counted_line : List ℕ → ClientCounts → List ℕ
counted_line word c =
    word ++ (codes " commands " ++ decimal c.commands ++ codes " replies " ++ decimal c.replies
    ++ codes " lost " ++ decimal c.lost ++ codes " keys " ++ decimal c.keys ++ 10 ∷ [])

-- the words for the first line with which a log has no linearization
abbrev pub without_text : ℕ → List ℕ → List ℕ
without_text number key = codes "violation " ++ (decimal number ++ (codes " Linearizable key " ++ key))

-- the line that reports it
abbrev pub without_line : ℕ → List ℕ → List ℕ
without_line number key = without_text number key ++ 10 ∷ []

-- the words for the reason why a search was given up
abbrev pub cause_text : GiveUp → List ℕ
cause_text (Waiting count) = codes " waiting " ++ decimal count ++ 10 ∷ []
cause_text (Configurations most) = codes " configurations " ++ decimal most ++ 10 ∷ []

-- the line that reports a search that was given up
abbrev pub undecided_line : ℕ → List ℕ → GiveUp → List ℕ
undecided_line number key cause = (codes "undecided " ++ decimal number ++ codes " key " ++ key) ++ cause_text cause

-- the line that reports a verdict
abbrev pub client_verdict_line : ClientVerdict → List ℕ
client_verdict_line (Linearizable counts order) = counted_line (codes "linearizable") counts
client_verdict_line (Unjudged counts) = counted_line (codes "unjudged") counts
client_verdict_line (NotLinearizable number key quotes fitting) = without_line number (string_bytes key)
client_verdict_line (Broken number violation) = broken_line number violation
client_verdict_line (Undecided number key cause) = undecided_line number (string_bytes key) cause

-- the sentences that say why a log has no linearization
abbrev pub fitting_sentence : List ℕ
fitting_sentence = FITTING_SENTENCE.now

-- the words that name one fitting answer or more
abbrev pub named_text : Answer → List Answer → List ℕ
named_text first others =
    codes " The last reply could be " ++ (answer_text first
    ++ (flat_map (λ x. codes " or " ++ answer_text x) others ++ codes " instead."))

-- the words that name the fitting answers
abbrev pub fitting_text : List Answer → List ℕ
fitting_text [] = []
fitting_text (first ∷ others) = named_text first others

-- the words that explain a log without a linearization
abbrev pub said_text : List Answer → List ℕ
said_text answers = fitting_sentence ++ fitting_text answers

-- the lines that explain a verdict. Only a log without a linearization has them
abbrev pub client_explanation : ClientVerdict → List ℕ
client_explanation (Linearizable counts order) = []
client_explanation (Unjudged counts) = []
client_explanation (NotLinearizable number key quotes fitting) =
    quote_lines quotes.items ++ (said_text fitting.items ++ 10 ∷ [])
client_explanation (Broken number violation) = []
client_explanation (Undecided number key cause) = []

-- the line of a log that says that a server executed the command
abbrev pub execution_line : CommandId → List ℕ
execution_line id = observation_line (Execute 0 id)

-- the lines of an order, as the executions of one server
abbrev pub order_lines : List CommandId → List ℕ
order_lines ids = flat_map execution_line ids
