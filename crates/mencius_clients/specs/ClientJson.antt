-- The JSON object that reports a verdict on a log that clients saw. No text in it needs an escape.
use Rattle.std.specs.Prelude.{ℕ, Bool, List, [], ◌∷◌, ◌++◌, codes, flat_map, if◌then◌else◌, string_bytes}
use Rattle.mencius_base.specs.declared.command.CommandId.{CommandId}
use Rattle.mencius_format.specs.Texts.{id_text}
use Rattle.mencius_log.specs.declared.observation.Answer.{Answer}
use Rattle.mencius_log.specs.ObservationLines.{answer_text}
use Rattle.mencius_judge.specs.declared.quote.Quote.{Quote}
use Rattle.mencius_verdict.specs.VerdictJson.{breach_json, lines_field, number_field, text_field, verdict_field}
use Rattle.mencius_clients.specs.declared.client_counts.ClientCounts.{ClientCounts}
use Rattle.mencius_clients.specs.declared.client_verdict.ClientVerdict.{ClientVerdict}
use Rattle.mencius_clients.specs.declared.client_verdict.ClientVerdict.TheVariants.{Linearizable, Unjudged, NotLinearizable, Broken, Undecided}
use Rattle.mencius_clients.specs.declared.client_verdict.GiveUp.{GiveUp}
use Rattle.mencius_clients.specs.declared.client_verdict.GiveUp.TheVariants.{Waiting, Configurations}
use Rattle.mencius_clients.specs.ClientLines.{said_text}

-- the start of the object of a verdict with counts
abbrev pub counts_fields : List ℕ → ClientCounts → List ℕ
counts_fields word c =
    verdict_field word ++ (number_field (codes "commands") c.commands ++ (number_field (codes "replies") c.replies
    ++ (number_field (codes "lost") c.lost ++ number_field (codes "keys") c.keys)))

-- an identity in quotes
abbrev pub quoted_id : CommandId → List ℕ
quoted_id id = codes "\"" ++ (id_text id ++ codes "\"")

-- identities in quotes, with commas between them
abbrev pub quoted_ids : List CommandId → List ℕ
quoted_ids [] = []
quoted_ids (id ∷ ids) = quoted_id id ++ flat_map (λ x. 44 ∷ quoted_id x) ids

-- the field of an order, after a comma
abbrev pub order_field : List CommandId → List ℕ
order_field ids = codes ",\"order\":[" ++ (quoted_ids ids ++ codes "]")

-- the object of a linearizable log, with the order if it is requested
abbrev pub linearizable_json : Bool → ClientCounts → List CommandId → List ℕ
linearizable_json with_order c order =
    counts_fields (codes "linearizable") c ++ ((if with_order then order_field order else []) ++ codes "}\n")

-- the field with the reason why a search was given up
abbrev pub cause_field : GiveUp → List ℕ
cause_field (Waiting count) = number_field (codes "waiting") count
cause_field (Configurations most) = number_field (codes "configurations") most

-- an answer in quotes
abbrev pub quoted_answer : Answer → List ℕ
quoted_answer answer = codes "\"" ++ (answer_text answer ++ codes "\"")

-- answers in quotes, with commas between them
abbrev pub quoted_answers : List Answer → List ℕ
quoted_answers [] = []
quoted_answers (answer ∷ answers) = quoted_answer answer ++ flat_map (λ x. 44 ∷ quoted_answer x) answers

-- the field of the fitting answers, after a comma
abbrev pub fitting_field : List Answer → List ℕ
fitting_field answers = codes ",\"fitting\":[" ++ (quoted_answers answers ++ codes "]")

-- the object of a log that has no linearization
abbrev pub without_json : ℕ → List ℕ → List Quote → List Answer → List ℕ
without_json number key quotes fitting =
    verdict_field (codes "violation") ++ (text_field (codes "promise") (codes "Linearizable")
    ++ (number_field (codes "line") number ++ (text_field (codes "key") key ++ (lines_field quotes
    ++ (fitting_field fitting ++ (text_field (codes "sentence") (said_text fitting) ++ codes "}\n"))))))

-- the object of a search that was given up
abbrev pub undecided_json : ℕ → List ℕ → GiveUp → List ℕ
undecided_json number key cause =
    verdict_field (codes "undecided") ++ (number_field (codes "line") number ++ (text_field (codes "key") key
    ++ (cause_field cause ++ codes "}\n")))

-- the object of a verdict, and a line feed. It has the order of a linearizable log if that is requested
abbrev pub client_json : Bool → ClientVerdict → List ℕ
client_json with_order (Linearizable counts order) = linearizable_json with_order counts order.items
client_json with_order (Unjudged counts) = counts_fields (codes "unjudged") counts ++ codes "}\n"
client_json with_order (NotLinearizable number key quotes fitting) =
    without_json number (string_bytes key) quotes.items fitting.items
client_json with_order (Broken number violation) = breach_json number violation []
client_json with_order (Undecided number key cause) = undecided_json number (string_bytes key) cause
