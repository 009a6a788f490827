-- The JSON object that reports a verdict. No text in it needs an escape, because names, keys, texts and sentences have
-- no quotes and no backslashes.
use Rattle.std.specs.Prelude.{ℕ, List, [], ◌∷◌, ◌++◌, codes, decimal, flat_map}
use Rattle.mencius_format.specs.Texts.{id_text}
use Rattle.mencius_judge.specs.declared.counts.Counts.{Counts}
use Rattle.mencius_judge.specs.declared.log_reader.Verdict.{Verdict}
use Rattle.mencius_judge.specs.declared.log_reader.Verdict.TheVariants.{Kept, Unjudged, Broken}
use Rattle.mencius_judge.specs.declared.quote.Quote.{Quote}
use Rattle.mencius_judge.specs.declared.violation.Promise.{Promise}
use Rattle.mencius_judge.specs.declared.violation.Promise.TheVariants as promise
use Rattle.mencius_judge.specs.declared.violation.Violation.{Violation}
use Rattle.mencius_judge.specs.declared.violation.Violation.TheVariants as violation
use Rattle.mencius_log.specs.ObservationLines.{answer_text, held_text, observation_text}
use Rattle.mencius_verdict.specs.Sentences.{sentence_text}
use Rattle.mencius_judge.specs.Violations.{promise_of}

-- a field with a number, after a comma
abbrev pub number_field : List ℕ → ℕ → List ℕ
number_field name n = codes ",\"" ++ name ++ codes "\":" ++ decimal n

-- a field with a text, after a comma
abbrev pub text_field : List ℕ → List ℕ → List ℕ
text_field name text = codes ",\"" ++ name ++ codes "\":\"" ++ text ++ codes "\""

-- the start of the object of a verdict, which has the word of the verdict
abbrev pub verdict_field : List ℕ → List ℕ
verdict_field word = codes "{\"verdict\":\"" ++ word ++ codes "\""

-- the object of a log that keeps all promises, with the word of the verdict
abbrev pub counts_json : List ℕ → Counts → List ℕ
counts_json word c =
    verdict_field word ++ (number_field (codes "servers") c.servers ++ (number_field (codes "commands") c.commands
    ++ (number_field (codes "executed") c.executed ++ (number_field (codes "replies") c.replies
    ++ (number_field (codes "open") c.open_replies ++ (number_field (codes "lookups") c.lookups
    ++ (number_field (codes "shortest") c.shortest ++ codes "}\n")))))))

-- the fields of a server and of a place in its history
abbrev pub place_fields : ℕ → ℕ → List ℕ
place_fields server place = number_field (codes "server") server ++ number_field (codes "place") place

-- the fields of the expected and the found value
abbrev pub found_fields : List ℕ → List ℕ → List ℕ
found_fields expected found = text_field (codes "expected") expected ++ text_field (codes "found") found

-- the figures of a violation that does not name a server, and nothing for any other
abbrev pub command_figures : Violation → List ℕ
command_figures (violation.OneCommand id) = text_field (codes "command") (id_text id)
command_figures (violation.Submitted id) = text_field (codes "command") (id_text id)
command_figures (violation.OneReply id expected found) =
    text_field (codes "command") (id_text id) ++ found_fields (answer_text expected) (answer_text found)
command_figures (violation.RightReply id place expected found) =
    text_field (codes "command") (id_text id) ++ (number_field (codes "place") place
    ++ found_fields (held_text expected) (answer_text found))
command_figures (violation.RightLookup reader key from to found) =
    number_field (codes "reader") reader ++ (text_field (codes "key") key ++ (number_field (codes "from") from
    ++ (number_field (codes "to") to ++ text_field (codes "found") (held_text found))))
command_figures (violation.Once server place id) = []
command_figures (violation.SameOrder server place expected found) = []
command_figures (violation.RealTime server place id behind) = []
command_figures (violation.Settled server id) = []
command_figures (violation.Restore server source count) = []

-- the figures of a violation that names a server, and nothing for any other
abbrev pub server_figures : Violation → List ℕ
server_figures (violation.Once server place id) = place_fields server place ++ text_field (codes "command") (id_text id)
server_figures (violation.SameOrder server place expected found) =
    place_fields server place ++ found_fields (id_text expected) (id_text found)
server_figures (violation.RealTime server place id behind) =
    place_fields server place
    ++ (text_field (codes "command") (id_text id) ++ text_field (codes "behind") (id_text behind))
server_figures (violation.Settled server id) =
    number_field (codes "server") server ++ text_field (codes "command") (id_text id)
server_figures (violation.Restore server source count) =
    number_field (codes "server") server ++ (number_field (codes "from") source ++ number_field (codes "place") count)
server_figures (violation.OneCommand id) = []
server_figures (violation.Submitted id) = []
server_figures (violation.OneReply id expected found) = []
server_figures (violation.RightReply id place expected found) = []
server_figures (violation.RightLookup reader key from to found) = []

-- the figures of a violation, after the field with the line
abbrev pub figures_json : Violation → List ℕ
figures_json violation = command_figures violation ++ server_figures violation

-- the name of a promise
abbrev pub name_of : Promise → List ℕ
name_of promise.OneCommand = codes "OneCommand"
name_of promise.Submitted = codes "Submitted"
name_of promise.Once = codes "Once"
name_of promise.SameOrder = codes "SameOrder"
name_of promise.RealTime = codes "RealTime"
name_of promise.OneReply = codes "OneReply"
name_of promise.RightReply = codes "RightReply"
name_of promise.RightLookup = codes "RightLookup"
name_of promise.Settled = codes "Settled"
name_of promise.Restore = codes "Restore"

-- the name of the promise that a violation breaks
abbrev pub promise_name : Violation → List ℕ
promise_name violation = name_of (promise_of violation)

-- the object of a quoted line
abbrev pub quote_json : Quote → List ℕ
quote_json q =
    codes "{\"line\":" ++ (decimal q.number ++ (codes ",\"text\":\"" ++ (observation_text q.observation
    ++ codes "\"}")))

-- the objects of quoted lines, with commas between them
abbrev pub quotes_json : List Quote → List ℕ
quotes_json [] = []
quotes_json (q ∷ quotes) = quote_json q ++ flat_map (λ r. 44 ∷ quote_json r) quotes

-- the field of the quoted lines, after a comma
abbrev pub lines_field : List Quote → List ℕ
lines_field quotes = codes ",\"lines\":[" ++ (quotes_json quotes ++ codes "]")

-- the object of a log that breaks a promise
abbrev pub breach_json : ℕ → Violation → List Quote → List ℕ
breach_json number violation quotes =
    verdict_field (codes "violation") ++ (text_field (codes "promise") (promise_name violation)
    ++ (number_field (codes "line") number ++ (figures_json violation ++ (lines_field quotes
    ++ (text_field (codes "sentence") (sentence_text violation) ++ codes "}\n")))))

-- the object of a verdict, and a line feed
abbrev pub json_text : Verdict → List ℕ
json_text (Kept counts) = counts_json (codes "ok") counts
json_text (Unjudged counts) = counts_json (codes "unjudged") counts
json_text (Broken breach) = breach_json breach.number breach.violation breach.quotes.items
