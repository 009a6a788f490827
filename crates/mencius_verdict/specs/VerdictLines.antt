-- The text that reports a verdict.
use Rattle.std.specs.Prelude.{ℕ, List, [], ◌∷◌, ◌++◌, codes, decimal, flat_map, Option}
use Rattle.mencius_base.specs.declared.command.CommandId.{CommandId}
use Rattle.mencius_format.specs.Texts.{id_text}
use Rattle.mencius_judge.specs.declared.counts.Counts.{Counts}
use Rattle.mencius_log.specs.declared.observation.Answer.{Answer}
use Rattle.mencius_log.specs.declared.observation.Answer.TheVariants.{Held}
use Rattle.mencius_judge.specs.declared.quote.Quote.{Quote}
use Rattle.mencius_judge.specs.declared.violation.Violation.{Violation}
use Rattle.mencius_judge.specs.declared.violation.Violation.TheVariants as violation
use Rattle.mencius_log.specs.ObservationLines.{answer_text, held_text, observation_line}
use Rattle.mencius_verdict.specs.Sentences.{sentence_text}

-- the figures of the servers and the commands
abbrev pub commands_text : Counts → List ℕ
commands_text c =
    codes " servers " ++ (decimal c.servers ++ (codes " commands " ++ (decimal c.commands ++ (codes " executed "
    ++ decimal c.executed))))

-- the figures of the replies and the lookups, and the length of the shortest history
abbrev pub replies_text : Counts → List ℕ
replies_text c =
    codes " replies " ++ (decimal c.replies ++ (codes " open " ++ (decimal c.open_replies ++ (codes " lookups "
    ++ (decimal c.lookups ++ (codes " shortest " ++ (decimal c.shortest ++ 10 ∷ [])))))))

-- the figures of a log that keeps all promises
abbrev pub counts_text : Counts → List ℕ
counts_text c = commands_text c ++ replies_text c

-- the line that reports a log that keeps all promises, after something was judged
abbrev pub kept_line : Counts → List ℕ
kept_line c = codes "ok" ++ counts_text c

-- the line that reports a log that keeps all promises, if that says too little
abbrev pub unjudged_line : Counts → List ℕ
unjudged_line c = codes "unjudged" ++ counts_text c

-- some words, and then the identity of a command
abbrev pub named_text : List ℕ → CommandId → List ℕ
named_text words id = words ++ id_text id

-- the words for a place in the history of a server
abbrev pub place_text : ℕ → ℕ → List ℕ
place_text server place = codes " server " ++ decimal server ++ codes " place " ++ decimal place

-- the words for the expected reply and the found reply
abbrev pub answers_found : Answer → Answer → List ℕ
answers_found expected found = codes " expected " ++ answer_text expected ++ codes " found " ++ answer_text found

-- the words for the reader and the key of a lookup
abbrev pub reader_text : ℕ → List ℕ → List ℕ
reader_text reader key = codes " reader " ++ decimal reader ++ codes " key " ++ key

-- the words for a text that the key did not hold after any number of commands from `from` to `to`
abbrev pub nowhere_text : ℕ → ℕ → Option (List ℕ) → List ℕ
nowhere_text from to found =
    codes " from " ++ decimal from ++ codes " to " ++ decimal to ++ codes " found " ++ held_text found

-- the words for the broken promise, and for the command, the place or the lookup that breaks it
abbrev pub subject_text : Violation → List ℕ
subject_text (violation.OneCommand id) = named_text (codes "OneCommand command ") id
subject_text (violation.Submitted id) = named_text (codes "Submitted command ") id
subject_text (violation.Once server place id) = codes "Once" ++ place_text server place
subject_text (violation.SameOrder server place expected found) = codes "SameOrder" ++ place_text server place
subject_text (violation.RealTime server place id behind) = codes "RealTime" ++ place_text server place
subject_text (violation.OneReply id expected found) = named_text (codes "OneReply command ") id
subject_text (violation.RightReply id place expected found) = named_text (codes "RightReply command ") id
subject_text (violation.RightLookup reader key from to found) = codes "RightLookup" ++ reader_text reader key
subject_text (violation.Settled server id) = codes "Settled server " ++ decimal server
subject_text (violation.Restore server source count) = codes "Restore server " ++ decimal server

-- the words for the details of a violation, such as the expected and the found text
abbrev pub details_text : Violation → List ℕ
details_text (violation.OneCommand id) = []
details_text (violation.Submitted id) = []
details_text (violation.Once server place id) = named_text (codes " command ") id
details_text (violation.SameOrder server place expected found) =
    named_text (codes " expected ") expected ++ named_text (codes " found ") found
details_text (violation.RealTime server place id behind) =
    named_text (codes " command ") id ++ named_text (codes " behind ") behind
details_text (violation.OneReply id expected found) = answers_found expected found
details_text (violation.RightReply id place expected found) =
    codes " place " ++ decimal place ++ answers_found (Held expected) found
details_text (violation.RightLookup reader key from to found) = nowhere_text from to found
details_text (violation.Settled server id) = named_text (codes " command ") id
details_text (violation.Restore server source count) =
    codes " from " ++ decimal source ++ codes " place " ++ decimal count

-- the words for the broken promise and the details of the violation
abbrev pub violation_text : Violation → List ℕ
violation_text violation = subject_text violation ++ details_text violation

-- the line that reports a log that breaks a promise at the line with this number
abbrev pub broken_line : ℕ → Violation → List ℕ
broken_line number violation = codes "violation " ++ decimal number ++ 32 ∷ violation_text violation ++ 10 ∷ []

-- the line that quotes a line of the log, with its number
abbrev pub quote_line : Quote → List ℕ
quote_line q = codes "line " ++ decimal q.number ++ codes ": " ++ observation_line q.observation

-- the lines that quote these lines, in their order
abbrev pub quote_lines : List Quote → List ℕ
quote_lines quotes = flat_map quote_line quotes

-- the text that reports and explains a log that breaks a promise. It is the line of the verdict, the quoted lines, and
-- a sentence
abbrev pub explained_text : ℕ → Violation → List Quote → List ℕ
explained_text number violation quotes =
    broken_line number violation ++ (quote_lines quotes ++ (sentence_text violation ++ 10 ∷ []))
