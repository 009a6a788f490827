-- The lines about a key are found from the first line of a log to a later one.
use Rattle.std.proofs.Common.{◌≡◌, ◌+◌, ◌≤◌, ℕ, List, [], ◌∷◌, Some, slice_get, take, reverse, arith, refl, sym, subst, ap, ap₂, ◌∙◌}
use Rattle.mencius_log.specs.declared.observation.Observation.{Observation}
use Rattle.mencius_judge.specs.Quotes.{NumberedLog, log_of}
use Rattle.mencius_clients.specs.declared.key_lines.KeyLines.{KeyLines}
use Rattle.mencius_clients.specs.KeyLines.{HasLines, lines_about}
use Rattle.mencius_clients.specs.ReadLogs.{numbers_of}
use Rattle.mencius_clients.proofs.Explaining.{part_more}

-- the lines with these numbers and observations
abbrev pub lines_with : List ℕ → List Observation → NumberedLog
lines_with [] os = []
lines_with (n ∷ ns) [] = []
lines_with (n ∷ ns) (o ∷ os) = record { number = n; observation = o } ∷ lines_with ns os

-- the first lines of the log
abbrev pub first_lines : List ℕ → List Observation → ℕ → NumberedLog
first_lines numbers log count = lines_with (reverse (take count numbers)) (reverse (take count log))

lines_again : (n : NumberedLog) → lines_with (numbers_of n) (log_of n) ≡ n
lines_again [] = refl
lines_again (q ∷ qs) = ap (λ n. q ∷ n) (lines_again qs)

pub more_lines : (key numbers : List ℕ) (log : List Observation) (place number : ℕ) (o : Observation) (old new : KeyLines)
    → slice_get numbers place ≡ Some number → slice_get log place ≡ Some o
    → ((n : NumberedLog) → HasLines key n old → HasLines key (record { number = number; observation = o } ∷ n) new)
    → HasLines key (first_lines numbers log place) old → HasLines key (first_lines numbers log (place + 1)) new
more_lines key numbers log place number o old new here at taken h =
    let more = ap₂ lines_with (part_more numbers place number here) (part_more log place o at) in
    subst (λ n. HasLines key n new) (sym more) (taken (first_lines numbers log place) h)

pub all_lines : (key numbers : List ℕ) (log : List Observation) (place count : ℕ) (lines : KeyLines) → count ≤ place
    → place ≤ count → HasLines key (first_lines numbers log place) lines → (n : NumberedLog)
    → log_of n ≡ reverse (take count log) → numbers_of n ≡ reverse (take count numbers)
    → lines.quotes.items ≡ reverse (lines_about key n)
all_lines key numbers log place count lines past within h n is_log are_numbers =
    let whole : place ≡ count = omega (arith, past, within) in
    let same : first_lines numbers log count ≡ n = ap₂ lines_with (sym are_numbers) (sym is_log) ∙ lines_again n in
    h.quotes ∙ ap (λ k. reverse (lines_about key (first_lines numbers log k))) whole
    ∙ ap (λ m. reverse (lines_about key m)) same
