-- The first line with which a log has no linearization.
use Rattle.std.specs.Prelude.{◌<◌, ◌+◌, ℕ, List, length}
use Rattle.mencius_log.specs.declared.observation.Observation.{Observation}
use Rattle.mencius_clients.specs.declared.first_lines.FirstLine.{FirstLine}
use Rattle.mencius_clients.specs.declared.first_lines.FirstLine.TheVariants.{Found, Undecided}
use Rattle.mencius_clients.specs.declared.first_lines.Verdict.{Verdict}
use Rattle.mencius_clients.specs.declared.first_lines.Verdict.TheVariants as verdict
use Rattle.mencius_clients.specs.Explained.{IsCause, IsLinearizableTo}

-- what is true of the first `count` lines with this verdict of a search with the limit `most`
abbrev pub IsVerdictOn : List Observation → ℕ → ℕ → Verdict → Type 0
IsVerdictOn log most count verdict.Has = IsLinearizableTo log count
IsVerdictOn log most count verdict.Lacks = IsLinearizableTo log count → ⊥
IsVerdictOn log most count (verdict.Undecided cause) = IsCause log most cause

-- the lines before this one have a linearization, and with it they have none
abbrev pub IsFoundLine : List Observation → ℕ → Type 0
IsFoundLine log line =
    (line < length log) × IsLinearizableTo log line × (IsLinearizableTo log (line + 1) → ⊥)

-- what is true of the log with this first line, which a search with the limit `most` found
abbrev pub IsFirstLine : List Observation → ℕ → FirstLine → Type 0
IsFirstLine log most (Found line) = IsFoundLine log line
IsFirstLine log most (Undecided cause) = IsCause log most cause
