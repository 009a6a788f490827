-- The picture of a scenario, the input that it belongs to, and the limit on its size.
use Rattle.std.specs.Prelude.{◌≡◌, ◌⊎◌, ◌<◌, ◌≤◌, ℕ, true, List, ◌++◌, Option, Some, None, codes, decimal, IfSome, string_bytes}
use Rattle.mencius_io.specs.declared.failure.Failure.{Failure}
use Rattle.mencius_io.specs.declared.fault.IoFault.TheVariants.{BadLimit, NoMemory}
use Rattle.mencius_draw.specs.declared.options.Options.{Options}
use Rattle.mencius_draw.specs.Layout.{lines_of}
use Rattle.mencius_draw.specs.Picture.{ShowsTrace, levels_of}
use Rattle.mencius_draw.specs.Places.{most_levels}
use Rattle.mencius_input.specs.declared.kind.Kind.TheVariants.{Replay}
use Rattle.mencius_app.specs.Failures.{ExplainedTask, ExplainsAs, Explanation}
use Rattle.mencius_app.specs.Tasks.{Task}
use Rattle.mencius_input.specs.Scenario.{scenario}
use Rattle.mencius_app.specs.Input.{HasFault, unless_long}
use Rattle.mencius_app.specs.Replay.{IsTraceOf}

-- the number of levels in a picture of the part of a trace that the options name
abbrev pub levels_in : Options → List ℕ → ℕ
levels_in options trace = levels_of options (lines_of trace)

-- the text is a picture of the trace of a scenario, and has at most `most_levels` levels. If the reader's bytes are
-- known, they are this scenario
abbrev pub IsPictureOf : Options → Option (List ℕ) → List ℕ → Type 0
IsPictureOf options known text =
    (trace : List ℕ) × IsTraceOf known trace × (levels_in options trace ≤ most_levels) × ShowsTrace options trace text

-- the picture of the trace of a scenario has this number of levels, which is above `most_levels`. If the reader's bytes
-- are known, they are this scenario
abbrev pub IsTooLarge : Options → Option (List ℕ) → ℕ → Type 0
IsTooLarge options known levels =
    (trace : List ℕ) × IsTraceOf known trace × (levels ≡ levels_in options trace) × (most_levels < levels)

-- the task of drawing. Its input is bad if it is not a scenario of `replay`, or if the picture would be too large
abbrev pub draw_task : Options → Task
draw_task options = record {
  IsText = λ known text is_clean. IsPictureOf options known text × (is_clean ≡ true);
  IsBadInput = λ known fault. HasFault (unless_long scenario) known fault
      ⊎ ((fault ≡ BadLimit) × (levels : ℕ) × IsTooLarge options known levels);
}

-- the words for a picture that would have this number of levels, which is too great
abbrev pub too_large_words : ℕ → List ℕ
too_large_words levels =
    codes "the picture has " ++ decimal levels
    ++ codes " levels and may have at most " ++ decimal most_levels
    ++ codes ": ask for fewer events by `--from` and `--to`"

-- the words explain a fault as they do for a trace, or they name the number of levels of a picture that is too large
abbrev pub ExplainsPicture : Options → Explanation
ExplainsPicture options fault bytes words =
    ExplainsAs Replay fault bytes words
    ⊎ ((fault ≡ BadLimit) × (levels : ℕ) × IsTooLarge options (Some bytes) levels × (words ≡ too_large_words levels))

abbrev pub explained_drawing : Options → ExplainedTask
explained_drawing options = record { task = draw_task options; Tells = ExplainsPicture options }

-- the failure means that memory ran out, or that the picture of the trace would be too large
abbrev pub IsRefusedAs : Options → List ℕ → Failure → Type 0
IsRefusedAs options trace failure =
    ((failure.fault ≡ NoMemory) × (failure.words ≡ None))
    ⊎ ((failure.fault ≡ BadLimit) × (most_levels < levels_in options trace)
    × IfSome failure.words (λ words. string_bytes words ≡ too_large_words (levels_in options trace)))
