-- Laws that hold for all pictures.
use Rattle.std.specs.Prelude.{◌<◌, ℕ, List, Option, Some, None, if◌then◌else◌}
use Rattle.std.specs.List.{All, filter_map}
use Rattle.std.specs.List.Sorted.{IsStrictlyIncreasing}
use Rattle.mencius_draw.specs.declared.facts.Fact.{Fact}
use Rattle.mencius_draw.specs.declared.facts.Fact.TheVariants.{Event, Sent, Outcome}
use Rattle.mencius_draw.specs.declared.options.Options.{Options}
use Rattle.mencius_draw.specs.Layout.{Outline, lines_of, shapes_of, start}
use Rattle.mencius_draw.specs.Picture.{levels_of}
use Rattle.mencius_draw.specs.Svg.{IsHarmless}
use Rattle.mencius_draw.specs.Words.{plain_text}

-- the plain text of any bytes contains only harmless bytes
abbrev pub ReservesNothing : Type 0
ReservesNothing = (bytes : List ℕ) → All IsHarmless (plain_text bytes)

-- ---- levels

-- the given level for an event, and none for any other fact
abbrev pub event_level : Fact → ℕ → Option ℕ
event_level (Event place act server is_refused) level = Some level
event_level _ level = None

-- the given level for a fact with a label, which is a sent message or another outcome, and none for any other fact
abbrev pub label_level : Fact → ℕ → Option ℕ
label_level (Sent number kind from inst) level = Some level
label_level (Outcome note) level = Some level
label_level _ level = None

-- the levels that `at` gives for the drawn lines, in the order of the lines
abbrev pub levels_by : (Fact → ℕ → Option ℕ) → List Outline → List ℕ
levels_by at xs = filter_map (λ x. if x.spot.is_shown then at x.fact x.spot.level else None) xs

-- each level is greater than the one before, so it is lower in the picture, and all are less than the limit
pub record IsStack (limit : ℕ) (levels : List ℕ) : Type 0 where
  pub increasing : IsStrictlyIncreasing levels
  pub within : All (λ level. level < limit) levels

-- the drawn events have strictly rising levels that are less than the limit, and so have the drawn labels. So no two
-- events share a level, and no two labels do
pub record IsApart (limit : ℕ) (xs : List Outline) : Type 0 where
  pub events : IsStack limit (levels_by event_level xs)
  pub labels : IsStack limit (levels_by label_level xs)

-- for all options and all traces, events and labels keep apart, and are above the level where the picture's levels end
abbrev pub KeepsApart : Type 0
KeepsApart = (o : Options) (trace : List ℕ) → IsApart (levels_of o (lines_of trace)) (shapes_of o start (lines_of trace))
