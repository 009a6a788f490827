-- The position of each line of a trace in the picture. Levels are counted downwards.
use Rattle.std.specs.Prelude.{ℕ, ◌+◌, ◌==◌, ◌&&◌, ◌||◌, List, [], ◌∷◌, Bool, true, false, Option, Some, None, nat_le, if◌then◌else◌}
use Rattle.std.specs.List.{filter_map, slice_split}
use Rattle.mencius_draw.specs.declared.facts.Fact.{Fact}
use Rattle.mencius_draw.specs.declared.facts.Fact.TheVariants.{Event, Sent, Outcome, Closing, Unheard}
use Rattle.mencius_draw.specs.declared.facts.Note.TheVariants.{Executed}
use Rattle.mencius_draw.specs.declared.layout.Spot.{Spot}
use Rattle.mencius_draw.specs.declared.layout.Shape.{Shape}
use Rattle.mencius_draw.specs.declared.layout.SentMessage.{SentMessage}
use Rattle.mencius_draw.specs.declared.options.Options.{Options}
use Rattle.mencius_draw.specs.Facts.{fact_of}

-- a line, its fact, and its position in the picture
pub record Outline : Type 0 where
  pub line : List ℕ
  pub fact : Fact
  pub spot : Spot

abbrev pub outline : Shape → Outline
outline x = record { line = x.line.now; fact = x.fact; spot = x.spot }

abbrev pub start : Spot
start = record { place = 0; server = 0; is_shown = false; top = 0; level = 0; free = 0; next = 0 }

abbrev pub is_drawn : Options → ℕ → Bool
is_drawn o place = nat_le o.first place && nat_le place o.last

-- the spot of an event, which begins at level `pen.next`. If the event is drawn, the next event begins below it
abbrev pub event_spot : Spot → Bool → ℕ → ℕ → Spot
event_spot pen is_shown place server = record {
  place = place;
  server = server;
  is_shown = is_shown;
  top = pen.next;
  level = pen.next;
  free = pen.next;
  next = if is_shown then pen.next + 1 else pen.next;
}

-- the spot of an outcome. If its event is drawn, the first outcome is at the level of the event, and each further
-- outcome is one level lower. The next event is below them all
abbrev pub outcome_spot : Spot → Spot
outcome_spot pen =
    if pen.is_shown then record pen { level = pen.free; free = pen.free + 1; next = pen.free + 1 } else pen

unfoldable pub spot_after : Options → Spot → Fact → Spot
spot_after o pen (Event place act server is_refused) = event_spot pen (is_drawn o place) place server
spot_after o pen (Sent number kind from inst) = outcome_spot pen
spot_after o pen (Outcome note) = outcome_spot pen
spot_after o pen _ = pen

abbrev pub lines_of : List ℕ → List (List ℕ)
lines_of trace = slice_split (λ b. b == 10) trace

abbrev pub next_line : List (List ℕ) → List ℕ
next_line [] = []
next_line (line ∷ ls) = line

abbrev pub shape_of : Options → Spot → List ℕ → List ℕ → Outline
shape_of o pen line next = record {
  line = line;
  fact = fact_of line next;
  spot = spot_after o pen (fact_of line next);
}

abbrev pub shape_at : Options → Spot → List ℕ → List (List ℕ) → Outline
shape_at o pen line ls = shape_of o pen line (next_line ls)

-- the lines that come after the spot `pen`, each with its fact and its position in the picture
abbrev pub shapes_of : Options → Spot → List (List ℕ) → List Outline
shapes_of o pen [] = []
shapes_of o pen (line ∷ ls) = shape_at o pen line ls ∷ shapes_of o (shape_at o pen line ls).spot ls

-- the spot after the last line, if the lines come after the spot `pen`
abbrev pub end_of : Options → Spot → List (List ℕ) → Spot
end_of o pen [] = pen
end_of o pen (line ∷ ls) = end_of o (shape_at o pen line ls).spot ls

-- whether a picture needs a fact even if its event is not drawn. The foot may show the fact, or an arrow may need its
-- message
abbrev pub is_told_below : Fact → Bool
is_told_below (Sent number kind from inst) = true
is_told_below (Outcome (Executed inst)) = true
is_told_below (Closing server) = true
is_told_below (Unheard number server) = true
is_told_below _ = false

abbrev pub is_needed : Outline → Bool
is_needed x = x.spot.is_shown || is_told_below x.fact

-- a list of the line if a picture needs it, and the empty list otherwise
abbrev pub if_needed : Outline → List Outline
if_needed x = if is_needed x then x ∷ [] else []

abbrev pub sent_as : Fact → Spot → Option SentMessage
sent_as (Sent number kind from inst) spot =
    Some (record { number = number; kind = kind; from = from; inst = inst; spot = spot })
sent_as _ spot = None

abbrev pub sent_here : Outline → Option SentMessage
sent_here x = sent_as x.fact x.spot

-- the messages that were sent, in the order of the lines
abbrev pub sents_of : List Outline → List SentMessage
sents_of xs = filter_map sent_here xs
