-- The picture of a trace.
use Rattle.std.specs.Prelude.{◌<◌, ◌≤◌, ◌≡◌, ℕ, ◌+◌, ◌-◌, ◌%◌, ◌==◌, ◌&&◌, List, [], ◌∷◌, ◌++◌, Bool, true, false, Option, Some, None, Result, Ok, Err, String, max, min, nat_le, nat_lt, slice_get, string_bytes, if◌then◌else◌}
use Rattle.std.specs.Global.{Global}
use Rattle.std.specs.List.{flat_map}
use Rattle.mencius_draw.specs.declared.facts.Act.TheVariants.{Deliver, Lose}
use Rattle.mencius_draw.specs.declared.facts.Fact.{Fact}
use Rattle.mencius_draw.specs.declared.facts.Fact.TheVariants.{Event, Sent, Outcome}
use Rattle.mencius_draw.specs.declared.facts.Note.{Note}
use Rattle.mencius_draw.specs.declared.facts.Note.TheVariants.{Learned, Executed}
use Rattle.mencius_draw.specs.declared.layout.SentMessage.{SentMessage}
use Rattle.mencius_draw.specs.declared.layout.Spot.{Spot}
use Rattle.mencius_draw.specs.declared.options.Options.{Options}
use Rattle.mencius_draw.specs.declared.options.TooLarge.{TooLarge}
use Rattle.mencius_draw.specs.declared.svg.Arrow.{Arrow}
use Rattle.mencius_draw.specs.declared.svg.Group.{Group}
use Rattle.mencius_draw.specs.declared.svg.LabelBox.{LabelBox}
use Rattle.mencius_draw.specs.declared.svg.Name.TheVariants.{EventName, MessageName, Unnamed}
use Rattle.mencius_draw.specs.declared.svg.Place.{Place}
use Rattle.mencius_draw.specs.declared.ways.Way.{Way}
use Rattle.mencius_draw.specs.Layout.{Outline, end_of, lines_of, next_line, sents_of, shapes_of, start}
use Rattle.mencius_draw.specs.Places.{lane_of, most_levels, place_at, y_of}
use Rattle.mencius_draw.specs.Svg.{Element, IsSvg, of_arrow, of_box, of_group, of_place}
use Rattle.mencius_draw.specs.Words.{number, word}

-- the owner of an instance. The instance is drawn in the owner's colour
abbrev pub owner_of : ℕ → ℕ → ℕ
owner_of servers inst = inst % max servers 1

-- ---- arrows

-- the delivery or the loss in a fact, if the event was not refused
abbrev pub way_of : Fact → Option Way
way_of (Event place (Deliver message) server false) =
    Some (record { message = message; is_lost = false; server = server })
way_of (Event place (Lose message) server false) =
    Some (record { message = message; is_lost = true; server = server })
way_of _ = None

-- the message that was delivered or lost. Messages are numbered from 0, in the order of sending
abbrev pub heard_by : List SentMessage → Way → Option SentMessage
heard_by sents way = slice_get sents way.message

-- the greatest number of events that an arrow may pass, 8 back to its own lane and 30 to another lane
abbrev pub longest_way : Spot → Spot → ℕ
longest_way sent heard = if sent.server == heard.server then 8 else 30

-- whether the message was sent by an event that is drawn and is not too far above
abbrev pub is_near : Spot → Spot → Bool
is_near sent heard = sent.is_shown && nat_le (heard.place - sent.place) (longest_way sent heard)

-- the x coordinate `by` units away from the lane `to`, on the side of the sender's lane. If both are the same lane, the
-- side is the left
abbrev pub place_beside : ℕ → ℕ → ℕ → ℕ
place_beside from to by = if nat_lt to from then to + by else to - by

-- a place next to the lane of the server, on the side of the sender's lane, and `up` units above the event
abbrev pub beside_mark : ℕ → SentMessage → Way → Spot → ℕ → ℕ → Place
beside_mark servers sent way spot by up = record {
  x = place_beside (lane_of servers sent.from) (lane_of servers way.server) by;
  y = y_of spot.level - up;
}

-- an arrow begins on the lane of the sender, at the level of sending. If the sending event is not drawn or too far above,
-- only the end of the arrow is drawn
abbrev pub tail_of : ℕ → SentMessage → Way → Spot → Place
tail_of servers sent way spot =
    if is_near sent.spot spot then place_at servers sent.from sent.spot.level else beside_mark servers sent way spot 30 12

-- an arrow ends next to the mark of the event, on the lane of the server
abbrev pub tip_of : ℕ → SentMessage → Way → Spot → Place
tip_of servers sent way spot =
    if is_near sent.spot spot then beside_mark servers sent way spot 10 3 else beside_mark servers sent way spot 9 4

-- the arrow of a message to the event that delivered it or lost it, in the colour of the instance
abbrev pub arrow_of : ℕ → Way → Spot → SentMessage → Arrow
arrow_of servers way spot sent = record {
  event = spot.place;
  message = sent.number;
  is_lost = way.is_lost;
  owner = owner_of servers sent.inst;
  tail = tail_of servers sent way spot;
  tip = tip_of servers sent way spot;
}

abbrev pub arrow_of_sent : ℕ → Way → Spot → Option SentMessage → List Element
arrow_of_sent servers way spot None = []
arrow_of_sent servers way spot (Some sent) = of_arrow (arrow_of servers way spot sent) ∷ []

abbrev pub arrow_of_way : ℕ → List SentMessage → Spot → Option Way → List Element
arrow_of_way servers sents spot None = []
arrow_of_way servers sents spot (Some way) = arrow_of_sent servers way spot (heard_by sents way)

-- the arrow of a delivery or a loss, if the event is drawn
abbrev pub arrow_by : ℕ → List SentMessage → Outline → List Element
arrow_by servers sents x = if x.spot.is_shown then arrow_of_way servers sents x.spot (way_of x.fact) else []

-- ---- events and their outcomes

-- an event, with a text at the left edge and a mark on the lane of its server
abbrev pub event_groups : ℕ → Spot → List Element
event_groups servers spot =
    of_group (record { name = EventName spot.place; event = spot.place; at = None })
    ∷ of_place (record { x = 0; y = y_of spot.level }) ∷ of_place (place_at servers spot.server spot.level) ∷ []

-- the box of a label, in the colour of an instance
abbrev pub box_of : ℕ → ℕ → Bool → LabelBox
box_of servers inst is_filled = record { owner = owner_of servers inst; is_filled = is_filled }

-- the group of a message that was sent, on the lane of its sender
abbrev pub sent_group : ℕ → Spot → ℕ → Group
sent_group servers spot number = record {
  name = MessageName number;
  event = spot.place;
  at = Some (place_at servers spot.server spot.level);
}

-- a message that was sent, with a box in the colour of the instance
abbrev pub sent_groups : ℕ → Spot → ℕ → ℕ → List Element
sent_groups servers spot number inst =
    of_group (sent_group servers spot number) ∷ of_box (box_of servers inst false) ∷ []

-- a box in the colour of the instance that was learned or executed
abbrev pub note_boxes : ℕ → Note → List Element
note_boxes servers (Learned inst) = of_box (box_of servers inst true) ∷ []
note_boxes servers (Executed inst) = of_box (box_of servers inst true) ∷ []
note_boxes servers _ = []

-- an outcome other than a sent message
abbrev pub note_groups : ℕ → Spot → Note → List Element
note_groups servers spot note =
    of_group (record { name = Unnamed; event = spot.place; at = None })
    ∷ of_place (place_at servers spot.server spot.level) ∷ note_boxes servers note

abbrev pub groups_of : ℕ → Spot → Fact → List Element
groups_of servers spot (Event place act server is_refused) = event_groups servers spot
groups_of servers spot (Sent number kind from inst) = sent_groups servers spot number inst
groups_of servers spot (Outcome note) = note_groups servers spot note
groups_of servers spot _ = []

-- the elements of an event or of an outcome, if the event is drawn
abbrev pub groups_by : ℕ → Outline → List Element
groups_by servers x = if x.spot.is_shown then groups_of servers x.spot x.fact else []

-- ---- the whole picture

-- the number of servers in the first line, but at most 7, because a picture has room for seven lanes
abbrev pub servers_of : List (List ℕ) → ℕ
servers_of lines = min (number (word 1 (next_line lines))) 7

-- the number of levels that a part of a trace takes
abbrev pub levels_of : Options → List (List ℕ) → ℕ
levels_of o lines = (end_of o start lines).next

-- the elements that show the lines. Arrows are drawn before events, so that they lie under the marks
abbrev pub elements_of : ℕ → List Outline → List Element
elements_of servers xs = flat_map (arrow_by servers (sents_of xs)) xs ++ flat_map (groups_by servers) xs

-- the text is SVG. It shows each event, each outcome and each arrow of the part, in order, and no others
abbrev pub ShowsTrace : Options → List ℕ → List ℕ → Type 0
ShowsTrace o trace text =
    IsSvg text (elements_of (servers_of (lines_of trace)) (shapes_of o start (lines_of trace)))

-- if the part takes at most `most_levels` levels, the result is a picture of the trace. Otherwise, it is the number of
-- levels that the part takes
abbrev pub IsPicture : Options → List ℕ → Result (String Global) TooLarge → Type 0
IsPicture o trace (Ok text) =
    (levels_of o (lines_of trace) ≤ most_levels) × ShowsTrace o trace (string_bytes text)
IsPicture o trace (Err large) =
    (most_levels < levels_of o (lines_of trace)) × (large.levels ≡ levels_of o (lines_of trace))
