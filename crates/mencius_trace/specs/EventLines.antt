-- The lines of an event. The trace before the event is w, and the trace after it is v. The view is o, and `is` has the
-- instances that the chosen command was suggested for.
use Rattle.std.specs.Prelude.{ℕ, Bool, true, false, List, [], ◌∷◌, ◌++◌, codes, decimal, ◌||◌, if◌then◌else◌}
use Rattle.std.specs.List.{flat_map, list_any}
use Rattle.std.specs.Result.{result_unwrap_or}
use Rattle.mencius_base.specs.Members.{Membership}
use Rattle.mencius_base.specs.Numbers.{Inst}
use Rattle.mencius_base.specs.declared.event.Event.{Event}
use Rattle.mencius_model.specs.Next.{next}
use Rattle.mencius_model.specs.Trace.{Trace}
use Rattle.mencius_trace.specs.declared.fact.Fact.{Fact}
use Rattle.mencius_trace.specs.declared.fact.Fact.TheVariants.{Refused}
use Rattle.mencius_trace.specs.declared.view.View.{View}
use Rattle.mencius_trace.specs.Choice.{concerns, concerns_event, is_filtered}
use Rattle.mencius_trace.specs.Effects.{outcome_facts}
use Rattle.mencius_trace.specs.Facts.{event_line, fact_line}
use Rattle.mencius_trace.specs.Json.{event_json, fact_json}

-- the start of a line of an event, with the event's place. A whole text does not repeat the place in each line
abbrev pub line_start : View → ℕ → List ℕ
line_start o place =
    if o.is_json then codes "{\"event\":" ++ decimal place ++ codes ","
    else if is_filtered o then codes "event " ++ decimal place ++ codes " "
    else []

-- a fact in the form of the view, after the start of its line
abbrev pub fact_rest : View → Trace → Fact → List ℕ
fact_rest o v f = if o.is_json then fact_json v f ++ codes "}\n" else fact_line v f

-- whether a fact is that the event is refused
abbrev pub is_refusal : Fact → Bool
is_refusal (Refused refusal) = true
is_refusal _ = false

-- the line of a fact about the event at `place`, if the fact is chosen. A refusal is printed with its event
abbrev pub chosen_line : View → List Inst → Membership → Trace → ℕ → Fact → List ℕ
chosen_line o is m v place f =
    if is_refusal f || concerns o is m v f then line_start o place ++ fact_rest o v f else []

-- the line of an event in the form of the view
abbrev pub event_start : View → ℕ → Event → List ℕ
event_start o place e = if o.is_json then event_json place e else event_line place e

-- the line of an event and the chosen facts about it. There is none if neither the event nor a fact is chosen
abbrev pub chosen_lines : View → List Inst → Membership → Trace → ℕ → Bool → List ℕ → List Fact → List ℕ
chosen_lines o is m v place is_named start facts =
    if is_named || list_any (concerns o is m v) facts
    then start ++ flat_map (chosen_line o is m v place) facts
    else []

-- the lines of the event at `place`
abbrev pub event_lines : View → List Inst → Membership → Trace → ℕ → Event → List ℕ
event_lines o is m w place e =
    chosen_lines o is m (result_unwrap_or (next m w e) w) place (concerns_event o is m w e) (event_start o place e)
    (outcome_facts m w e (next m w e))
