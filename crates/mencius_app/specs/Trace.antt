-- The text of a trace in the form of a view, and the input that it belongs to.
use Rattle.std.specs.Prelude.{ℕ, List, [], Option, Some, None}
use Rattle.mencius_base.specs.Members.{Membership}
use Rattle.mencius_base.specs.Numbers.{Inst}
use Rattle.mencius_base.specs.declared.command.CommandId.{CommandId}
use Rattle.mencius_base.specs.declared.event.Event.{Event}
use Rattle.mencius_model.specs.Outcomes.{trace_from}
use Rattle.mencius_trace.specs.LastLines.{view_text}
use Rattle.mencius_trace.specs.Suggestions.{suggested_instances}
use Rattle.mencius_trace.specs.declared.view.View.{View}
use Rattle.mencius_app.specs.Replay.{text_task}
use Rattle.mencius_app.specs.Tasks.{Task}

-- the instances that the chosen command is suggested for in the whole trace, if a command is chosen
abbrev pub suggested_for : Membership → List Event → Option CommandId → List Inst
suggested_for m es None = []
suggested_for m es (Some id) = suggested_instances (trace_from m [] es) id

-- the trace of these servers and events in the form of the view
abbrev pub chosen_text : View → Membership → List Event → List ℕ
chosen_text o m es = view_text o (suggested_for m es o.command) m es

-- the task of tracing, whose text is always clean
abbrev pub trace_task : View → Task
trace_task o = text_task (chosen_text o)
