-- The text of a state, with the knowledge of each server about each instance.
use Rattle.std.specs.Prelude.{ℕ, List, [], ◌++◌}
use Rattle.std.specs.List.{enumerate_from, flat_map}
use Rattle.mencius_base.specs.Limits.{instance_count}
use Rattle.mencius_base.specs.Members.{Membership, numbers_below}
use Rattle.mencius_base.specs.Numbers.{ServerId}
use Rattle.mencius_base.specs.declared.event.Event.{Event}
use Rattle.mencius_model.specs.Trace.{Trace}
use Rattle.mencius_model.specs.Outcomes.{outcomes_from, trace_from}
use Rattle.mencius_trace.specs.Slots.{slot_lines}
use Rattle.mencius_app.specs.Replay.{refused_line, text_task}
use Rattle.mencius_app.specs.Tasks.{Task}
use Rattle.mencius_app.specs.Report.{server_line}

-- the line of p in the report, and then the lines of p for all instances that it knows anything about
abbrev pub server_state : Membership → Trace → ServerId → List ℕ
server_state m w p = server_line m w p ++ slot_lines m w p instance_count

-- the text of a state, with a line for each refused event, and then the state of each server after all events
abbrev pub state_text : Membership → List Event → List ℕ
state_text m es =
    flat_map refused_line (enumerate_from 0 (outcomes_from m [] es))
    ++ flat_map (server_state m (trace_from m [] es)) (numbers_below m.count)

-- the task of printing the state after a scenario, whose text is always clean
abbrev pub state_task : Task
state_task = text_task state_text
