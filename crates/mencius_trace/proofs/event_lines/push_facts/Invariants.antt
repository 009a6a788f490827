use Rattle.std.proofs.Common.{◌≡◌, ◌++◌, flat_map, string_bytes, take}
use Rattle.mencius_cluster.specs.State.{trace_of}
use Rattle.mencius_trace.specs.EventLines.{chosen_line}
use Rattle.mencius_trace.proofs.event_lines.push_facts.Given as goal

abbrev pub invariant-loop-fact : goal.invariant-loop-fact
invariant-loop-fact l =
    string_bytes l.text ≡ string_bytes l.initial.text
    ++ flat_map (chosen_line l.view l.suggested l.cluster.members (trace_of l.cluster) l.place)
    (take l.fact-index l.facts)
