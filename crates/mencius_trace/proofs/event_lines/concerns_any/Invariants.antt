use Rattle.std.proofs.Common.{◌≡◌, length}
use Rattle.std.specs.List.{list_any}
use Rattle.mencius_cluster.specs.State.{trace_of}
use Rattle.mencius_trace.specs.Choice.{concerns}
use Rattle.mencius_trace.proofs.event_lines.concerns_any.Given as goal

abbrev pub invariant-loop-fact : goal.invariant-loop-fact
invariant-loop-fact l =
    list_any (concerns l.view l.suggested l.cluster.members (trace_of l.cluster)) l.rest
    ≡ list_any (concerns l.view l.suggested l.cluster.members (trace_of l.cluster)) l.facts

abbrev pub decreases-loop-fact : goal.decreases-loop-fact
decreases-loop-fact l = length l.rest
