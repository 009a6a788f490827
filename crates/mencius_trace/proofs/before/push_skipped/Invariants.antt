use Rattle.mencius_cluster.specs.State.{trace_of}
use Rattle.mencius_trace.proofs.SkippedLines.{IsSkippedTo}
use Rattle.mencius_trace.proofs.before.push_skipped.Given as goal

abbrev pub invariant-loop-inst : goal.invariant-loop-inst
invariant-loop-inst l =
    IsSkippedTo l.cluster.members (trace_of l.cluster) l.server l.from l.first l.stop l.inst
    l.initial.facts.items l.facts.items
