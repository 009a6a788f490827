use Rattle.std.proofs.Common.{string_bytes}
use Rattle.mencius_cluster.specs.State.{trace_of}
use Rattle.mencius_trace.proofs.MessageLines.{IsSentTo}
use Rattle.mencius_trace.proofs.effects.push_sent.Given as goal

abbrev pub invariant-loop-number : goal.invariant-loop-number
invariant-loop-number l =
    IsSentTo (trace_of l.cluster) l.first l.number-end l.number l.initial.facts.items l.facts.items
