use Rattle.std.proofs.Common.{string_bytes}
use Rattle.mencius_cluster.specs.State.{trace_of}
use Rattle.mencius_trace.proofs.TextLoops.{IsWaitingTo}
use Rattle.mencius_trace.proofs.last_lines.push_waiting.Given as goal

abbrev pub invariant-loop-inst : goal.invariant-loop-inst
invariant-loop-inst l =
    IsWaitingTo (trace_of l.cluster) l.server l.inst l.some (string_bytes l.initial.text) (string_bytes l.text)
