use Rattle.std.proofs.Common.{◌≡◌, ◌++◌, string_bytes}
use Rattle.mencius_cluster.specs.State.{trace_of}
use Rattle.mencius_trace.specs.Slots.{slot_lines}
use Rattle.mencius_trace.proofs.slots.push_slots.Given as goal

abbrev pub invariant-loop-inst : goal.invariant-loop-inst
invariant-loop-inst l =
    string_bytes l.text ≡ string_bytes l.initial.text ++ slot_lines l.cluster.members (trace_of l.cluster) l.server l.inst
