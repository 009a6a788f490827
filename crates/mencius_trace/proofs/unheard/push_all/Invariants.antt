use Rattle.std.proofs.Common.{◌≡◌, ◌++◌, string_bytes}
use Rattle.mencius_cluster.specs.State.{trace_of}
use Rattle.mencius_model.specs.Trace.{sent_messages}
use Rattle.mencius_trace.specs.After.{of_messages}
use Rattle.mencius_trace.specs.LastLines.{unheard_lines}
use Rattle.mencius_trace.proofs.unheard.push_all.Given as goal

abbrev pub invariant-loop-number : goal.invariant-loop-number
invariant-loop-number l =
    string_bytes l.text ≡ string_bytes l.initial.text
    ++ of_messages (unheard_lines l.view l.suggested l.cluster.members (trace_of l.cluster))
    (sent_messages (trace_of l.cluster)) 0 l.number
