use Rattle.std.proofs.Common.{◌≡◌}
use Rattle.mencius_cluster.specs.State.{trace_of}
use Rattle.mencius_model.specs.Trace.{sent_messages}
use Rattle.mencius_trace.specs.After.{of_messages}
use Rattle.mencius_trace.specs.Suggestions.{suggested_in}
use Rattle.mencius_trace.proofs.suggestions.suggested_instances.Given as goal

abbrev pub invariant-loop-number : goal.invariant-loop-number
invariant-loop-number l =
    l.found.items ≡ of_messages (suggested_in (trace_of l.cluster) l.id) (sent_messages (trace_of l.cluster)) 0 l.number
