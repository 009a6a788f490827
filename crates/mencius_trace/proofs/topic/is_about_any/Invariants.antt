use Rattle.std.proofs.Common.{◌≡◌, length}
use Rattle.std.specs.List.{list_any}
use Rattle.mencius_cluster.specs.State.{trace_of}
use Rattle.mencius_trace.specs.Choice.{is_about}
use Rattle.mencius_trace.proofs.topic.is_about_any.Given as goal

abbrev pub invariant-loop-inst : goal.invariant-loop-inst
invariant-loop-inst l =
    list_any (λ i. is_about l.cluster.members (trace_of l.cluster) i l.topic) l.rest
    ≡ list_any (λ i. is_about l.cluster.members (trace_of l.cluster) i l.topic) l.instances

abbrev pub decreases-loop-inst : goal.decreases-loop-inst
decreases-loop-inst l = length l.rest
