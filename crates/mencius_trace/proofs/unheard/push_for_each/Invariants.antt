use Rattle.std.proofs.Common.{◌≡◌, ◌++◌, string_bytes}
use Rattle.std.specs.List.{flat_map, range_with_len}
use Rattle.mencius_cluster.specs.State.{trace_of}
use Rattle.mencius_trace.specs.LastLines.{unheard_at}
use Rattle.mencius_trace.proofs.unheard.push_for_each.Given as goal

abbrev pub invariant-loop-server : goal.invariant-loop-server
invariant-loop-server l =
    string_bytes l.text ≡ string_bytes l.initial.text
    ++ flat_map (unheard_at l.view l.suggested l.cluster.members (trace_of l.cluster) l.number l.message) (range_with_len 0 l.server)
