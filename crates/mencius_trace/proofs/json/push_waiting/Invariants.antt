use Rattle.std.proofs.Common.{◌≡◌, ◌++◌, string_bytes}
use Rattle.std.specs.List.{flat_map, range_with_len}
use Rattle.mencius_cluster.specs.State.{trace_of}
use Rattle.mencius_model.specs.Server.{waiting_at}
use Rattle.mencius_trace.specs.Json.{waiting_json}
use Rattle.mencius_trace.proofs.json.push_waiting.Given as goal

abbrev pub invariant-loop-inst : goal.invariant-loop-inst
invariant-loop-inst l =
    string_bytes l.text ≡ string_bytes l.initial.text
    ++ flat_map (λ i. waiting_json (trace_of l.cluster) l.server i (waiting_at (trace_of l.cluster) l.server i))
    (range_with_len 0 l.inst)
