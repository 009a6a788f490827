use Rattle.mencius_app.proofs.Words.{◌≡◌, ◌++◌, string_bytes, flat_map, range_with_len, trace_of}
use Rattle.mencius_app.specs.Report.{server_line}
use Rattle.mencius_app.proofs.printed.push_servers.Given as goal

abbrev pub invariant-loop-server : goal.invariant-loop-server
invariant-loop-server l =
    string_bytes l.text ≡ string_bytes l.initial.text
    ++ flat_map (server_line l.cluster.members (trace_of l.cluster)) (range_with_len 0 l.server)
