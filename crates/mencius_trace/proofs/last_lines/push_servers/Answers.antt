use Rattle.std.proofs.Common.{◌≡◌, ◌++◌, ap, ◌∙◌, arith, string_bytes}
use Rattle.std.specs.List.{flat_map, range_with_len}
use Rattle.mencius_base.specs.Members.{numbers_below}
use Rattle.mencius_trace.specs.LastLines.{chosen_server}
use Rattle.mencius_cluster.specs.State.{trace_of}
use Rattle.mencius_trace.proofs.TextLoops.{texts_further}
use Rattle.mencius_trace.proofs.last_lines.push_servers.Goals as goal

pub loop-server-preserved : goal.loop-server-preserved
loop-server-preserved c =
    texts_further
    (chosen_server c.args.view.now c.args.suggested.now c.args.cluster.now.members
    (trace_of c.args.cluster.now)) c.loop-server.server _ _ _ c.loop-server.invariant c.in_ok-push_chosen_server.ensures

pub returns : goal.returns
unfolding numbers_below
returns c =
    let line = chosen_server c.args.view.now c.args.suggested.now c.args.cluster.now.members (trace_of c.args.cluster.now) in
    let all : c.loop-server.server ≡ c.args.cluster.now.members.count =
    omega (arith, c.loop-server-test.false, c.loop-server.auto.server-end, c.servers-server-end.ensures.count) in
    c.loop-server.invariant
    ∙ ap (λ n. string_bytes c.args.text.now ++ flat_map line (range_with_len 0 n)) all
