use Rattle.std.proofs.Common.{◌≡◌, ◌++◌, ap, ◌∙◌, arith, string_bytes}
use Rattle.std.specs.List.{flat_map, range_with_len}
use Rattle.mencius_base.specs.Members.{numbers_below}
use Rattle.mencius_cluster.specs.State.{trace_of}
use Rattle.mencius_trace.specs.LastLines.{unheard_at}
use Rattle.mencius_trace.proofs.TextLoops.{texts_further}
use Rattle.mencius_trace.proofs.unheard.push_for_each.Goals as goal

pub loop-server-preserved : goal.loop-server-preserved
loop-server-preserved c =
    let w = trace_of c.args.cluster.now in
    texts_further
    (unheard_at c.args.view.now c.args.suggested.now c.args.cluster.now.members w c.args.number c.args.message.now)
    c.loop-server.server _ _ _ c.loop-server.invariant c.in_ok-push_for.ensures

pub returns : goal.returns
unfolding numbers_below
returns c =
    let w = trace_of c.args.cluster.now in
    let line = unheard_at c.args.view.now c.args.suggested.now c.args.cluster.now.members w c.args.number c.args.message.now in
    let all : c.loop-server.server ≡ c.args.cluster.now.members.count =
    omega (arith, c.loop-server-test.false, c.loop-server.auto.server-end, c.servers-server-end.ensures.count) in
    c.loop-server.invariant
    ∙ ap (λ n. string_bytes c.args.text.now ++ flat_map line (range_with_len 0 n)) all
