use Rattle.std.proofs.Common.{sym, ◌∙◌}
use Rattle.mencius_cluster.specs.State.{trace_of}
use Rattle.mencius_trace.proofs.MemberAnswers.{counted_by}
use Rattle.mencius_trace.proofs.effects.push_count.Goals as goal

pub returns-in-Some : goal.returns-in-Some
returns-in-Some c =
    let m = c.args.cluster.now.members in
    let w = trace_of c.args.cluster.now in
    counted_by m c.members.result w c.args.server _ 0 c.args.message.now c.in-Some.glance _ _ _ c.instance_of.ensures
    c.members.ensures
    (λ small. sym c.in-Some.is ∙ c.glance.ensures.there small) c.push_count_of.ensures
