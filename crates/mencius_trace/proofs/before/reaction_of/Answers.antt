use Rattle.std.proofs.Common.{◌≡◌, ◌<◌, Some, sym, ap, subst, ◌∙◌}
use Rattle.mencius_base.specs.Limits.{instance_count}
use Rattle.mencius_cluster.specs.Answers.{if_member}
use Rattle.mencius_cluster.specs.State.{trace_of}
use Rattle.mencius_trace.specs.Effects.{glance, reaction_at}
use Rattle.mencius_trace.proofs.MemberAnswers.{if_member_is}
use Rattle.mencius_trace.proofs.before.reaction_of.Goals as goal

pub returns-in-Some : goal.returns-in-Some
returns-in-Some c = λ member small.
    let m = c.args.cluster.now.members in
    let w = trace_of c.args.cluster.now in
    let there = c.glance.ensures.there (subst (λ i. i < instance_count) (sym c.instance_of.ensures) small) in
    c.reaction_at.ensures
    ∙ ap (λ g. reaction_at g c.args.message.now)
    (if_member_is m c.args.server _ _ member
    (subst (λ i. Some c.in-Some.glance ≡ if_member m c.args.server (glance m w c.args.server i)) c.instance_of.ensures
    (sym c.in-Some.is ∙ there)))
