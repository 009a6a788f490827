use Rattle.std.proofs.Common.{◌≡◌, ◌<◌, ◌≤◌, ◌++◌, subst, string_bytes}
use Rattle.std.specs.Prelude.{IfSome}
use Rattle.mencius_base.specs.Limits.{instance_count, most_servers}
use Rattle.mencius_base.specs.Members.{IsMember}
use Rattle.mencius_cluster.specs.State.{trace_of}
use Rattle.mencius_trace.specs.After.{notice_after}
use Rattle.mencius_trace.specs.Effects.{instance_of}
use Rattle.mencius_trace.proofs.EffectLists.{effects_are}
use Rattle.mencius_trace.proofs.effects.push_effects.Goals as goal

pub returns : goal.returns
returns c = λ old e noted step.
    let front = c.args.before.now in
    let d = c.args.cluster.now in
    let few = subst (λ n. n ≤ most_servers) c.servers-within_limit.ensures.count c.servers-within_limit.ensures.few in
    effects_are old d e front c.args.effect noted step few _ (c.push_notice.new.facts.items) _ _ _ _
    (subst (λ s. IsMember d.members front.server → IfSome front.heard (λ x. instance_of x < instance_count)
    → c.push_notice.new.facts.items ≡ c.args.facts.now.items
    ++ notice_after d.members (trace_of d) front.server s front.reaction front.heard) c.is_ignored.ensures
    c.in_ok-push_notice.ensures)
    c.in_ok-push_learned.ensures c.in_ok-push_sent.ensures c.in_ok-push_front.ensures
    c.in_ok-push_execution.ensures
