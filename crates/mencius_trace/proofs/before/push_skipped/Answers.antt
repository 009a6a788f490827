use Rattle.std.proofs.Common.{◌++◌, ◌∷◌, ◌&&◌, [], cond, eqb, ap, ◌∙◌, arith}
use Rattle.std.specs.Prelude.{is_none}
use Rattle.mencius_base.specs.Members.{Membership, owner}
use Rattle.mencius_base.specs.declared.message.Value.TheVariants.{Noop}
use Rattle.mencius_model.specs.Instance.{learned_value}
use Rattle.mencius_cluster.specs.State.{trace_of}
use Rattle.mencius_trace.specs.declared.fact.Fact.TheVariants.{Learned as FactLearned}
use Rattle.mencius_trace.proofs.SkippedLines.{skipped_next, skipped_start, skipped_whole}
use Rattle.mencius_trace.proofs.before.push_skipped.Goals as goal

pub loop-inst-init : goal.loop-inst-init
loop-inst-init c = skipped_start _ _ _ _ _ _ _

pub loop-inst-preserved : goal.loop-inst-preserved
loop-inst-preserved c =
    let w = trace_of c.args.cluster.now in
    skipped_next c.args.cluster.now.members w c.args.server c.args.from c.args.first c.args.stop c.loop-inst.inst _
    c.loop-inst.facts.items _ c.loop-inst.auto.inst
    (omega (arith, c.loop-inst-test.true, c.min-inst-end.ensures))
    (omega (arith, c.loop-inst-test.true, c.min-inst-end.ensures)) c.loop-inst.invariant
    (λ member. c.in_ok-push_where_unlearned.ensures member
    ∙ ap (λ o. c.loop-inst.facts.items ++ cond (eqb o c.args.from
    && is_none (learned_value w c.args.server c.loop-inst.inst))
    (FactLearned c.args.server c.loop-inst.inst Noop ∷ []) [])
    (c.owner.ensures.owner ∙ ap (λ (m : Membership). owner m c.loop-inst.inst) c.members-members.ensures))

pub returns : goal.returns
returns c =
    skipped_whole c.args.cluster.now.members _ c.args.server c.args.from c.args.first c.args.stop c.loop-inst.inst _ _
    (λ fits. omega (arith, c.loop-inst-test.false, c.min-inst-end.ensures, fits)) c.loop-inst.invariant
