use Rattle.std.proofs.Common.{◌<◌, ◌∙◌, arith, sym, subst, ap}
use Rattle.std.specs.List.{Contains}
use Rattle.mencius_base.specs.declared.command.CommandId.{CommandId}
use Rattle.mencius_log.specs.declared.observation.Observation.TheVariants.{Reply}
use Rattle.mencius_judge.specs.Tables.{number_count}
use Rattle.mencius_model.specs.KeyMap.{is_read}
use Rattle.mencius_clients.proofs.ReplyLines.{idle_failed, idle_read, no_reply}
use Rattle.mencius_clients.proofs.answers.is_idle.Goals as goal

pub returns-in-Some-clause-idle : goal.returns-in-Some-clause-idle
returns-in-Some-clause-idle c e =
    let small : c.id.result.number < number_count = omega arith in
    idle_failed c.args.log.now c.args.replies.now c.args.command.now c.id.result c.in-Some.answer.now c.id.ensures small
    c.requires c.in-Some.ensures.there (sym c.is_failed.ensures ∙ e) c.in-Some.ensures.failed

pub returns-in-None-clause-idle : goal.returns-in-None-clause-idle
returns-in-None-clause-idle c e =
    let small : c.id.result.number < number_count = omega arith in
    idle_read c.args.log.now c.args.replies.now c.args.command.now c.id.result c.id.ensures small
    c.requires c.in-None.ensures.counts (ap is_read (sym c.op.ensures.op) ∙ sym c.is_read.ensures ∙ e)

pub returns-in-Some-clause-other : goal.returns-in-Some-clause-other
returns-in-Some-clause-other c e none x there =
    none (
      c.in-Some.answer.now,
      subst (λ (id : CommandId). Contains c.args.log.now (Reply id c.in-Some.answer.now)) c.id.ensures
          c.in-Some.ensures.there,
      sym c.is_failed.ensures ∙ e,
    )

pub returns-in-None-clause-other : goal.returns-in-None-clause-other
returns-in-None-clause-other c e none x there =
    let small : c.id.result.number < number_count = omega arith in
    no_reply c.args.log.now c.args.replies.now c.id.result small c.requires c.in-None.ensures.none x
    (subst (λ (id : CommandId). Contains c.args.log.now (Reply id x)) (sym c.id.ensures) there)
