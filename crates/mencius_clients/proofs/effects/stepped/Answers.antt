use Rattle.std.proofs.Common.{sym, subst}
use Rattle.mencius_clients.specs.Configurations.{HasReplyLine}
use Rattle.mencius_clients.proofs.effects.stepped.Goals as goal

pub returns-in_err-answer-clause-step : goal.returns-in_err-answer-clause-step
returns-in_err-answer-clause-step c =
    absurd (c.in_err-answer.ensures.counts
    (subst (HasReplyLine c.args.log.now c.args.replies.now) (sym c.id.ensures)
    (c.is_unacknowledged.ensures.other c.if-is_unacknowledged.false)))
