use Rattle.mencius_clients.proofs.Fewer.{lost_step}
use Rattle.mencius_clients.proofs.effects.unanswered_step.Goals as goal

pub returns-clause-step : goal.returns-clause-step
returns-clause-step c calls =
    lost_step c.args.log.now calls c.args.slot c.args.command.now c.args.from.now c.after-new.result
    c.requires.unacknowledged c.after-new.ensures.elsewhere c.after-new.ensures.text
