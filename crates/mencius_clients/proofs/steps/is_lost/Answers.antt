use Rattle.std.proofs.Common.{None, ◌∙◌}
use Rattle.mencius_clients.proofs.Fewer.{lost_one}
use Rattle.mencius_clients.proofs.Growing.{waits_at}
use Rattle.mencius_clients.proofs.steps.is_lost.Goals as goal

pub returns-in-Some-submitted_at : goal.returns-in-Some-submitted_at
returns-in-Some-submitted_at c lost =
    lost_one c.args.log.now c.args.slots.now c.args.slot c.in-Some-submitted_at.command.now
    (waits_at c.args.log.now c.args.slots.now c.args.slot c.in-Some.line None c.requires.slot c.in-Some.is
    ∙ c.in-Some-submitted_at.ensures)
    (c.is_unacknowledged.ensures.unacknowledged lost)
