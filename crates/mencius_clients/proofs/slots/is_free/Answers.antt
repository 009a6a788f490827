use Rattle.std.proofs.Common.{None, ◌∙◌}
use Rattle.mencius_clients.proofs.Growing.{waits_at}
use Rattle.mencius_clients.proofs.slots.is_free.Goals as goal

pub returns-in-Some-submitted_at : goal.returns-in-Some-submitted_at
returns-in-Some-submitted_at c = (
  c.in-Some-submitted_at._command.now,
  waits_at c.args.log.now c.args.slots.now c.args.slot c.in-Some.line None c.requires c.in-Some.is
      ∙ c.in-Some-submitted_at.ensures,
)

pub returns-in-None : goal.returns-in-None
returns-in-None c =
    waits_at c.args.log.now c.args.slots.now c.args.slot c.in-Some.line None c.requires c.in-Some.is ∙ c.in-None.ensures
