use Rattle.std.proofs.Common.{rules}
use Rattle.mencius_clients.proofs.effects.answered_step.Goals as goal

pub returns-then-not-is_right_at-clause-step : goal.returns-then-not-is_right_at-clause-step
returns-then-not-is_right_at-clause-step c = (
  (c.args.answer.now, c.requires.answer, c.requires.counts),
  (c.args.answer.now, c.requires.answer, search rules),
)
