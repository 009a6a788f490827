use Rattle.std.proofs.Common.{reverse, ap, sym, ◌∙◌}
use Rattle.mencius_clients.proofs.fitting_answers.fitting_after.Goals as goal

pub loop-answer-preserved : goal.loop-answer-preserved
loop-answer-preserved c = (
  c.in_ok-try_answer.ensures.lines ∙ c.loop-answer.invariant.0,
  c.in_ok-try_answer.ensures.fitting (reverse c.args.lines.items) (ap reverse (sym c.loop-answer.invariant.0))
      c.loop-answer.invariant.1,
)
