use Rattle.std.proofs.Common.{◌≡◌, reverse}
use Rattle.mencius_clients.specs.FittingAnswers.{AllFit}
use Rattle.mencius_clients.proofs.fitting_answers.fitting_after.Given as goal

abbrev pub invariant-loop-answer : goal.invariant-loop-answer
invariant-loop-answer l =
    (l.lines.items ≡ l.fn.lines.items) × AllFit (reverse l.fn.lines.items) l.id l.fitting.items
