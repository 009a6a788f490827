use Rattle.std.proofs.Common.{◌≡◌}
use Rattle.mencius_choices.specs.Order.{rows_from}
use Rattle.mencius_choices.proofs.order.find_from_row.Given as goal

abbrev pub invariant-loop-at : goal.invariant-loop-at
invariant-loop-at l = rows_from l.plan l.worker l.fn.row ≡ rows_from l.plan l.worker l.at
