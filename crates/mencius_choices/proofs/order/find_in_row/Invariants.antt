use Rattle.std.proofs.Common.{◌≡◌}
use Rattle.mencius_choices.specs.Order.{row_from}
use Rattle.mencius_choices.proofs.order.find_in_row.Given as goal

abbrev pub invariant-loop-server : goal.invariant-loop-server
invariant-loop-server l = row_from l.plan l.worker l.row l.fn.first ≡ row_from l.plan l.worker l.row l.server
