use Rattle.std.proofs.Common.{◌≡◌, ◌++◌, ◌-◌, length}
use Rattle.mencius_clients.specs.KeyOrders.{lines_back}
use Rattle.mencius_clients.proofs.orders.lines_back.Given as goal

abbrev pub invariant-loop : goal.invariant-loop
invariant-loop l =
    l.lines.items ++ lines_back l.trail (length l.trail - l.counter) l.next ≡ lines_back l.trail (length l.trail) l.number
