use Rattle.std.proofs.Common.{◌≡◌, ◌++◌, drop}
use Rattle.mencius_clients.specs.KeyOrders.{timed_lines}
use Rattle.mencius_clients.proofs.orders.push_commands.Given as goal

abbrev pub invariant-loop-line : goal.invariant-loop-line
invariant-loop-line l =
    l.commands.items ++ timed_lines l.log l.moment (drop l.line-index l.line-items)
    ≡ l.initial.commands.items ++ timed_lines l.log 0 l.line-items
