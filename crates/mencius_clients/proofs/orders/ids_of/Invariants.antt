use Rattle.std.proofs.Common.{◌≡◌, ◌++◌, drop}
use Rattle.mencius_clients.specs.Locality.{ids_of}
use Rattle.mencius_clients.proofs.orders.ids_of.Given as goal

abbrev pub invariant-loop-command : goal.invariant-loop-command
invariant-loop-command l = l.ids.items ++ ids_of (drop l.command-index l.commands) ≡ ids_of l.commands
