use Rattle.std.proofs.Common.{◌≡◌, ◌++◌}
use Rattle.std.specs.BTreeMap.{values}
use Rattle.mencius_clients.specs.KeyOrders.{gathered}
use Rattle.mencius_clients.proofs.orders.gathered.Given as goal

abbrev pub invariant-loop-of_key : goal.invariant-loop-of_key
invariant-loop-of_key l =
    l.commands.items ++ gathered l.log l.search.trail.items l.of_key-iterator
    ≡ gathered l.log l.search.trail.items (values l.search.by_key)
