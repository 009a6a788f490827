use Rattle.std.proofs.Common.{◌≡◌, reverse, take}
use Rattle.mencius_clients.specs.ClientCounts.{key_count}
use Rattle.mencius_clients.specs.Keys.{AreKeys}
use Rattle.mencius_clients.proofs.client_counts.count_keys.Given as goal

abbrev pub invariant-loop-line : goal.invariant-loop-line
invariant-loop-line l =
    AreKeys (reverse (take l.line l.log)) l.keys × (l.count ≡ key_count (reverse (take l.line l.log)))
