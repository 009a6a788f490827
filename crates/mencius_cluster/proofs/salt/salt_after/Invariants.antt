use Rattle.std.proofs.Common.{◌≡◌, fold, take}
use Rattle.std.specs.Hash as fed
use Rattle.std.specs.Hash.DefaultHasher as sip
use Rattle.mencius_cluster.specs.Salt.{after_identity}
use Rattle.mencius_cluster.proofs.salt.salt_after.Given as goal

abbrev pub invariant-loop-command : goal.invariant-loop-command
invariant-loop-command l =
    l.hasher
    ≡ fold (after_identity sip.write) (fold sip.write sip.initial (fed.u64 l.salt)) (take l.command-index l.commands)
