use Rattle.mencius_clients.specs.Configurations.{IsReadOn, waiting}
use Rattle.mencius_clients.proofs.effects.with_reads.Given as goal

abbrev pub invariant-loop-slot : goal.invariant-loop-slot
invariant-loop-slot l = IsReadOn l.log (waiting l.log l.slots) l.from l.new
