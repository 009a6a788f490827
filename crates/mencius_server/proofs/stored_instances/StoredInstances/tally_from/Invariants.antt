use Rattle.std.proofs.Common.{◌≡◌, ◌-◌}
use Rattle.mencius_server.specs.Instances.{instance_slot_in}
use Rattle.mencius_server.proofs.tallies.OneTally.{IsTalliedTo}
use Rattle.mencius_server.proofs.stored_instances.StoredInstances.tally_from.Given as goal

abbrev pub invariant-loop-inst : goal.invariant-loop-inst
invariant-loop-inst l = record {
  tallied : IsTalliedTo l.self.members (instance_slot_in l.self.members l.self.slots l.self.skipped.items) l.server l.first l.stop l.tally l.inst;
  stop : l.tally.stop ≡ l.stop;
}

abbrev pub decreases-loop-inst : goal.decreases-loop-inst
decreases-loop-inst l = l.stop - l.inst
