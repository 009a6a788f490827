use Rattle.std.proofs.Common.{◌-◌, ◌≡◌, ℕ, false, ◌<◌, ◌≤◌}
use Rattle.std.specs.Prelude.{is_none}
use Rattle.mencius_base.specs.Limits.{greatest_front, instance_count}
use Rattle.mencius_base.specs.Members.{owner}
use Rattle.mencius_server.specs.Instances.{instance_slot_in}
use Rattle.mencius_server.proofs.stored_instances.StoredInstances.open_from.Given as goal

abbrev pub invariant-loop-inst : goal.invariant-loop-inst
invariant-loop-inst l = record {
  owned : owner l.self.members l.inst ≡ owner l.self.members l.from;
  near : l.inst ≤ greatest_front;
  learned : (j : ℕ) → l.from ≤ j → j < l.inst → owner l.self.members j ≡ owner l.self.members l.from
      → j < instance_count
      → is_none (instance_slot_in l.self.members l.self.slots l.self.skipped.items j).learned ≡ false;
}

abbrev pub decreases-loop-inst : goal.decreases-loop-inst
decreases-loop-inst l = l.stop - l.inst
