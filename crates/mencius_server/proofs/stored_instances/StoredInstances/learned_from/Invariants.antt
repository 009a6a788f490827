use Rattle.std.proofs.Common.{◌-◌, ◌≡◌, ℕ, false, ◌<◌, ◌≤◌}
use Rattle.std.specs.Prelude.{is_none}
use Rattle.mencius_server.specs.Instances.{instance_slot_in}
use Rattle.mencius_server.proofs.stored_instances.StoredInstances.learned_from.Given as goal
use Rattle.mencius_base.specs.Limits.{instance_count}

abbrev pub invariant-loop-inst : goal.invariant-loop-inst
invariant-loop-inst l = record {
  small : l.inst ≤ instance_count;
  learned : (j : ℕ) → l.from ≤ j → j < l.inst
      → is_none (instance_slot_in l.self.members l.self.slots l.self.skipped.items j).learned ≡ false;
}

abbrev pub decreases-loop-inst : goal.decreases-loop-inst
decreases-loop-inst l = instance_count - l.inst
