use Rattle.std.proofs.Common.{◌≡◌, ℕ, ◌<◌, ◌≤◌, ◌-◌, false}
use Rattle.mencius_base.specs.Members.{owner}
use Rattle.mencius_server.specs.Machine.{is_free_at}
use Rattle.mencius_server.proofs.Server.find_free.Given as goal
use Rattle.mencius_base.specs.Limits.{instance_count}

abbrev pub invariant-loop-inst : goal.invariant-loop-inst
invariant-loop-inst l = record {
  own : owner l.self.members l.inst ≡ l.self.id;
  low : l.self.front ≤ l.inst;
  none : (j : ℕ) → j < l.inst → is_free_at l.self j ≡ false;
}

abbrev pub decreases-loop-inst : goal.decreases-loop-inst
decreases-loop-inst l = instance_count - l.inst
