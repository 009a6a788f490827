use Rattle.std.proofs.Common.{◌≡◌, ℕ, ◌<◌, ◌-◌, None}
use Rattle.mencius_base.specs.Members.{owner}
use Rattle.mencius_server.specs.Machine.{own_waiting_at}
use Rattle.mencius_server.proofs.Server.first_lost.Given as goal

abbrev pub invariant-loop-inst : goal.invariant-loop-inst
invariant-loop-inst l = record {
  own : owner l.self.members l.inst ≡ l.self.id;
  none : (j : ℕ) → j < l.inst → own_waiting_at l.self j ≡ None;
}

abbrev pub decreases-loop-inst : goal.decreases-loop-inst
decreases-loop-inst l = l.end - l.inst
