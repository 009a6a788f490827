use Rattle.std.proofs.Common.{◌≡◌, ◌-◌, ◌≤◌}
use Rattle.mencius_base.specs.Members.{owner}
use Rattle.mencius_server.specs.Slots.{is_learned_before}
use Rattle.mencius_server.proofs.stored.SkipLoop.{IsCountUpTo}
use Rattle.mencius_server.proofs.slots.Slots.count_learned_before.Given as goal

abbrev pub invariant-loop-inst : goal.invariant-loop-inst
invariant-loop-inst l = record {
  own : owner l.fn.interval.members l.inst ≡ l.fn.interval.server;
  low : l.fn.interval.first ≤ l.inst;
  counted : IsCountUpTo (is_learned_before l.fn.interval l.skipped l.self) l.inst l.count;
  small : l.count ≤ l.inst;
}

abbrev pub decreases-loop-inst : goal.decreases-loop-inst
decreases-loop-inst l = l.stop - l.inst
