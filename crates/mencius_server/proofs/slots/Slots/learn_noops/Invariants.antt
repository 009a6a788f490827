use Rattle.std.proofs.Common.{◌≡◌, ◌-◌, ◌≤◌}
use Rattle.std.specs.Option.{option_map}
use Rattle.mencius_base.specs.Members.{owner}
use Rattle.mencius_server.specs.Slots.{slot_after_skip_in, stored_at}
use Rattle.mencius_server.proofs.stored.IntervalLoops.{IsWalked}
use Rattle.mencius_server.proofs.slots.Slots.learn_noops.Given as goal

abbrev pub invariant-loop-inst : goal.invariant-loop-inst
invariant-loop-inst l = record {
  own : owner l.fn.interval.members l.inst ≡ l.fn.interval.server;
  low : l.fn.interval.first ≤ l.inst;
  walked : IsWalked (λ j. option_map (slot_after_skip_in l.fn.interval j)) (stored_at l.initial.self) (stored_at l.self)
      l.inst;
}

abbrev pub decreases-loop-inst : goal.decreases-loop-inst
decreases-loop-inst l = l.stop - l.inst
