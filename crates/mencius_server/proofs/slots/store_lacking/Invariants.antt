use Rattle.std.proofs.Common.{◌≡◌, ◌-◌, ◌≤◌, vec_len}
use Rattle.mencius_base.specs.Members.{owner}
use Rattle.mencius_server.specs.Slots.{new_slot_at, stored_at}
use Rattle.mencius_server.proofs.stored.IntervalLoops.{IsWalked}
use Rattle.mencius_server.proofs.slots.store_lacking.Given as goal

abbrev pub invariant-loop-inst : goal.invariant-loop-inst
invariant-loop-inst l = record {
  own : owner l.fn.interval.members l.inst ≡ l.fn.interval.server;
  low : l.fn.interval.first ≤ l.inst;
  len : vec_len l.slots ≡ vec_len l.initial.slots;
  walked : IsWalked (new_slot_at l.fn.interval l.skipped) (stored_at l.initial.slots.items) (stored_at l.slots.items)
      l.inst;
}

abbrev pub decreases-loop-inst : goal.decreases-loop-inst
decreases-loop-inst l = l.fn.interval.stop - l.inst
