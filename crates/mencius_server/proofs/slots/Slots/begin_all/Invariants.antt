use Rattle.std.proofs.Common.{◌≡◌, ℕ, Bool, Some, false, true, ◌-◌, ◌<◌, ◌≤◌}
use Rattle.mencius_base.specs.Limits.{greatest_front, instance_count}
use Rattle.coord_paxos.specs.SlotState.{SlotState}
use Rattle.mencius_base.specs.Members.{owner}
use Rattle.mencius_server.specs.Slots.{PassesLearnedIntervals, is_covered_slot, is_in, is_unlearned, prepare_of, stored_after_phase, stored_at}
use Rattle.mencius_server.specs.LearnedIntervals.{AreLearnedIntervals}
use Rattle.mencius_server.proofs.suspicions.FirstPhases.{HasRoomFrom, IsSentUpTo}
use Rattle.mencius_server.proofs.stored.IntervalLoops.{IsWalked}
use Rattle.mencius_server.proofs.slots.Slots.begin_all.Given as goal
use Rattle.mencius_server.specs.Machine.{is_spent}

abbrev pub invariant-loop-inst : goal.invariant-loop-inst
invariant-loop-inst l = record {
  own : owner l.fn.interval.members l.inst ≡ l.fn.interval.server;
  low : l.fn.interval.first ≤ l.inst;
  walked : IsWalked (stored_after_phase l.fn.interval l.id) (stored_at l.initial.self) (stored_at l.self) l.inst;
  sent : IsSentUpTo (prepare_of l.fn.interval l.id l.initial.self) (is_covered_slot l.fn.interval l.initial.self)
      l.initial.out.messages l.out.messages l.inst;
  room : HasRoomFrom (is_covered_slot l.fn.interval l.initial.self) l.fn.interval.stop l.out.room l.inst;
  last : l.is_last ≡ false → (j : ℕ) (s : SlotState) → j < l.inst
      → is_covered_slot l.fn.interval l.initial.self j ≡ true
      → stored_at l.self j ≡ Some s → is_spent l.fn.interval.members s ≡ false;
  learned_intervals : PassesLearnedIntervals l.fn.interval l.initial.self l.initial.learned_intervals
      l.learned_intervals;
  limit : l.out.limit ≡ l.initial.out.limit;
}

abbrev pub invariant-loop-end : goal.invariant-loop-end
invariant-loop-end l = record {
  own : owner l.fn.interval.members l.end ≡ owner l.fn.interval.members l.inst;
  low : l.inst ≤ l.end;
  near : l.end ≤ greatest_front;
  passed : (opens : ℕ → Bool) → AreLearnedIntervals l.fn.interval.members opens l.learned_intervals
      → ((j : ℕ) → is_in l.fn.interval j ≡ true → is_unlearned (stored_at l.self j) ≡ false → opens j ≡ false)
      → (j : ℕ) → l.inst ≤ j → j < l.end → owner l.fn.interval.members j ≡ owner l.fn.interval.members l.inst
      → j < instance_count → opens j ≡ false;
}

abbrev pub decreases-loop-end : goal.decreases-loop-end
decreases-loop-end l = l.fn.interval.stop - l.end

abbrev pub decreases-loop-inst : goal.decreases-loop-inst
decreases-loop-inst l = l.fn.interval.stop - l.inst
