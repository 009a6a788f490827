use Rattle.std.proofs.Common.{◌-◌, ℕ, ◌<◌, ◌≤◌, get_or, length}
use Rattle.mencius_server.specs.declared.skipped_intervals.Interval.{Interval}
use Rattle.mencius_server.proofs.skipped_intervals.first_past.Given as goal

abbrev pub invariant-loop-low : goal.invariant-loop-low
invariant-loop-low l = record {
  ordered : l.low ≤ l.high;
  within : l.high ≤ length l.intervals;
  before : (n : ℕ) (d : Interval) → n < l.low → (get_or l.intervals n d).stop ≤ l.inst;
  after : (n : ℕ) (d : Interval) → l.high ≤ n → n < length l.intervals → l.inst < (get_or l.intervals n d).stop;
}

abbrev pub decreases-loop-low : goal.decreases-loop-low
decreases-loop-low l = l.high - l.low
