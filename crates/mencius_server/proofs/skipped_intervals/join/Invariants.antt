use Rattle.std.proofs.Common.{◌<◌, vec_len, vec_capacity}
use Rattle.mencius_server.proofs.intervals.RisingIntervals.{IsJoining}
use Rattle.mencius_server.proofs.skipped_intervals.join.Given as goal

abbrev pub invariant-loop-intervals : goal.invariant-loop-intervals
invariant-loop-intervals l = record {
  joining : IsJoining l.initial.intervals.items l.intervals.items l.first l.stop l.at l.union.first l.union.stop
      l.absorbed;
  room : vec_len l.intervals < vec_capacity l.intervals;
}

abbrev pub decreases-loop-intervals : goal.decreases-loop-intervals
decreases-loop-intervals l = vec_len l.intervals
