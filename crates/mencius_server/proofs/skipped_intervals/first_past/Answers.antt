use Rattle.std.proofs.Common.{◌<◌, ◌≤◌, ◌+◌, ◌-◌, ◌/◌, get_or, length, arith, subst}
use Rattle.std.proofs.lemmas.List.{get_or_default}
use Rattle.mencius_server.specs.declared.skipped_intervals.Interval.{Interval}
use Rattle.mencius_server.proofs.intervals.RisingIntervals.{rising_stop}
use Rattle.mencius_server.proofs.skipped_intervals.first_past.Goals as goal

pub loop-low-preserved-then-intervals-middle : goal.loop-low-preserved-then-intervals-middle
loop-low-preserved-then-intervals-middle c = record {
  ordered = omega arith;
  within = c.loop-low.invariant.within;
  before = λ n d low.
      let inside : c.loop-low.low + (c.loop-low.high - c.loop-low.low) / 2 < length c.args.intervals.now =
      omega (arith, c.loop-low.invariant.within) in
      let here = get_or_default c.args.intervals.now (c.loop-low.low + (c.loop-low.high - c.loop-low.low) / 2) d
      (record { first = 0; stop = 0 }) inside in
      let rises = rising_stop 0 c.args.intervals.now c.requires n
      (c.loop-low.low + (c.loop-low.high - c.loop-low.low) / 2) d (omega arith) inside in
      let P : Interval → Type 0 = λ r. (get_or c.args.intervals.now n d).stop ≤ r.stop in
      let rises_here : (get_or c.args.intervals.now n d).stop
      ≤ (get_or c.args.intervals.now (c.loop-low.low + (c.loop-low.high - c.loop-low.low) / 2)
      (record { first = 0; stop = 0 })).stop = subst P here rises in
      omega (arith, rises_here, c.if-intervals-middle.true);
  after = c.loop-low.invariant.after;
}

pub loop-low-preserved : goal.loop-low-preserved
loop-low-preserved c = record {
  ordered = omega arith;
  within = omega (arith, c.loop-low.invariant.within);
  before = c.loop-low.invariant.before;
  after = λ n d low more.
      let inside : c.loop-low.low + (c.loop-low.high - c.loop-low.low) / 2 < length c.args.intervals.now =
      omega (arith, c.loop-low.invariant.within) in
      let here = get_or_default c.args.intervals.now (c.loop-low.low + (c.loop-low.high - c.loop-low.low) / 2) d
      (record { first = 0; stop = 0 }) inside in
      let rises = rising_stop 0 c.args.intervals.now c.requires
      (c.loop-low.low + (c.loop-low.high - c.loop-low.low) / 2) n d low more in
      let P : Interval → Type 0 = λ r. r.stop ≤ (get_or c.args.intervals.now n d).stop in
      let rises_here :
      (get_or c.args.intervals.now (c.loop-low.low + (c.loop-low.high - c.loop-low.low) / 2)
      (record { first = 0; stop = 0 })).stop ≤ (get_or c.args.intervals.now n d).stop = subst P here rises in
      omega (arith, rises_here, c.if-intervals-middle.false);
}
