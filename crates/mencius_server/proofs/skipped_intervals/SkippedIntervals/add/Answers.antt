use Rattle.std.proofs.Common.{◌∙◌, ap, arith, subst, sym}
use Rattle.mencius_server.specs.Intervals.{IsRising, with_interval}
use Rattle.mencius_server.proofs.intervals.RisingIntervals.{rising_with_interval}
use Rattle.mencius_server.proofs.skipped_intervals.SkippedIntervals.add.Goals as goal

pub invariant_of-self-2 : goal.invariant_of-self-2
invariant_of-self-2 c =
    subst (IsRising 0) (sym (c.join.ensures.joined
    ∙ ap (λ xs. with_interval xs c.args.first c.args.stop) c.reserve.ensures.items))
    (rising_with_interval 0 c.self.inside.intervals.items c.args.first c.args.stop (omega arith) c.requires
    c.self.invariant)
