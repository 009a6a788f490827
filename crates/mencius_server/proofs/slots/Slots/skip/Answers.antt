use Rattle.std.proofs.Common.{◌≡◌, ap, arith, ◌∙◌}
use Rattle.mencius_server.specs.Intervals.{reach_of}
use Rattle.mencius_server.proofs.intervals.NewIntervals.{news_count}
use Rattle.mencius_server.proofs.intervals.RisingIntervals.{in_any_with_interval, owned_with_interval, rising_with_interval}
use Rattle.mencius_server.proofs.slots.Slots.skip.Goals as goal

pub returns-clause-skipped : goal.returns-clause-skipped
returns-clause-skipped c = record {
  rising = rw c.in_ok-further.ensures.ok
      (rising_with_interval 0 c.args.intervals.now c.args.interval.now.first c.args.interval.now.stop (omega arith)
      c.requires.some c.requires.skipped.rising);
  owned = rw c.in_ok-further.ensures.ok
      (owned_with_interval c.args.interval.now.members c.args.interval.now.server _ c.args.intervals.now
      c.args.interval.now.first
      c.args.interval.now.stop c.requires.interval.own c.requires.end c.requires.low c.requires.skipped.owned);
}

pub returns-clause-covers : goal.returns-clause-covers
returns-clause-covers c =
    λ j small own. rw c.in_ok-further.ensures.ok
    (in_any_with_interval c.args.intervals.now c.args.interval.now.first c.args.interval.now.stop j)

pub overflow_sub-result : goal.overflow_sub-result
overflow_sub-result c =
    let news = news_count c.args.interval.now c.args.intervals.now c.args.self.now c.in_ok-further.further
    c.count_learned_before-learned_before.result c.requires.interval.member c.requires.interval.own c.requires.end
    c.requires.some c.requires.low c.requires.skipped.rising c.requires.skipped.owned
    (c.in_ok-further.ensures.further ∙ ap reach_of c.in_ok-further.ensures.ok)
    c.count_learned_before-learned_before.ensures in
    let each : c.from.result ≡ c.args.interval.now.members.count = c.from.ensures ∙ c.count.ensures.count in
    rw each (omega (arith, news))

pub returns-clause-learned : goal.returns-clause-learned
returns-clause-learned c =
    let news = news_count c.args.interval.now c.args.intervals.now c.args.self.now c.in_ok-further.further
    c.count_learned_before-learned_before.result c.requires.interval.member c.requires.interval.own c.requires.end
    c.requires.some c.requires.low c.requires.skipped.rising c.requires.skipped.owned
    (c.in_ok-further.ensures.further ∙ ap reach_of c.in_ok-further.ensures.ok)
    c.count_learned_before-learned_before.ensures in
    let each : c.from.result ≡ c.args.interval.now.members.count = c.from.ensures ∙ c.count.ensures.count in
    rw each (omega (arith, news))
