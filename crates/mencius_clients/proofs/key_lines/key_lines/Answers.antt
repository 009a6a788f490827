use Rattle.std.proofs.Common.{◌<◌, arith, length}
use Rattle.mencius_clients.proofs.Explaining.{get_at}
use Rattle.mencius_clients.proofs.KeyQuotes.{all_lines, more_lines}
use Rattle.mencius_clients.proofs.key_lines.key_lines.Goals as goal

pub loop-place-init : goal.loop-place-init
loop-place-init c = c.new-lines.ensures c.args.key.now

pub loop-place-preserved : goal.loop-place-preserved
loop-place-preserved c =
    let log = c.args.log.now in
    let there : c.loop-place.place < length log.observations.items =
    omega (arith, c.loop-place-test.true, c.requires.within) in
    more_lines c.args.key.now log.numbers.items log.observations.items c.loop-place.place c.number_at-number.result
    c.index-observation.result.now c.loop-place.lines c.take.new.self c.number_at-number.ensures
    (get_at log.observations.items c.loop-place.place c.index-observation.result.now there c.index-observation.ensures)
    c.in_ok-take.ensures c.loop-place.invariant

pub returns : goal.returns
returns c =
    all_lines c.args.key.now c.args.log.now.numbers.items c.args.log.now.observations.items c.loop-place.place _
    c.loop-place.lines c.loop-place-test.false c.loop-place.auto.place-end c.loop-place.invariant
