use Rattle.std.proofs.Common.{◌≤◌, arith, length}
use Rattle.mencius_clients.proofs.Words.{less}
use Rattle.mencius_clients.proofs.slot_set.SlotSet.is_less.Goals as goal

pub returns : goal.returns
returns c holds =
    let all = c.loop-word-test.false in
    let short : length c.args.self.now.words ≤ c.loop-word.word = omega (arith, all) in
    let short_too : length c.args.most.now.words ≤ c.loop-word.word = omega (arith, all) in
    less c.args.self.now c.args.most.now c.args.lost.now c.loop-word.word short short_too c.loop-word.invariant
