use Rattle.std.proofs.Common.{◌/◌, ◌<◌, arith, length}
use Rattle.mencius_clients.proofs.Words.{set_here, set_there}
use Rattle.mencius_clients.proofs.slot_set.SlotSet.with.Goals as goal

pub returns-clause-here : goal.returns-clause-here
returns-clause-here c =
    let less : c.args.slot / 64 < length c.args.self.now.words = omega arith in
    set_here c.args.self.now.words c.args.slot less

pub returns-clause-elsewhere : goal.returns-clause-elsewhere
returns-clause-elsewhere c other ne =
    let less : c.args.slot / 64 < length c.args.self.now.words = omega arith in
    set_there c.args.self.now.words c.args.slot other less ne
