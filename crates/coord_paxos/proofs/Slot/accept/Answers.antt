use Rattle.std.proofs.Common.{rules}
use Rattle.coord_paxos.proofs.Slot.accept.Goals as goal

pub returns-clause-after : goal.returns-clause-after
returns-clause-after c = search rules

pub returns-clause-answer : goal.returns-clause-answer
returns-clause-answer c = search rules
