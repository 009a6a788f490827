use Rattle.std.proofs.Common.{rules}
use Rattle.coord_paxos.proofs.Slot.prepare_answer.Goals as goal

pub returns : goal.returns
returns c = search rules
