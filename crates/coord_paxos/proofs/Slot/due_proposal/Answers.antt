use Rattle.std.proofs.Common.{rules}
use Rattle.coord_paxos.proofs.Slot.due_proposal.Goals as goal

pub returns : goal.returns
returns c = search rules
