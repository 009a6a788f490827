use Rattle.coord_paxos.proofs.SlotLaws.{begins}
use Rattle.coord_paxos.proofs.laws.begins.Goals as goal

pub returns : goal.returns
returns c = begins
