use Rattle.coord_paxos.proofs.SlotLaws.{accepts}
use Rattle.coord_paxos.proofs.laws.accepts.Goals as goal

pub returns : goal.returns
returns c = accepts
