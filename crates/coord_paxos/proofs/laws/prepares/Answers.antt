use Rattle.coord_paxos.proofs.SlotLaws.{prepared}
use Rattle.coord_paxos.proofs.laws.prepares.Goals as goal

pub returns-clause-after : goal.returns-clause-after
returns-clause-after c = prepared
