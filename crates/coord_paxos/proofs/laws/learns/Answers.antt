use Rattle.coord_paxos.proofs.SlotLaws.{learns}
use Rattle.coord_paxos.proofs.laws.learns.Goals as goal

pub returns : goal.returns
returns c = learns
