use Rattle.coord_paxos.proofs.SlotTrace.{slot_at-suggested}
use Rattle.coord_paxos.proofs.SlotLaws.{slot_at-empty}
use Rattle.coord_paxos.proofs.laws.owner_proposes.Goals as goal

pub returns-clause-start : goal.returns-clause-start
returns-clause-start c = slot_at-empty

pub returns-clause-suggested : goal.returns-clause-suggested
returns-clause-suggested c = slot_at-suggested
