use Rattle.coord_paxos.proofs.SlotLaws.{acceptance_answered, acceptance_counted}
use Rattle.coord_paxos.proofs.laws.counts_acceptances.Goals as goal

pub returns-clause-tried : goal.returns-clause-tried
returns-clause-tried c = acceptance_answered

pub returns-clause-after : goal.returns-clause-after
returns-clause-after c = acceptance_counted
