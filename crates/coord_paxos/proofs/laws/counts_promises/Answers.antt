use Rattle.coord_paxos.proofs.SlotLaws.{promise_answered, promise_counted}
use Rattle.coord_paxos.proofs.laws.counts_promises.Goals as goal

pub returns-clause-tried : goal.returns-clause-tried
returns-clause-tried c = promise_answered

pub returns-clause-after : goal.returns-clause-after
returns-clause-after c = promise_counted
