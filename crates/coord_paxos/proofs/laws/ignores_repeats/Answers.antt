use Rattle.coord_paxos.proofs.Repeats.{acceptance_twice, promise_twice}
use Rattle.coord_paxos.proofs.SlotLaws.{message_twice}
use Rattle.coord_paxos.proofs.laws.ignores_repeats.Goals as goal

pub returns-clause-messages : goal.returns-clause-messages
returns-clause-messages c = message_twice

pub returns-clause-promises : goal.returns-clause-promises
returns-clause-promises c = promise_twice

pub returns-clause-acceptances : goal.returns-clause-acceptances
returns-clause-acceptances c = acceptance_twice
