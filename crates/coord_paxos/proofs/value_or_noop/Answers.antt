use Rattle.std.proofs.Common.{rules}
use Rattle.coord_paxos.proofs.value_or_noop.Goals as goal

pub returns-in-Some : goal.returns-in-Some
returns-in-Some c = search rules
