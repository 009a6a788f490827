use Rattle.std.proofs.Common.{rules}
use Rattle.coord_paxos.proofs.higher.Goals as goal

pub returns-then-lt : goal.returns-then-lt
returns-then-lt c = search rules
