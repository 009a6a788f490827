use Rattle.std.proofs.Common.{rules}
use Rattle.coord_paxos.proofs.has_majority.Goals as goal

pub returns : goal.returns
returns c = search rules
