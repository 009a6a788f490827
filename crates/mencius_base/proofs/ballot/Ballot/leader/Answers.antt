use Rattle.std.proofs.Common.{rules}
use Rattle.mencius_base.proofs.ballot.Ballot.leader.Goals as goal

pub returns-else-self-eq0-clause-leader : goal.returns-else-self-eq0-clause-leader
returns-else-self-eq0-clause-leader c = search rules
