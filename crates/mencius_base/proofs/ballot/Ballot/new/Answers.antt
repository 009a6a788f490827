use Rattle.std.proofs.Common.{rules}
use Rattle.mencius_base.proofs.ballot.Ballot.new.Goals as goal

pub returns-clause-valid : goal.returns-clause-valid
returns-clause-valid c = search rules
