use Rattle.std.proofs.Common.{rules}
use Rattle.mencius_judge.proofs.settled.first_unsettled.Goals as goal

pub returns : goal.returns
returns c = search rules
