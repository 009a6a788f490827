use Rattle.std.proofs.Common.{rules}
use Rattle.mencius_judge.proofs.settled.open_count.Goals as goal

pub returns : goal.returns
returns c = search rules
