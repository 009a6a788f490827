use Rattle.std.proofs.Common.{rules}
use Rattle.mencius_judge.proofs.settled.acknowledge.Goals as goal

pub returns-in_ok-push : goal.returns-in_ok-push
returns-in_ok-push c = search rules
