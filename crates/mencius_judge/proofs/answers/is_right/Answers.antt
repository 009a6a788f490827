use Rattle.std.proofs.Common.{rules}
use Rattle.mencius_judge.proofs.answers.is_right.Goals as goal

pub returns-in-Done : goal.returns-in-Done
returns-in-Done c = search rules
