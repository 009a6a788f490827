use Rattle.mencius_judge.proofs.theorems.LongestHistory.{longest_linearizes}
use Rattle.mencius_judge.proofs.laws.linearizable.Goals as goal

pub returns : goal.returns
returns c = longest_linearizes
