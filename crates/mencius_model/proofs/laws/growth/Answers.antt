use Rattle.mencius_model.proofs.Theorems as theorem
use Rattle.mencius_model.proofs.laws.growth.Goals as goal

pub returns-clause-histories : goal.returns-clause-histories
returns-clause-histories c = theorem.growing

pub returns-clause-longest : goal.returns-clause-longest
returns-clause-longest c = theorem.longest_growing

pub returns-clause-commands : goal.returns-clause-commands
returns-clause-commands c = theorem.longest_commands_growing
