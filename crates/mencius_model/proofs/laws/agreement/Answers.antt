use Rattle.mencius_model.proofs.Theorems as theorem
use Rattle.mencius_model.proofs.laws.agreement.Goals as goal

pub returns-clause-values : goal.returns-clause-values
returns-clause-values c = theorem.agreement

pub returns-clause-learned : goal.returns-clause-learned
returns-clause-learned c = theorem.learning

pub returns-clause-histories : goal.returns-clause-histories
returns-clause-histories c = theorem.comparing
