use Rattle.mencius_model.proofs.Theorems as theorem
use Rattle.mencius_model.proofs.laws.once.Goals as goal

pub returns-clause-submitted : goal.returns-clause-submitted
returns-clause-submitted c = theorem.submitting

pub returns-clause-once : goal.returns-clause-once
returns-clause-once c = theorem.once
