use Rattle.mencius_model.proofs.Theorems as theorem
use Rattle.mencius_model.proofs.laws.order.Goals as goal

pub returns : goal.returns
returns c = theorem.order
