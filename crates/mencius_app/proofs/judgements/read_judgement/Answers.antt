use Rattle.mencius_app.proofs.inputs.Inputs.{own_result}
use Rattle.mencius_app.proofs.judgements.read_judgement.Goals as goal

pub returns-in_err-text-clause-fault : goal.returns-in_err-text-clause-fault
returns-in_err-text-clause-fault g c = own_result _ _ _ _ _ c.from_residual-in_err-text.ensures.1
