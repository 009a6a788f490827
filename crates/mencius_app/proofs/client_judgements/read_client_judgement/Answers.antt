use Rattle.mencius_app.proofs.inputs.Inputs.{at_err, own_result}
use Rattle.mencius_app.proofs.inputs.LogFaults.{unread_log}
use Rattle.mencius_app.proofs.client_judgements.read_client_judgement.Goals as goal

pub returns-in_err-judgement-clause-fault : goal.returns-in_err-judgement-clause-fault
returns-in_err-judgement-clause-fault g c =
    at_err _ c.in_err-judgement.field-0.0 _ c.from_residual.ensures.1
    (unread_log c.args.options _ _ c.in_err-judgement.field-0.0 c.in_err-judgement.ensures.fault)

pub returns-in_err-text-clause-fault : goal.returns-in_err-text-clause-fault
returns-in_err-text-clause-fault g c = own_result _ _ _ _ _ c.from_residual-in_err-text.ensures.1
