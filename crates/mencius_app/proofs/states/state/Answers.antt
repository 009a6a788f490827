use Rattle.mencius_app.proofs.inputs.TaskEnds.{passed_on}
use Rattle.mencius_app.proofs.states.state.Goals as goal

pub returns-in_err-deliver-clause-fault : goal.returns-in_err-deliver-clause-fault
returns-in_err-deliver-clause-fault g c =
    passed_on _ _ _ g.W.Sink.state _ _ _ _ _ c.from_residual.ensures.1 c.read_state.ensures.made c.read_state.ensures.fault
    c.in_err-deliver.ensures.delivers c.in_err-deliver.ensures.unwritten
