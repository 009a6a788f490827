use Rattle.mencius_app.specs.ClientJudgements.{clients_task}
use Rattle.mencius_app.proofs.inputs.TaskEnds.{delivered, undelivered}
use Rattle.mencius_app.proofs.client_judgements.judge_by_clients.Goals as goal

pub returns-clause-done : goal.returns-clause-done
returns-clause-done g c =
    delivered (clients_task c.args.options) (g.R.Source.state c.args.source.now)
    (g.R.Source.state c.read_client_judgement.new.source) g.W.Sink.state _ _ _ _
    c.read_client_judgement.ensures.made c.deliver.ensures.delivers

pub returns-clause-fault : goal.returns-clause-fault
returns-clause-fault g c =
    undelivered _ _ _ g.W.Sink.state _ _ _ _ c.read_client_judgement.ensures.made
    c.read_client_judgement.ensures.fault c.deliver.ensures.delivers c.deliver.ensures.unwritten
