use Rattle.mencius_app.specs.Judgements.{judge_task}
use Rattle.mencius_app.proofs.inputs.TaskEnds.{delivered, undelivered}
use Rattle.mencius_app.proofs.judgements.judge.Goals as goal

pub returns-clause-done : goal.returns-clause-done
returns-clause-done g c =
    delivered (judge_task c.args.is_brief c.args.is_json) (g.R.Source.state c.args.source.now) (g.R.Source.state c.read_judgement.new.source) g.W.Sink.state _ _ _ _
    c.read_judgement.ensures.made c.deliver.ensures.delivers

pub returns-clause-fault : goal.returns-clause-fault
returns-clause-fault g c =
    undelivered _ _ _ g.W.Sink.state _ _ _ _ c.read_judgement.ensures.made c.read_judgement.ensures.fault c.deliver.ensures.delivers
    c.deliver.ensures.unwritten
