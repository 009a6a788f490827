use Rattle.mencius_server.proofs.events.Isolation.{execution_leaves_all, leaves_others, loss_leaves_all}
use Rattle.mencius_server.proofs.laws.isolation.Goals as goal

pub returns-clause-others : goal.returns-clause-others
returns-clause-others c = leaves_others

pub returns-clause-loss : goal.returns-clause-loss
returns-clause-loss c = loss_leaves_all

pub returns-clause-execution : goal.returns-clause-execution
returns-clause-execution c = execution_leaves_all
