use Rattle.mencius_app.proofs.Words.{rules}
use Rattle.mencius_app.proofs.call.is_reporting.Goals as goal

pub returns-in-Replay : goal.returns-in-Replay
returns-in-Replay c = search rules

pub returns-in-Judge : goal.returns-in-Judge
returns-in-Judge c = search rules

pub returns-in-Clients : goal.returns-in-Clients
returns-in-Clients c = search rules
