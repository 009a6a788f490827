use Rattle.mencius_app.proofs.Words.{rules}
use Rattle.mencius_app.proofs.ending.exit_status.Goals as goal

pub returns-in-ReadFailed : goal.returns-in-ReadFailed
returns-in-ReadFailed c = search rules
