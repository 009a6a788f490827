use Rattle.mencius_format.proofs.TextWords.{commands_read_back, events_read_back}
use Rattle.mencius_format.proofs.laws.reads_back.Goals as goal

pub returns-clause-events : goal.returns-clause-events
returns-clause-events c = events_read_back

pub returns-clause-commands : goal.returns-clause-commands
returns-clause-commands c = commands_read_back
