use Rattle.mencius_judge.proofs.lines.WrittenLines.{logs_read_back, observations_read_back}
use Rattle.mencius_judge.proofs.laws.written_lines.Goals as goal

pub returns-clause-observations : goal.returns-clause-observations
returns-clause-observations c = observations_read_back

pub returns-clause-logs : goal.returns-clause-logs
returns-clause-logs c = logs_read_back
