use Rattle.worked_proofs.proofs.OneWorkers.{one_text}
use Rattle.worked_proofs.proofs.runs.one_worker.Goals as goal

pub returns : goal.returns
returns c = one_text
