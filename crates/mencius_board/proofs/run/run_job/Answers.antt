use Rattle.std.specs.Prelude.{IfErr}
use Rattle.std.proofs.Common.{Result, Ok, Err, inr}
use Rattle.mencius_base.specs.Plan.{PlanState}
use Rattle.mencius_board.specs.Boards.{BoardState}
use Rattle.mencius_board.specs.declared.fault.BoardFault.{BoardFault}
use Rattle.mencius_board.specs.Runs.{HasFailed, HasStopped}
use Rattle.mencius_board.proofs.run.run_job.Goals as goal

stopped : (plan : PlanState) (old new : BoardState) (answer : Result (Unit {0}) BoardFault)
    → IfErr answer (HasFailed plan old new) → IfErr answer (HasStopped plan old new)
stopped plan old new (Ok x) failed = tt
stopped plan old new (Err f) failed = inr failed

pub returns-clause-stopped : goal.returns-clause-stopped
returns-clause-stopped g c =
    stopped g.J.Job.plan g.J.Job.first c.finish.result.0 c.finish.result.1 c.finish.ensures.failed
