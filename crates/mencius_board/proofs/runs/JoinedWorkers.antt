-- The result of joining a worker's thread is an end of that worker.
use Rattle.std.specs.Prelude.{MatchOption}
use Rattle.std.proofs.Common.{◌≡◌, ℕ, Option, Some, None, Err, subst, inl, inr}
use Rattle.mencius_board.specs.declared.fault.BoardFault.TheVariants.{NoWorker}
use Rattle.core.specs.declared.thread.PromisedHandle.{PromisedHandle}
use Rattle.mencius_board.specs.declared.workers.ProgressOf.{ProgressOf}
use Rattle.mencius_base.specs.Plan.{PlanState}
use Rattle.mencius_board.specs.Workers.{Answers, EndState, HasEnded, IsWorkerEnd}

pub ended : {T : Type 0} (o : Option (PromisedHandle T ProgressOf)) (plan : PlanState) (worker : ℕ) (end : EndState)
    → Answers plan worker o
    → MatchOption o (end ≡ Err NoWorker) (λ h. HasEnded h.promise.plan.now h.promise.worker end)
    → IsWorkerEnd plan worker end
ended None plan worker end a e = inr e
ended (Some h) plan worker end a e =
    inl (subst (λ n. HasEnded plan n end) a.1 (subst (λ x. HasEnded x h.promise.worker end) a.0 e))
