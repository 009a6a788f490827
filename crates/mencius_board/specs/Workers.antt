-- The worker that belongs to a thread, and the ends of workers.
use Rattle.std.specs.Prelude.{ℕ, zero, suc, ◌≡◌, ◌<◌, ◌⊎◌, List, [], ◌∷◌, ◌++◌, slice_index_or, length, Option, Some, None, Result, Ok}
use Rattle.std.specs.Prelude.{Err}
use Rattle.core.specs.declared.thread.PromisedHandle.{PromisedHandle}
use Rattle.mencius_board.specs.declared.fault.BoardFault.{BoardFault}
use Rattle.mencius_board.specs.declared.fault.BoardFault.TheVariants.{NoMemory, NoWorker}
use Rattle.mencius_board.specs.declared.workers.ProgressOf.{ProgressOf}
use Rattle.mencius_board.specs.Boards.{BoardState}
use Rattle.mencius_board.specs.Faults.{IsWorkerFault}
use Rattle.mencius_board.specs.Turns.{TakesTurn, is_to_show}
use Rattle.mencius_base.specs.Plan.{PlanState}
use Rattle.mencius_choices.specs.Choices.{ChooserState, HasTurned, ProgressState, chooser_at, drawing_after, first_chooser}

-- how a worker ended, which is its progress or its fault
abbrev pub EndState : Type 0
EndState = Result ProgressState BoardFault

-- if there is a thread, it has promised to return how this worker of this plan ended
abbrev pub Answers : {T : Type 0} → PlanState → ℕ → Option (PromisedHandle T ProgressOf) → Type 0
Answers plan worker None = Unit {0}
Answers plan worker (Some h) = (h.promise.plan.now ≡ plan) × (h.promise.worker ≡ worker)

-- a worker took n turns one after another, and its chooser went from `first` to `last`. Each turn ended well, on any
-- board, and showed the longest history if `is_to_show` says so
abbrev pub TakesTurns : ℕ → ℕ → ChooserState → ChooserState → Type 0
TakesTurns worker zero first last = last ≡ first
TakesTurns worker (suc n) first last =
    (chooser : ChooserState) × TakesTurns worker n first chooser
    × (before : BoardState) × (after : BoardState) × TakesTurn chooser last before after (is_to_show worker n) (Ok tt)

-- a worker took all turns of its plan and drew three words in each, or it ended with a fault that its turns can have
abbrev pub HasEnded : PlanState → ℕ → EndState → Type 0
HasEnded plan worker (Ok d) =
    (d.drawing ≡ drawing_after plan.seed worker plan.turns)
    × TakesTurns worker plan.turns (first_chooser plan worker) (chooser_at plan d)
HasEnded plan worker (Err f) = IsWorkerFault worker plan.turns f

-- this worker of a plan ended as `HasEnded` says, or its thread could not be started
abbrev pub IsWorkerEnd : PlanState → ℕ → EndState → Type 0
IsWorkerEnd plan worker end = HasEnded plan worker end ⊎ (end ≡ Err NoWorker)

-- the list `xs` has an end for each of the first n workers of the plan, by worker number
abbrev pub HaveEnded : List EndState → PlanState → ℕ → Type 0
HaveEnded xs plan n = (worker : ℕ) (d : EndState) → worker < n → IsWorkerEnd plan worker (slice_index_or xs worker d)

-- the choosers in `done` followed by the choosers of these ends, or the first fault among these ends if there is one
abbrev pub choosers_behind : PlanState → List ChooserState → List EndState → Result (List ChooserState) BoardFault
choosers_behind plan done [] = Ok done
choosers_behind plan done (Err f ∷ rest) = Err f
choosers_behind plan done (Ok d ∷ rest) = choosers_behind plan (done ++ chooser_at plan d ∷ []) rest

-- the choosers of all workers by worker number, or the fault of the first worker that has one
abbrev pub choosers_or_fault : PlanState → List EndState → Result (List ChooserState) BoardFault
choosers_or_fault plan ends = choosers_behind plan [] ends

-- for each worker of the plan, `xs` has the chooser after all turns of the worker, by worker number
abbrev pub HaveTurned : List ChooserState → PlanState → Type 0
HaveTurned xs plan =
    (worker : ℕ) (d : ChooserState) → worker < plan.workers
    → HasTurned (slice_index_or xs worker d) plan worker plan.turns
    × TakesTurns worker plan.turns (first_chooser plan worker) (slice_index_or xs worker d)

-- either memory ran out, or each worker of the plan ended and this is the fault of the first worker that has one. The
-- first case includes a lack of memory before any worker begins
abbrev pub HaveFailed : PlanState → BoardFault → Type 0
HaveFailed plan f =
    (f ≡ NoMemory)
    ⊎ ((ends : List EndState) × (length ends ≡ plan.workers) × HaveEnded ends plan plan.workers
    × (choosers_or_fault plan ends ≡ Err f))
