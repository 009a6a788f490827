-- The turns that workers take on one board, and the ways that a run of a plan can end.
use Rattle.std.specs.Prelude.{ℕ, Bool, true, false, ◌≡◌, ◌⊎◌, ◌<◌, ◌+◌, ◌==◌, List, [], ◌∷◌, map, set, get_or, slice_get, Option, Some, None, Result, Ok, Err, IfErr, if◌then◌else◌, length}
use Rattle.mencius_base.specs.Members.{numbers_below, new_members}
use Rattle.mencius_choices.specs.Choices.{ChooserState, first_chooser}
use Rattle.mencius_base.specs.Plan.{PlanState, plan_of}
use Rattle.mencius_cluster.specs.State.{new_cluster}
use Rattle.mencius_board.specs.Boards.{BoardState, new_board}
use Rattle.mencius_board.specs.declared.fault.BoardFault.{BoardFault}
use Rattle.mencius_board.specs.declared.fault.BoardFault.TheVariants.{NoMemory, NoWorker}
use Rattle.mencius_board.specs.Faults.{IsRunFault}
use Rattle.mencius_board.specs.Turns.{TakesTurn, is_to_show}

-- a board, and the choosers of all workers by worker number
pub record RunState : Type 0 where
  pub board : BoardState
  pub choosers : List ChooserState

-- the board and the choosers before any turn of a plan
abbrev pub first_run : PlanState → BoardState → RunState
first_run plan board = record { board = board; choosers = map (first_chooser plan) (numbers_below plan.workers) }

-- the number of a worker, and the result of one of its turns. The result `NoWorker` means that the worker's thread
-- could not be started
abbrev pub TurnOf : Type 0
TurnOf = ℕ × Result (Unit {0}) BoardFault

-- how far a worker came. This is the number of turns that it took, or the fault that it ended with
abbrev pub Way : Type 0
Way = Result ℕ BoardFault

-- the way of a worker after another turn, which had this result
abbrev pub way_after : Result (Unit {0}) BoardFault → Way → Way
way_after (Ok _) (Ok taken) = Ok (taken + 1)
way_after (Ok _) (Err f) = Err f
way_after (Err f) way = Err f

-- the way of a worker after these turns. The list begins with the last turn
abbrev pub way_of : ℕ → List TurnOf → Way
way_of worker [] = Ok 0
way_of worker (turn ∷ order) =
    if turn.0 == worker then way_after turn.1 (way_of worker order) else way_of worker order

-- a worker that has taken `taken` turns takes its next turn, which has the result `answer`. The choosers of the other
-- workers do not change
pub record Advances (worker taken : ℕ) (answer : Result (Unit {0}) BoardFault) (old new : RunState) : Type 0 where
  pub chooser : ChooserState
  pub then_chooser : ChooserState
  pub there : slice_get old.choosers worker ≡ Some chooser
  pub turn : TakesTurn chooser then_chooser old.board new.board (is_to_show worker taken) answer
  pub rest : new.choosers ≡ set old.choosers worker then_chooser

-- either a worker takes its next turn, or its thread could not be started and nothing changes
abbrev pub Befalls : ℕ → ℕ → Result (Unit {0}) BoardFault → RunState → RunState → Type 0
Befalls worker taken answer old new =
    Advances worker taken answer old new ⊎ ((answer ≡ Err NoWorker) × (new ≡ old))

-- these turns lead from the state `first` to the state `last`. The list begins with the last turn. A worker that ended
-- with a fault takes no further turn
abbrev pub ComesTo : RunState → List TurnOf → RunState → Type 0
ComesTo first [] last = last ≡ first
ComesTo first (turn ∷ order) last =
    (before : RunState) × ComesTo first order before
    × (taken : ℕ) × (way_of turn.0 order ≡ Ok taken) × Befalls turn.0 taken turn.1 before last

-- in some order, each worker of the plan took all of its turns, and these turns led from the board `old` to `new`
pub record HasRun (plan : PlanState) (old new : BoardState) : Type 0 where
  pub order : List TurnOf
  pub each : (worker : ℕ) → worker < plan.workers → way_of worker order ≡ Ok plan.turns
  pub choosers : List ChooserState
  pub comes : ComesTo (first_run plan old) order (record { board = new; choosers = choosers })

-- in some order, workers of the plan took turns that led from the board `old` to `new`. The lowest worker that did not
-- take all of its turns ended with this fault
pub record HasFailed (plan : PlanState) (old new : BoardState) (f : BoardFault) : Type 0 where
  pub order : List TurnOf
  pub choosers : List ChooserState
  pub comes : ComesTo (first_run plan old) order (record { board = new; choosers = choosers })
  pub worker : ℕ
  pub there : worker < plan.workers
  pub fault : way_of worker order ≡ Err f
  pub least : (other : ℕ) → other < worker → way_of other order ≡ Ok plan.turns

-- either memory ran out before any turn and the board did not change, or workers have failed
abbrev pub HasStopped : PlanState → BoardState → BoardState → BoardFault → Type 0
HasStopped plan old new f = ((f ≡ NoMemory) × (new ≡ old)) ⊎ HasFailed plan old new f

-- a worker that goes on took a turn that ended well. For a worker that does not go on, either a turn ended with a
-- fault, or the board did not change. A turn also shows the longest history if `is_to_show` says so
abbrev pub GoesOn : ℕ → BoardState → BoardState → Bool → Type 0
GoesOn worker before after true =
    (old : ChooserState) × (new : ChooserState) × (taken : ℕ)
    × TakesTurn old new before after (is_to_show worker taken) (Ok tt)
GoesOn worker before after false =
    (after ≡ before)
    ⊎ ((old : ChooserState) × (new : ChooserState) × (taken : ℕ) × (f : BoardFault)
    × TakesTurn old new before after (is_to_show worker taken) (Err f))

-- how these workers ended. The end is `Ok` if each of them took `turns` turns. Otherwise it is the fault of the first
-- worker that did not, or `None` if that worker has no fault
abbrev pub first_end : ℕ → List Way → Option (Result (Unit {0}) BoardFault)
first_end turns [] = Some (Ok tt)
first_end turns (Err f ∷ ways) = Some (Err f)
first_end turns (Ok taken ∷ ways) = if taken == turns then first_end turns ways else None

-- the invariant of the value under the lock of a run. Turns of the plan led from the board `first` to `board` and these
-- choosers, and they brought each worker as far as `ways` says. Each fault in `ways` is one that a run can have
pub record IsRun (plan : PlanState) (first board : BoardState) (choosers : List ChooserState) (ways : List Way)
    (turns : ℕ) : Type 0 where
  pub limit : turns ≡ plan.turns
  pub seats : length choosers ≡ plan.workers
  pub counts : length ways ≡ plan.workers
  pub order : List TurnOf
  pub comes : ComesTo (first_run plan first) order (record { board = board; choosers = choosers })
  pub counted : (worker : ℕ) → get_or ways worker (Ok 0) ≡ way_of worker order
  pub faults : (worker : ℕ) → IfErr (get_or ways worker (Ok 0)) (IsRunFault turns)

-- ---- an empty job, for the type that represents any job

-- an empty plan, without workers
abbrev pub no_plan : PlanState
no_plan = plan_of 0 0 0 0 []

-- an empty board, whose cluster has no server
abbrev pub no_board : BoardState
no_board = new_board (record { book = record { number = 0; log_name = 0; cells_name = 0 }; root = 0 })
    (new_cluster (new_members 0) 0) 0
