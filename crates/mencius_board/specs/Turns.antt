-- The effects of a worker's turn.
use Rattle.std.specs.Prelude.{◌≡◌, ◌≢◌, ◌⊎◌, [], Bool, true, false, ℕ, ◌+◌, ◌%◌, ◌==◌, ◌&&◌, Result, Ok, Err}
use Rattle.mencius_base.specs.declared.event.Event.{Event}
use Rattle.mencius_base.specs.declared.refusal.Refusal.{Refusal}
use Rattle.mencius_base.specs.declared.refusal.Refusal.TheVariants.{NoMemory}
use Rattle.mencius_cluster.specs.declared.cluster.Effect.{Effect}
use Rattle.mencius_cluster.specs.State.{IsRefusal, IsStepped}
use Rattle.mencius_board.specs.declared.fault.BoardFault.{BoardFault}
use Rattle.mencius_board.specs.declared.fault.BoardFault.TheVariants.{NoMemory as No_memory}
use Rattle.mencius_board.specs.Boards.{BoardState, longest_of}
use Rattle.mencius_board.specs.Faults.{IsShowFault, turns_a_show}
use Rattle.mencius_choices.specs.Choices.{ChooserState, IsChoice, IsPutOff}

-- the cluster accepted the event, and the rest of the board did not change
pub record IsAccepted (before after : BoardState) (e : Event) : Type 0 where
  pub effect : Effect
  pub stepped : IsStepped before.cluster after.cluster e effect
  pub rest : after ≡ record before { cluster = after.cluster }

-- the cluster refused the event with a refusal other than `NoMemory`, and the board did not change
pub record IsRefusedBy (before after : BoardState) (e : Event) : Type 0 where
  pub refusal : Refusal
  pub is : IsRefusal before.cluster e refusal
  pub memory : refusal ≢ NoMemory
  pub same : after ≡ before

-- a turn ended well. An event was chosen, and the cluster accepted it or refused it, but not with `NoMemory`
pub record IsTurn (old new : ChooserState) (before after : BoardState) : Type 0 where
  pub event : Event
  pub chosen : IsChoice old before.cluster event new
  pub stepped : IsAccepted before after event ⊎ IsRefusedBy before after event

-- memory ran out for the choice of an event, or for the step of the event that was chosen
abbrev pub HasNoMemory : ChooserState → ChooserState → BoardState → Type 0
HasNoMemory old new board =
    IsPutOff old board.cluster new
    ⊎ ((e : Event) × IsChoice old board.cluster e new × IsRefusal board.cluster e NoMemory)

-- a turn led from the chooser `old` and the board `before` to `new` and `after`, and had this result. Its only fault is
-- `NoMemory`, and a turn with this fault does not change the board
abbrev pub EndsTurn : ChooserState → ChooserState → BoardState → BoardState → Result (Unit {0}) BoardFault → Type 0
EndsTurn old new before after (Ok _) = IsTurn old new before after
EndsTurn old new before after (Err f) = (f ≡ No_memory) × (after ≡ before) × HasNoMemory old new before

-- a call of `show` led from the board `before` to `after`, and had this result. If the call failed, at most the pending
-- commands changed
abbrev pub EndsShow : BoardState → BoardState → Result (Unit {0}) BoardFault → Type 0
EndsShow before after (Ok _) = after ≡ record before { shown = longest_of before.cluster; pending = [] }
EndsShow before after (Err f) = IsShowFault f × (after ≡ record before { pending = after.pending })

-- a turn had the result `turned`. If it ended well and the worker shows after it, a call of `show` changed the board
-- from `before` to `after`, with the result `answer`. Otherwise the board and the result stayed the same
abbrev pub IsAfterTurn : Bool → BoardState → BoardState → Result (Unit {0}) BoardFault → Result (Unit {0}) BoardFault
    → Type 0
IsAfterTurn true before after (Ok _) answer = EndsShow before after answer
IsAfterTurn true before after (Err f) answer = (answer ≡ Err f) × (after ≡ before)
IsAfterTurn false before after turned answer = (answer ≡ turned) × (after ≡ before)

-- a worker took a turn, followed by a call of `show` if `shows` is true and the turn ended well
pub record TakesTurn (old new : ChooserState) (before after : BoardState) (shows : Bool)
    (answer : Result (Unit {0}) BoardFault) : Type 0 where
  pub board : BoardState
  pub turned : Result (Unit {0}) BoardFault
  pub turn : EndsTurn old new before board turned
  pub then_is : IsAfterTurn shows board after turned answer

-- whether a worker that has taken `taken` turns shows the longest history after its next turn
abbrev pub is_to_show : ℕ → ℕ → Bool
is_to_show worker taken = (worker == 0) && ((taken + 1) % turns_a_show == 0)
