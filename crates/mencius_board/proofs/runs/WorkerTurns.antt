-- A worker's turn keeps the plan, can only have the faults of a turn, and adds one turn to those taken before.
use Rattle.std.specs.Prelude.{IfErr}
use Rattle.std.proofs.Common.{◌≡◌, ℕ, ◌+◌, Bool, true, false, Result, Ok, Err, refl, ap, sym, subst, inl, inr, add-one}
use Rattle.mencius_board.specs.declared.fault.BoardFault.{BoardFault}
use Rattle.mencius_board.specs.Boards.{BoardState}
use Rattle.mencius_choices.specs.Choices.{ChooserState}
use Rattle.mencius_board.specs.Faults.{IsShowFault, IsTurnFault}
use Rattle.mencius_board.specs.Workers.{TakesTurns}
use Rattle.mencius_board.specs.Turns.{EndsTurn, HasNoMemory, IsAfterTurn, TakesTurn, is_to_show}

turned_fault : (old new : ChooserState) (before after : BoardState) (shows : Bool)
    (turned : Result (Unit {0}) BoardFault)
    → EndsTurn old new before after turned → IfErr turned (IsTurnFault shows)
turned_fault old new before after shows (Ok _) h = tt
turned_fault old new before after shows (Err f) h = inl h.0

shown_fault : (f : BoardFault) → IsShowFault f → IsTurnFault true f
shown_fault f (inl memory) = inl memory
shown_fault f (inr refused) = inr (refused, refl)

after_fault : (shows : Bool) (before after : BoardState) (turned answer : Result (Unit {0}) BoardFault)
    → IsAfterTurn shows before after turned answer → IfErr turned (IsTurnFault shows) → IfErr answer (IsTurnFault shows)
after_fault true before after (Ok _) (Ok _) h was = tt
after_fault true before after (Ok _) (Err f) h was = shown_fault f h.0
after_fault true before after (Err f) (Ok _) h was = tt
after_fault true before after (Err f) (Err g) h was = let same : f ≡ g = cc in subst (IsTurnFault true) same was
after_fault false before after (Ok _) (Ok _) h was = tt
after_fault false before after (Ok _) (Err g) h was = absurd (cc)
after_fault false before after (Err f) (Ok _) h was = tt
after_fault false before after (Err f) (Err g) h was = let same : f ≡ g = cc in subst (IsTurnFault false) same was

-- if a turn has a fault, it is one of the faults that a turn can have
pub turn_fault : (old new : ChooserState) (before after : BoardState) (shows : Bool)
    (answer : Result (Unit {0}) BoardFault)
    → TakesTurn old new before after shows answer → IfErr answer (IsTurnFault shows)
turn_fault old new before after shows answer h =
    after_fault shows h.board after h.turned answer h.then_is
    (turned_fault old new before h.board shows h.turned h.turn)

refused_plan : (old new : ChooserState) (board : BoardState) → HasNoMemory old new board → new.plan ≡ old.plan
refused_plan old new board (inl put_off) = ap (λ (y : ChooserState). y.plan) put_off.same
refused_plan old new board (inr chosen) = chosen.1.plan

-- a turn does not change the plan of the chooser
pub turn_plan : (old new : ChooserState) (before after : BoardState) (answer : Result (Unit {0}) BoardFault)
    → EndsTurn old new before after answer → new.plan ≡ old.plan
turn_plan old new before after (Ok _) h = h.chosen.plan
turn_plan old new before after (Err f) h = refused_plan old new before h.2

-- after n turns and another turn that ends well, a worker has taken n + 1 turns
pub one_more : (worker n : ℕ) (first chooser last : ChooserState) (before after : BoardState) (shows : Bool)
    (answer : Result (Unit {0}) BoardFault)
    → TakesTurns worker n first chooser → TakesTurn chooser last before after shows answer
    → shows ≡ is_to_show worker n → answer ≡ Ok tt → TakesTurns worker (n + 1) first last
one_more worker n first chooser last before after shows answer were turn is well =
    subst (λ m. TakesTurns worker m first last) (sym (add-one n)) (
      chooser,
      were,
      before,
      after,
      subst (λ r. TakesTurn chooser last before after (is_to_show worker n) r) well
          (subst (λ b. TakesTurn chooser last before after b answer) is turn),
    )
