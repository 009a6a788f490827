-- The parts of an executor that contracts see, which are its map and the tickets of the commands that it executed.
use Rattle.std.specs.Prelude.{ℕ, List, [], ◌∷◌, ◌++◌, refl}
use Rattle.std.specs.Coded.{Coded, code_by, coded×, coded_list, coded_ℕ}
use Rattle.std.specs.FinMap as finite
use Rattle.mencius_base.specs.Numbers.{TicketNo}
use Rattle.mencius_base.specs.declared.command.Command.{Command}
use Rattle.mencius_model.specs.KeyMap.{KeyMap, apply}

-- The state of an executor. Its `history` lists the tickets of the commands that it executed, in order.
pub record ExecutorState : Type 0 where
  pub store : KeyMap
  pub history : List TicketNo

-- The encoding of an executor as the pair of its map and its history.
abbrev pub executor_code : Coded ExecutorState
executor_code =
    code_by (KeyMap × List ℕ) (coded× (finite.code (coded_list coded_ℕ) (coded_list coded_ℕ)) (coded_list coded_ℕ))
    (λ x. (x.store, x.history)) (λ pair. record { store = pair.0; history = pair.1 }) (λ _. refl)

-- The executor after it executed another command with this ticket.
abbrev pub after_execution : ExecutorState → Command → TicketNo → ExecutorState
after_execution x command t = record { store = apply x.store command.op; history = x.history ++ t ∷ [] }
