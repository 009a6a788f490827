-- A server's notes about its own tickets.
use Rattle.std.specs.Prelude.{Bool, List, []}
use Rattle.mencius_base.specs.Limits.{instance_count}
use Rattle.mencius_base.specs.Numbers.{Inst, TicketNo}

-- The notes of a server. No own ticket waits below `lost_from`, no own instance below `free_from` is free, and each
-- suggested ticket is less than `next_ticket`. For each instance, `suggested_again` says whether the own ticket there
-- was suggested again at a later instance.
pub record NotesState : Type 0 where
  pub lost_from : Inst
  pub free_from : Inst
  pub next_ticket : TicketNo
  pub suggested_again : List Bool

-- The notes of a server that has suggested no ticket.
abbrev pub nothing_noted : NotesState
nothing_noted = record { lost_from = instance_count; free_from = 0; next_ticket = 0; suggested_again = [] }
