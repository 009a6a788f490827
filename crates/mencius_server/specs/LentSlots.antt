-- The effect on the stored slots if one of them is lent.
use Rattle.std.specs.Prelude.{List, Option, Some, slice_set}
use Rattle.mencius_base.specs.Numbers.{Inst}
use Rattle.std.specs.Borrow.{Fml, Lends, MutBor}
use Rattle.coord_paxos.specs.SlotState.{SlotState}
use Rattle.coord_paxos.specs.contracts.Slot.{the_row as slot_row}
use Rattle.mencius_server.specs.contracts.slots.Slots.{the_row}

-- Lending the slot at instance i replaces it by the slot that the borrower leaves, and changes no other slot.
abbrev pub LendsSlot : MutBor (List (Option SlotState)) → Inst → MutBor SlotState → Fml
LendsSlot ss i lent = Lends the_row slot_row ss lent (λ s. slice_set ss.now i (Some s))
