-- The history of each server, which is the list of tickets that it executed.
use Rattle.std.specs.Prelude.{◌⊎◌, List}
pub use mathlib.Core.List.{IsPrefix}
use Rattle.std.specs.List.{filter_map}
use Rattle.mencius_base.specs.Numbers.{ServerId, TicketNo}
use Rattle.mencius_base.specs.Members.{numbers_below}
use Rattle.mencius_model.specs.Trace.{Trace}
use Rattle.mencius_model.specs.Instance.{learned_value}
use Rattle.mencius_model.specs.Server.{done, ticket_of}

-- The tickets that p learned at the instances that it executed, in order and without the no-ops.
abbrev pub history : Trace → ServerId → List TicketNo
history w p = filter_map (λ i. ticket_of (learned_value w p i)) (numbers_below (done w p))

-- One of two lists is a prefix of the other.
abbrev pub IsComparable : {A : Type 0} → List A → List A → Type 0
IsComparable xs ys = IsPrefix xs ys ⊎ IsPrefix ys xs
