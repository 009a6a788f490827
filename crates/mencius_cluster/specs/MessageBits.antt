-- Marks at messages and servers, stored as a table of bits.
use Rattle.std.specs.Prelude.{ℕ, Bool, List, ◌==◌}
use Rattle.std.specs.List.{slice_index_or}
use Rattle.std.specs.Int.{bit_at}
use Rattle.mencius_base.specs.Numbers.{ServerId, MessageNo}

-- a mask of servers for each message number, and the number of messages that can have marks without an allocation
pub record MessageBitsState : Type 0 where
  pub masks : List ℕ
  pub room : ℕ

-- whether there is a mark at message k and server p. A message past the last mask has no mark
abbrev pub has_bit_in : MessageBitsState → MessageNo → ServerId → Bool
has_bit_in x k p = bit_at (slice_index_or x.masks k 0) p == 1
