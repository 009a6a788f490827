-- Messages that are about to be sent.
use Rattle.std.specs.Prelude.{◌≡◌, ℕ, ◌+◌, ◌++◌, Bool, List, length, nat_lt, Option, Some, None, if◌then◌else◌}
use Rattle.mencius_base.specs.declared.refusal.Refusal.{Refusal}
use Rattle.mencius_base.specs.declared.refusal.Refusal.TheVariants.{MessagesFull}
use Rattle.mencius_base.specs.declared.message.Message.{Message}

-- the messages of an outbox, the greatest number of messages that it may hold, and the number of further messages that
-- fit without an allocation
pub record OutboxState : Type 0 where
  pub messages : List Message
  pub limit : ℕ
  pub room : ℕ

-- the messages `sent` were added at the end, the room shrank by `count`, and the limit stayed the same
pub record IsPushed (sent : List Message) (count : ℕ) (before after : OutboxState) : Type 0 where
  pub messages : after.messages ≡ before.messages ++ sent
  pub room : after.room + count ≡ before.room
  pub limit : after.limit ≡ before.limit

-- whether `count` messages and `extra` more exceed the limit
abbrev pub is_too_many : ℕ → ℕ → ℕ → Bool
is_too_many limit count extra = nat_lt limit (count + extra)

-- `MessagesFull` if `extra` more messages would exceed the limit of the outbox, and otherwise none
abbrev pub outbox_full : OutboxState → ℕ → Option Refusal
outbox_full o extra = if is_too_many o.limit (length o.messages) extra then Some MessagesFull else None
