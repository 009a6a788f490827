-- The reply of each command and the longest history, as functions of the trace.
use Rattle.std.specs.Prelude.{ℕ, suc, Bool, List, [], ◌∷◌, Option, Some, None, slice_get, ◌==◌, nat_lt, if◌then◌else◌, length, take, true, false}
use Rattle.std.specs.List.{filter_map, fold}
use Rattle.std.specs.Option.{option_and_then, option_map, option_map_or}
use Rattle.mencius_base.specs.Numbers.{ServerId, TicketNo}
use Rattle.mencius_base.specs.declared.command.Command.{Command}
use Rattle.mencius_base.specs.declared.command.CommandId.{CommandId}
use Rattle.mencius_base.specs.Members.{Membership, numbers_below}
use Rattle.mencius_model.specs.Trace.{Trace, submitted_commands}
use Rattle.mencius_base.specs.Command.{is_same_id}
use Rattle.mencius_model.specs.Executed.{history}
use Rattle.mencius_model.specs.KeyMap.{out}

-- The command of a ticket, if it was submitted.
abbrev pub command_at : Trace → TicketNo → Option Command
command_at w t = option_map (λ x. x.0) (slice_get (submitted_commands w) t)

-- The commands of these tickets, in order. Tickets that were not submitted are left out.
abbrev pub commands_of : Trace → List TicketNo → List Command
commands_of w ts = filter_map (command_at w) ts

-- The reply of a submitted command is pending or given. A given reply is the text that the command's key held, or
-- `None` if it held no text.
pub data Answered : Type 0 where
  Pending : Answered
  Given : (text : Option (List ℕ)) → Answered

-- The place of the first item that passes the test, counted from 0, if any item passes.
abbrev pub index_of_first : {A : Type 0} → (A → Bool) → List A → Option ℕ
index_of_first test [] = None
index_of_first test (x ∷ xs) = if test x then Some 0 else option_map suc (index_of_first test xs)

-- The reply of a command is pending until its home's history contains the command. Then it is the text that the
-- commands before its first place in that history leave at its key.
abbrev pub reply_at : Trace → TicketNo → Command → ServerId → Answered
reply_at w t command home =
    option_map_or (λ place. Given (out (commands_of w (take place (history w home))) command))
    (index_of_first (λ u. u == t) (history w home)) Pending

-- The reply of the first submitted command with this identity, or `None` if no such command was submitted.
abbrev pub reply_of : Trace → CommandId → Option Answered
reply_of w id =
    option_and_then (λ t. option_map (λ x. reply_at w t x.0 x.1) (slice_get (submitted_commands w) t))
    (index_of_first (λ x. is_same_id x.0.id id) (submitted_commands w))

-- The server with the longest history. If several histories are equally long, it is the lowest of their servers.
abbrev pub longest_at : Membership → Trace → ServerId
longest_at m w =
    fold (λ best p. if nat_lt (length (history w best)) (length (history w p)) then p else best) 0
    (numbers_below m.count)

-- The commands of the longest history, in order.
abbrev pub longest_commands : Membership → Trace → List Command
longest_commands m w = commands_of w (history w (longest_at m w))

-- The reply of a command after a server executed the command with the result `text`. The truth value says whether that
-- server is the command's home. The first reply that the home gave stays.
abbrev pub first_reply : Bool → Answered → Option (List ℕ) → Answered
first_reply true Pending text = Given text
first_reply true (Given old) text = Given old
first_reply false reply text = reply
