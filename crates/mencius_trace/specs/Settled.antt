-- The messages that were heard or lost, according to the stored events.
use Rattle.std.specs.Prelude.{◌≡◌, ◌<◌, Bool, false, IfSome, Option, Some, None}
use Rattle.std.specs.List.{list_any}
use Rattle.std.specs.Option.{option_map_or}
use Rattle.mencius_base.specs.Limits.{most_servers}
use Rattle.mencius_base.specs.Numbers.{ServerId, MessageNo}
use Rattle.mencius_base.specs.declared.event.Entry.{Entry}
use Rattle.mencius_base.specs.declared.event.Entry.TheVariants.{Deliver, Lose}
use Rattle.mencius_cluster.specs.MessageBits.{MessageBitsState, has_bit_in}
use Rattle.mencius_model.specs.Trace.{Lost, Trace}
use Rattle.mencius_model.specs.Next.{is_loss}
use Rattle.mencius_trace.specs.LastLines.{is_settled_by}

-- the message that a stored event delivers or loses, and the server that hears or loses it
abbrev pub settled_pair : Entry → Option (MessageNo × ServerId)
settled_pair (Deliver message server) = Some (message, server)
settled_pair (Lose message server) = Some (message, server)
settled_pair _ = None

-- whether p heard or lost message k by this stored event
abbrev pub is_settled_by_entry : MessageNo → ServerId → Entry → Bool
is_settled_by_entry k p x = option_map_or (λ pair. is_loss k p (Lost pair.0 pair.1)) (settled_pair x) false

-- if a server hears or loses a message by this stored event, its number is below the greatest number of servers
abbrev pub IsOfServer : Entry → Type 0
IsOfServer x = IfSome (settled_pair x) (λ pair. pair.1 < most_servers)

-- there is a mark for a message and a server exactly if the server heard or lost the message
abbrev pub AreSettled : Trace → MessageBitsState → Type 0
AreSettled w marks = (k : MessageNo) (p : ServerId) → has_bit_in marks k p ≡ list_any (is_settled_by k p) w
