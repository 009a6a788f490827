-- The instances that a command was suggested for.
use Rattle.std.specs.Prelude.{Bool, false, List, [], ◌∷◌, if◌then◌else◌}
use Rattle.std.specs.List.{enumerate_from, flat_map}
use Rattle.std.specs.Option.{option_map_or}
use Rattle.mencius_base.specs.Command.{is_same_id}
use Rattle.mencius_base.specs.Numbers.{Inst, MessageNo, TicketNo}
use Rattle.mencius_base.specs.declared.command.CommandId.{CommandId}
use Rattle.mencius_base.specs.declared.message.Message.{Message}
use Rattle.mencius_base.specs.declared.message.Message.TheVariants.{Suggest}
use Rattle.mencius_model.specs.Replies.{command_at}
use Rattle.mencius_model.specs.Trace.{Trace, sent_messages}

-- whether ticket t belongs to the command with this identity
abbrev pub is_ticket_of : Trace → CommandId → TicketNo → Bool
is_ticket_of w id t = option_map_or (λ command. is_same_id command.id id) (command_at w t) false

-- the instance that a message suggests the command for, if it does
abbrev pub suggested_in : Trace → CommandId → MessageNo × Message → List Inst
suggested_in w id (k, Suggest from inst ticket) = if is_ticket_of w id ticket then inst ∷ [] else []
suggested_in w id (k, x) = []

-- the instances that the command was suggested for, in the order of the suggestions
abbrev pub suggested_instances : Trace → CommandId → List Inst
suggested_instances w id = flat_map (suggested_in w id) (enumerate_from 0 (sent_messages w))
