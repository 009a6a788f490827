-- Names for parts of definitions that proofs mention often.
use Rattle.std.specs.Prelude.{ℕ, Bool, List, [], Option, Some, None, ◌++◌, ◌&&◌, if◌then◌else◌, length, map, is_none, nat_lt, not, slice_get, take, ◌∷◌, Result}
use Rattle.std.specs.List.{filter, list_any}
use Rattle.std.specs.Result.{is_ok}
use Rattle.std.specs.Option.{option_and_then, option_map, option_map_or}
use Rattle.mencius_base.specs.Numbers.{ServerId, Inst, BallotNo, TicketNo}
use Rattle.mencius_base.specs.declared.command.Command.{Command}
use Rattle.mencius_base.specs.declared.event.Event.{Event}
use Rattle.mencius_base.specs.declared.refusal.Refusal.{Refusal}
use Rattle.mencius_base.specs.declared.message.Message.{Message}
use Rattle.mencius_base.specs.declared.message.Message.TheVariants.{Skip}
use Rattle.mencius_base.specs.declared.message.Value.TheVariants.{Noop}
use Rattle.mencius_base.specs.declared.message.Vote.{Vote}
use Rattle.mencius_base.specs.Members.{Membership, instances, most_messages}
use Rattle.mencius_model.specs.Trace.{Line, Learned, Trace, sent_messages, submitted_commands}
use Rattle.mencius_model.specs.Instance.{learned_value, proposal}
use Rattle.mencius_model.specs.Rules.{is_covered_from, is_free_from, is_skipped_by, is_noop, is_open_from, suggestion}
use Rattle.mencius_model.specs.Server.{free_instance, front, is_suggested_again_by, reach}
use Rattle.mencius_model.specs.Next.{cluster_causes, on_message, server_causes}
use Rattle.mencius_model.specs.Executed.{history}
use Rattle.mencius_model.specs.KeyMap.{out}
use Rattle.mencius_model.specs.Replies.{Answered, Given, Pending, commands_of, reply_at}

-- An accepted ballot with the value that was proposed at it, if both exist.
abbrev pub vote_of : Trace → Inst → Option BallotNo → Option Vote
vote_of w i o = option_and_then (λ b. option_map (λ x. record { ballot = b; value = x }) (proposal w i b)) o

-- Whether p may suggest at i, which is an own instance of p from the front on that p has not learned.
abbrev pub is_free : Membership → Trace → ServerId → Inst → Bool
is_free m w p i = is_free_from m p (front m w p) i (learned_value w p i)

-- Whether i is an instance of q that p has not learned.
abbrev pub is_open : Membership → Trace → ServerId → ServerId → Inst → Bool
is_open m w p q i = is_open_from m q i (learned_value w p i)

-- Whether a suspicion of q by p covers i.
abbrev pub is_covered : Membership → Trace → ServerId → ServerId → Inst → Bool
is_covered m w p q i = is_covered_from m q (reach m w p q) i (learned_value w p i)

-- Whether a Skip by q covers i and p has not learned i.
abbrev pub is_newly_skipped : Membership → Trace → ServerId → ServerId → Inst → Inst → Inst → Bool
is_newly_skipped m w p q first stop i = is_skipped_by m i (Skip q first stop) && is_none (learned_value w p i)

-- The lines that are added when p hears a Skip by q.
abbrev pub on_skip : Membership → Trace → ServerId → ServerId → Inst → Inst → List Line
on_skip m w p q first stop = map (λ i. Learned p i Noop) (filter (is_newly_skipped m w p q first stop) instances)

-- The lines that are added when p hears a message, or none if the message does not exist.
abbrev pub delivery : Membership → Trace → Trace → ServerId → Option Message → List Line
delivery m w v p o = option_map_or (on_message m w v p) o []

-- The suggestion of a waiting ticket at the free instance of p, if both exist.
abbrev pub retry_lines : Membership → Trace → ServerId → Option TicketNo → List Line
retry_lines m w p o = option_map_or (suggestion p (free_instance m w p)) o []

-- The ticket that p suggested at i, if it waits.
abbrev pub waiting_of : Trace → ServerId → Inst → Option TicketNo → Option TicketNo
waiting_of w p i o =
    option_and_then
    (λ t. if is_noop (learned_value w p i) && not (list_any (is_suggested_again_by p t i) w) then Some t else None) o

-- The reply of a command at a place of its home's history, or `Pending` if no place is given.
abbrev pub reply_from : Trace → Command → ServerId → Option ℕ → Answered
reply_from w command home o =
    option_map_or (λ place. Given (out (commands_of w (take place (history w home))) command)) o Pending

-- The reply of the command with a ticket, if the ticket exists.
abbrev pub reply_of_place : Trace → Option TicketNo → Option Answered
reply_of_place w o = option_and_then (λ t. option_map (λ x. reply_at w t x.0 x.1) (slice_get (submitted_commands w) t)) o

-- All causes that may refuse an event, except EventsFull.
abbrev pub causes : Membership → Trace → Event → List (Bool × Refusal)
causes m w e = cluster_causes m w e ++ server_causes m w e (length (sent_messages w)) most_messages

-- The event as a list if it was accepted, otherwise the empty list.
abbrev pub journal_part : Event → Result Trace Refusal → List Event
journal_part e answer = if is_ok answer then e ∷ [] else []

-- The second of two servers if its history is longer, otherwise the first.
abbrev pub longest_below : Trace → ServerId → ServerId → ServerId
longest_below w best p = if nat_lt (length (history w best)) (length (history w p)) then p else best
