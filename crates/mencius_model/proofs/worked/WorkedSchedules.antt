-- Schedules worked by hand, with the traces that the definitions give for them. Each trace is computed as a whole. The
-- schedules show that the definitions agree with the protocol, and that traces with decisions exist.
use Rattle.std.proofs.Common.{◌≡◌, ℕ, List, [], ◌∷◌, ◌++◌, Option, Some, None, Result, Ok, Err, refl, ap, ◌∙◌, length, map, nat_cmp}
use Rattle.std.specs.Cmp.Lexicographic.{slice_cmp, nat_list_cmp_total}
use Rattle.std.specs.FinMap as finite
use Rattle.std.specs.FinMap.{get-empty, get-insert}
use Rattle.mencius_base.specs.declared.command.Command.{Command}
use Rattle.mencius_base.specs.declared.command.Op.TheVariants.{Set, Get}
use Rattle.mencius_base.specs.declared.event.Event.{Event}
use Rattle.mencius_base.specs.declared.event.Event.TheVariants.{Submit, Deliver, Lose, Suspect, Retry, Execute}
use Rattle.mencius_base.specs.declared.refusal.Refusal.{Refusal}
use Rattle.mencius_base.specs.Members.{Membership, new_members, numbers_below, instances, most_messages, most_events}
use Rattle.mencius_model.specs.Trace.{Trace, events, sent_messages}
use Rattle.mencius_model.specs.Server.{front, done}
use Rattle.mencius_model.specs.Next.{replay}
use Rattle.mencius_model.specs.KeyMap.{map_after}
use Rattle.mencius_model.specs.Executed.{history}
use Rattle.mencius_model.specs.Replies.{Answered, Pending, Given, reply_of, longest_at}

abbrev one : Membership
one = new_members 1

abbrev pub three : Membership
three = new_members 3

-- Client 1 binds the key `a` to the text `x`.
abbrev pub set_a : Command
set_a = record { id = record { client = 1; number = 0 }; op = Set (97 ∷ []) (120 ∷ []) }

-- The numbers of messages and of events, and the front, the number of executed instances and the history of each
-- server.
abbrev pub report : Membership → Result Trace Refusal → ℕ × ℕ × List (ℕ × ℕ × List ℕ)
report m (Err r) = (0, 0, [])
report m (Ok w) = (length (sent_messages w), events w, map (λ p. (front m w p, done w p, history w p)) (numbers_below m.count))

-- A single server is a majority.
abbrev one_server : List Event
one_server = Submit 0 set_a ∷ Deliver 0 0 ∷ Deliver 1 0 ∷ Execute 0 ∷ []

report-one_server : report one (replay one one_server) ≡ (3, 4, (1, 1, 0 ∷ []) ∷ [])
unfolding numbers_below instances most_messages most_events
report-one_server = refl

-- A command is decided without any suspicion.
abbrev pub one_command : List Event
one_command = Submit 0 set_a ∷ Deliver 0 1 ∷ Deliver 0 0 ∷ Deliver 1 0 ∷ Deliver 2 0 ∷ Execute 0 ∷ []

report-one_command : report three (replay three one_command) ≡ (4, 6, (3, 1, 0 ∷ []) ∷ (1, 0, []) ∷ (2, 0, []) ∷ [])
unfolding numbers_below instances most_messages most_events
report-one_command = refl

-- Two servers give up their instances below a suggestion.
abbrev pub skip_before_a_suggestion : List Event
skip_before_a_suggestion =
    Submit 2 set_a ∷ Deliver 0 0 ∷ Deliver 0 1 ∷ Deliver 1 2 ∷ Deliver 3 2 ∷ Deliver 2 2 ∷ Deliver 4 2
    ∷ Execute 2 ∷ Execute 2 ∷ Execute 2 ∷ []

report-skip_before_a_suggestion : report three (replay three skip_before_a_suggestion)
    ≡ (6, 10, (3, 0, []) ∷ (4, 0, []) ∷ (5, 3, 0 ∷ []) ∷ [])
unfolding numbers_below instances most_messages most_events
report-skip_before_a_suggestion = refl

-- A server is wrongly suspected. The revoker learns of its command from a promise, and must propose it.
abbrev pub wrong_suspicion_keeps_the_command : List Event
wrong_suspicion_keeps_the_command =
    Submit 0 set_a ∷ Deliver 0 2 ∷ Suspect 1 0 ∷ Deliver 2 1 ∷ Deliver 2 2 ∷ Deliver 3 1 ∷ Deliver 4 1 ∷ Deliver 5 1
    ∷ Deliver 5 2 ∷ Deliver 6 1 ∷ Deliver 7 1 ∷ Execute 1 ∷ Deliver 8 0 ∷ Execute 0 ∷ []

report-wrong_suspicion_keeps_the_command : report three (replay three wrong_suspicion_keeps_the_command)
    ≡ (9, 14, (3, 1, 0 ∷ []) ∷ (1, 1, 0 ∷ []) ∷ (2, 0, []) ∷ [])
unfolding numbers_below instances most_messages most_events
report-wrong_suspicion_keeps_the_command = refl

-- A suggestion arrives at an instance that decided no-op. No server accepts it, and the owner suggests its command
-- again.
abbrev pub late_suggestion_where_noop_is_decided : List Event
late_suggestion_where_noop_is_decided =
    Suspect 1 0 ∷ Deliver 0 1 ∷ Deliver 0 2 ∷ Deliver 1 1 ∷ Deliver 2 1 ∷ Deliver 3 1 ∷ Deliver 3 2 ∷ Deliver 4 1
    ∷ Deliver 5 1 ∷ Submit 0 set_a ∷ Deliver 7 1 ∷ Deliver 7 2 ∷ Deliver 6 0 ∷ Retry 0 ∷ []

report-late_suggestion_where_noop_is_decided : report three (replay three late_suggestion_where_noop_is_decided)
    ≡ (9, 14, (6, 0, []) ∷ (1, 0, []) ∷ (2, 0, []) ∷ [])
unfolding numbers_below instances most_messages most_events
report-late_suggestion_where_noop_is_decided = refl

-- The command that was suggested again is decided at a later instance.
abbrev pub late_suggestion_decided_further_on : List Event
late_suggestion_decided_further_on =
    late_suggestion_where_noop_is_decided
    ++ (Deliver 8 0 ∷ Deliver 8 1 ∷ Deliver 8 2 ∷ Deliver 10 0 ∷ Deliver 12 0 ∷ Deliver 9 0 ∷ Deliver 11 0
    ∷ Execute 0 ∷ Execute 0 ∷ Execute 0 ∷ Execute 0 ∷ [])

report-late_suggestion_decided_further_on : report three (replay three late_suggestion_decided_further_on)
    ≡ (15, 25, (6, 4, 0 ∷ []) ∷ (4, 0, []) ∷ (5, 0, []) ∷ [])
unfolding numbers_below instances most_messages most_events
report-late_suggestion_decided_further_on = refl

-- Two servers revoke the same instance at the same time. The greater ballot succeeds.
abbrev pub duelling_revokers : List Event
duelling_revokers =
    Suspect 1 0 ∷ Suspect 2 0 ∷ Deliver 0 1 ∷ Deliver 0 0 ∷ Deliver 2 1 ∷ Deliver 3 1 ∷ Deliver 1 0 ∷ Deliver 4 0
    ∷ Deliver 4 1 ∷ Deliver 1 1 ∷ Deliver 5 2 ∷ Deliver 7 2 ∷ Deliver 8 0 ∷ Deliver 8 1 ∷ Deliver 9 2 ∷ Deliver 10 2
    ∷ Deliver 11 1 ∷ Execute 1 ∷ Execute 2 ∷ []

report-duelling_revokers : report three (replay three duelling_revokers)
    ≡ (12, 19, (0, 0, []) ∷ (1, 1, []) ∷ (2, 1, []) ∷ [])
unfolding numbers_below instances most_messages most_events
report-duelling_revokers = refl

-- A command that was already executed survives a wrong suspicion. The revoker learns of it from a promise, and proposes
-- it.
abbrev decided_command_survives : List Event
decided_command_survives =
    Submit 0 set_a ∷ Deliver 0 0 ∷ Deliver 0 2 ∷ Deliver 1 0 ∷ Deliver 2 0 ∷ Execute 0 ∷ Suspect 1 0 ∷ Deliver 4 1
    ∷ Deliver 4 2 ∷ Deliver 5 1 ∷ Deliver 6 1 ∷ Deliver 7 1 ∷ Deliver 7 2 ∷ Deliver 8 1 ∷ Deliver 9 1 ∷ Execute 1 ∷ []

report-decided_command_survives : report three (replay three decided_command_survives)
    ≡ (11, 16, (3, 1, 0 ∷ []) ∷ (1, 1, 0 ∷ []) ∷ (2, 0, []) ∷ [])
unfolding numbers_below instances most_messages most_events
report-decided_command_survives = refl

-- A suggestion that no server heard is revoked, and its command is suggested again.
abbrev revoked_and_suggested_again : List Event
revoked_and_suggested_again =
    Submit 0 set_a ∷ Lose 0 1 ∷ Lose 0 2 ∷ Suspect 1 0 ∷ Deliver 1 1 ∷ Deliver 1 2 ∷ Deliver 2 1 ∷ Deliver 3 1
    ∷ Deliver 4 1 ∷ Deliver 4 2 ∷ Deliver 5 1 ∷ Deliver 6 1 ∷ Deliver 7 0 ∷ Retry 0 ∷ []

report-revoked_and_suggested_again : report three (replay three revoked_and_suggested_again)
    ≡ (9, 14, (6, 0, []) ∷ (1, 0, []) ∷ (2, 0, []) ∷ [])
unfolding numbers_below instances most_messages most_events
report-revoked_and_suggested_again = refl

-- A server passes over an own instance that it has already learned, and suggests at its next own instance.
abbrev submit_passes_a_learned_instance : List Event
submit_passes_a_learned_instance =
    Suspect 1 0 ∷ Deliver 0 1 ∷ Deliver 0 2 ∷ Deliver 1 1 ∷ Deliver 2 1 ∷ Deliver 3 1 ∷ Deliver 3 2 ∷ Deliver 4 1
    ∷ Deliver 5 1 ∷ Deliver 6 0 ∷ Submit 0 set_a ∷ []

report-submit_passes_a_learned_instance : report three (replay three submit_passes_a_learned_instance)
    ≡ (8, 11, (6, 0, []) ∷ (1, 0, []) ∷ (2, 0, []) ∷ [])
unfolding numbers_below instances most_messages most_events
report-submit_passes_a_learned_instance = refl

-- A server that has learned the instance responds to a Prepare with a Learn.
abbrev prepare_answered_with_learn : List Event
prepare_answered_with_learn = one_command ++ (Suspect 1 0 ∷ Deliver 4 0 ∷ Deliver 5 1 ∷ Execute 1 ∷ [])

report-prepare_answered_with_learn : report three (replay three prepare_answered_with_learn)
    ≡ (6, 10, (3, 1, 0 ∷ []) ∷ (1, 1, 0 ∷ []) ∷ (2, 0, []) ∷ [])
unfolding numbers_below instances most_messages most_events
report-prepare_answered_with_learn = refl

-- Promises at a ballot that is no longer tried do not count.
abbrev stale_promises : List Event
stale_promises =
    Suspect 1 0 ∷ Deliver 0 2 ∷ Deliver 0 1 ∷ Suspect 1 0 ∷ Deliver 1 1 ∷ Deliver 2 1 ∷ Deliver 3 1 ∷ Deliver 3 0
    ∷ Deliver 4 1 ∷ Deliver 5 1 ∷ Deliver 6 2 ∷ Deliver 6 1 ∷ Deliver 7 1 ∷ Deliver 8 1 ∷ Deliver 0 0 ∷ Execute 1 ∷ []

report-stale_promises : report three (replay three stale_promises) ≡ (10, 16, (0, 0, []) ∷ (1, 1, []) ∷ (2, 0, []) ∷ [])
unfolding numbers_below instances most_messages most_events
report-stale_promises = refl

-- ---- replies

-- The empty map holds no text at the key `a`.
pub nothing : finite.get (map_after []) (97 ∷ []) ≡ None
nothing = get-empty {X = List ℕ} (slice_cmp nat_cmp) (97 ∷ [])

-- After the first command, the map holds `x` at the key `a`.
pub text_x : finite.get (map_after (set_a ∷ [])) (97 ∷ []) ≡ Some (120 ∷ [])
text_x = get-insert nat_list_cmp_total (map_after []) (97 ∷ []) (120 ∷ []) (97 ∷ [])

-- The reply of client 1's first command.
abbrev reply_in : Result Trace Refusal → Option Answered
reply_in (Err r) = None
reply_in (Ok w) = reply_of w (record { client = 1; number = 0 })

-- In `one_command`, the home executed the command, and the key held no text before.
reply-one_command : reply_in (replay three one_command) ≡ Some (Given None)
unfolding numbers_below instances most_messages most_events
reply-one_command = ap (λ o. Some (Given o)) nothing

-- In `late_suggestion_where_noop_is_decided`, the command was suggested again, but no server has executed it.
reply-late_suggestion_where_noop_is_decided : reply_in (replay three late_suggestion_where_noop_is_decided)
    ≡ Some Pending
unfolding numbers_below instances most_messages most_events
reply-late_suggestion_where_noop_is_decided = refl

-- In `late_suggestion_decided_further_on`, the command was executed at a later instance.
reply-late_suggestion_decided_further_on : reply_in (replay three late_suggestion_decided_further_on)
    ≡ Some (Given None)
unfolding numbers_below instances most_messages most_events
reply-late_suggestion_decided_further_on = ap (λ o. Some (Given o)) nothing

-- In `duelling_revokers`, no client submitted the command.
reply-duelling_revokers : reply_in (replay three duelling_revokers) ≡ None
unfolding numbers_below instances most_messages most_events
reply-duelling_revokers = refl

-- The command reads a key that another server's command wrote. It gets its reply at its own home.
abbrev pub get_a : Command
get_a = record { id = record { client = 2; number = 0 }; op = Get (97 ∷ []) }

abbrev pub get_at_another_server : List Event
get_at_another_server =
    Submit 0 set_a ∷ Deliver 0 0 ∷ Deliver 0 1 ∷ Deliver 1 0 ∷ Deliver 2 0 ∷ Execute 0 ∷ Submit 1 get_a ∷ Deliver 4 0
    ∷ Deliver 4 1 ∷ Deliver 5 1 ∷ Deliver 6 1 ∷ Deliver 3 1 ∷ Execute 1 ∷ Execute 1 ∷ []

report-get_at_another_server : report three (replay three get_at_another_server)
    ≡ (8, 14, (3, 1, 0 ∷ []) ∷ (4, 2, 0 ∷ 1 ∷ []) ∷ (2, 0, []) ∷ [])
unfolding numbers_below instances most_messages most_events
report-get_at_another_server = refl

abbrev replies_and_longest : Result Trace Refusal → List (Option Answered) × ℕ
replies_and_longest (Err r) = ([], 0)
replies_and_longest (Ok w) = (
  reply_of w (record { client = 1; number = 0 }) ∷ reply_of w (record { client = 2; number = 0 }) ∷ [],
  longest_at three w,
)

replies-get_at_another_server : replies_and_longest (replay three get_at_another_server)
    ≡ (Some (Given None) ∷ Some (Given (Some (120 ∷ []))) ∷ [], 1)
unfolding numbers_below instances most_messages most_events
replies-get_at_another_server =
    ap (λ o. (Some (Given o) ∷ Some (Given (finite.get (map_after (set_a ∷ [])) (97 ∷ []))) ∷ [], 1)) nothing
    ∙ ap (λ o. (Some (Given None) ∷ Some (Given o) ∷ [], 1)) text_x
