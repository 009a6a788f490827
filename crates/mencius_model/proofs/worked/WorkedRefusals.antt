-- Schedules with refused events, the cause of each refusal, and the trace, which is the same as without these events.
use Rattle.std.proofs.Common.{◌≡◌, ℕ, List, [], ◌∷◌, Option, Some, None, Result, Ok, Err, refl}
use Rattle.mencius_base.specs.declared.command.Command.{Command}
use Rattle.mencius_base.specs.declared.command.Op.TheVariants.{Set, Get}
use Rattle.mencius_base.specs.declared.event.Event.{Event}
use Rattle.mencius_base.specs.declared.event.Event.TheVariants.{Submit, Deliver, Lose, Suspect, Retry, Execute}
use Rattle.mencius_base.specs.declared.refusal.Refusal.{Refusal}
use Rattle.mencius_base.specs.declared.refusal.Refusal.TheVariants.{BadServer, DuplicateCommand, NoMessage, NotAddressed, LostMessage, SelfSuspect, NothingToRevoke, NothingWaiting, NothingToExecute}
use Rattle.mencius_base.specs.Members.{Membership, numbers_below, instances, most_messages, most_events}
use Rattle.mencius_model.specs.Trace.{Trace}
use Rattle.mencius_model.specs.Next.{next, refusal_cause}
use Rattle.mencius_model.proofs.worked.WorkedSchedules.{three, set_a, report}

-- The trace after an event. A refused event leaves the trace as it is.
abbrev after : Trace → Result Trace Refusal → Trace
after w (Ok v) = v
after w (Err r) = w

-- The refusals of the events in turn, or `None` for accepted events. The trace after all of them follows.
abbrev answers : Membership → Trace → List Event → List (Option Refusal)
answers m w [] = []
answers m w (e ∷ es) = refusal_cause m w e ∷ answers m (after w (next m w e)) es

abbrev outcome : Membership → Trace → List Event → Trace
outcome m w [] = w
outcome m w (e ∷ es) = outcome m (after w (next m w e)) es

abbrev nothing_to_revoke_and_self_suspicion : List Event
nothing_to_revoke_and_self_suspicion = Suspect 0 1 ∷ Suspect 1 1 ∷ []

answers-nothing_to_revoke_and_self_suspicion : answers three [] nothing_to_revoke_and_self_suspicion
    ≡ Some NothingToRevoke ∷ Some SelfSuspect ∷ []
unfolding numbers_below instances most_messages most_events
answers-nothing_to_revoke_and_self_suspicion = refl

-- Another command with the same identity as `set_a`.
abbrev get_a_again : Command
get_a_again = record { id = record { client = 1; number = 0 }; op = Get (97 ∷ []) }

abbrev refusals : List Event
refusals =
    Deliver 0 0 ∷ Submit 0 set_a ∷ Submit 1 get_a_again ∷ Lose 0 2 ∷ Deliver 0 2 ∷ Deliver 0 1 ∷ Deliver 1 2 ∷ Retry 0
    ∷ Execute 0 ∷ Deliver 0 3 ∷ Lose 0 2 ∷ []

answers-refusals : answers three [] refusals
    ≡ Some NoMessage ∷ None ∷ Some DuplicateCommand ∷ None ∷ Some LostMessage ∷ None ∷ Some NotAddressed
    ∷ Some NothingWaiting
    ∷ Some NothingToExecute ∷ Some BadServer ∷ Some LostMessage ∷ []
unfolding numbers_below instances most_messages most_events
answers-refusals = refl

-- The refused events add no line.
outcome-refusals : outcome three [] refusals ≡ outcome three [] (Submit 0 set_a ∷ Lose 0 2 ∷ Deliver 0 1 ∷ [])
unfolding numbers_below instances most_messages most_events
outcome-refusals = refl

-- One acceptance that is heard three times does not make a majority.
abbrev a_repeat_is_no_majority : List Event
a_repeat_is_no_majority = Submit 0 set_a ∷ Deliver 0 1 ∷ Deliver 1 0 ∷ Deliver 1 0 ∷ Deliver 1 0 ∷ Execute 0 ∷ []

answers-a_repeat_is_no_majority : answers three [] a_repeat_is_no_majority ≡ None ∷ None ∷ None ∷ None ∷ None
    ∷ Some NothingToExecute ∷ []
unfolding numbers_below instances most_messages most_events
answers-a_repeat_is_no_majority = refl

-- A server hears the third of three suggestions of another server. It sends one Skip that covers three of its
-- instances. Another server hears this Skip, and its execution stops at the first instance that it has not learned.
abbrev set_to : ℕ → ℕ → Command
set_to number text = record { id = record { client = 1; number = number }; op = Set (97 ∷ []) (text ∷ []) }

abbrev one_skip_over_three_instances : List Event
one_skip_over_three_instances =
    Submit 2 (set_to 0 120) ∷ Submit 2 (set_to 1 121) ∷ Submit 2 (set_to 2 122) ∷ Deliver 2 0 ∷ Deliver 0 0
    ∷ Deliver 3 1
    ∷ Execute 1 ∷ Execute 1 ∷ []

answers-one_skip_over_three_instances : answers three [] one_skip_over_three_instances
    ≡ None ∷ None ∷ None ∷ None ∷ None ∷ None ∷ None ∷ Some NothingToExecute ∷ []
unfolding numbers_below instances most_messages most_events
answers-one_skip_over_three_instances = refl

report-one_skip_over_three_instances : report three (Ok (outcome three [] one_skip_over_three_instances))
    ≡ (6, 7, (9, 0, []) ∷ (1, 1, []) ∷ (11, 0, []) ∷ [])
unfolding numbers_below instances most_messages most_events
report-one_skip_over_three_instances = refl

-- A suspicion looks ahead from an instance that is less than beta above the own front. It reaches twice beta above the
-- front.
abbrev looking_ahead : Membership
looking_ahead = record three { beta = 2 }

abbrev suspicions_of_idle_servers : List Event
suspicions_of_idle_servers = Suspect 1 0 ∷ Suspect 1 2 ∷ Suspect 0 1 ∷ Suspect 0 2 ∷ []

answers-suspicions_looking_ahead : answers looking_ahead [] suspicions_of_idle_servers
    ≡ None ∷ None ∷ None ∷ Some NothingToRevoke ∷ []
unfolding numbers_below instances most_messages most_events
answers-suspicions_looking_ahead = refl

report-suspicions_looking_ahead : report looking_ahead (Ok (outcome looking_ahead [] suspicions_of_idle_servers))
    ≡ (6, 3, (0, 0, []) ∷ (1, 0, []) ∷ (2, 0, []) ∷ [])
unfolding numbers_below instances most_messages most_events
report-suspicions_looking_ahead = refl

answers-suspicions_to_the_front : answers three [] suspicions_of_idle_servers
    ≡ None ∷ Some NothingToRevoke ∷ Some NothingToRevoke ∷ Some NothingToRevoke ∷ []
unfolding numbers_below instances most_messages most_events
answers-suspicions_to_the_front = refl
