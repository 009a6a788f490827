-- Schedules line by line, with the lines that each event adds to the trace after its own line.
use Rattle.std.proofs.Common.{◌≡◌, List, [], ◌∷◌, Some, None, refl}
use Rattle.mencius_base.specs.declared.event.Event.{Event}
use Rattle.mencius_base.specs.declared.message.Message.TheVariants.{Suggest, Skip, Accepted, Prepare, Promise, Propose, Learn}
use Rattle.mencius_base.specs.declared.message.Value.TheVariants.{Noop, Ticket}
use Rattle.mencius_base.specs.Members.{Membership, numbers_below, instances, most_messages, most_events}
use Rattle.mencius_model.specs.Trace.{Line, Sent, Learned, Trace, followed_by}
use Rattle.mencius_model.specs.Next.{head, lines}
use Rattle.mencius_model.proofs.worked.WorkedSchedules.{three, skip_before_a_suggestion, wrong_suspicion_keeps_the_command, late_suggestion_decided_further_on, duelling_revokers}

-- The lines that each event adds, if none of the events is refused.
abbrev lines_of_events : Membership → Trace → List Event → List (List Line)
lines_of_events m w [] = []
lines_of_events m w (e ∷ es) = lines m w e ∷ lines_of_events m (followed_by (head e ∷ w) (lines m w e)) es

lines_of_events-skip_before_a_suggestion : lines_of_events three [] skip_before_a_suggestion
    ≡ (Sent (Suggest 2 2 0) ∷ [])
    ∷ (Sent (Skip 0 0 3) ∷ Sent (Accepted 0 2 2 0) ∷ [])
    ∷ (Sent (Skip 1 1 4) ∷ Sent (Accepted 1 2 2 0) ∷ [])
    ∷ (Learned 2 0 Noop ∷ [])
    ∷ (Learned 2 1 Noop ∷ [])
    ∷ []
    ∷ (Learned 2 2 (Ticket 0) ∷ Sent (Learn 2 2 (Ticket 0)) ∷ [])
    ∷ [] ∷ [] ∷ [] ∷ []
unfolding numbers_below instances most_messages most_events
lines_of_events-skip_before_a_suggestion = refl

lines_of_events-wrong_suspicion_keeps_the_command : lines_of_events three [] wrong_suspicion_keeps_the_command
    ≡ (Sent (Suggest 0 0 0) ∷ [])
    ∷ (Sent (Accepted 2 0 0 0) ∷ [])
    ∷ (Sent (Prepare 1 0 4) ∷ [])
    ∷ (Sent (Promise 1 1 0 4 None) ∷ [])
    ∷ (Sent (Promise 2 1 0 4 (Some (record { ballot = 0; value = Ticket 0 }))) ∷ [])
    ∷ []
    ∷ (Sent (Propose 1 0 4 (Ticket 0)) ∷ [])
    ∷ (Sent (Accepted 1 1 0 4) ∷ [])
    ∷ (Sent (Accepted 2 1 0 4) ∷ [])
    ∷ []
    ∷ (Learned 1 0 (Ticket 0) ∷ Sent (Learn 1 0 (Ticket 0)) ∷ [])
    ∷ []
    ∷ (Learned 0 0 (Ticket 0) ∷ [])
    ∷ [] ∷ []
unfolding numbers_below instances most_messages most_events
lines_of_events-wrong_suspicion_keeps_the_command = refl

lines_of_events-late_suggestion_decided_further_on : lines_of_events three [] late_suggestion_decided_further_on
    ≡ (Sent (Prepare 1 0 4) ∷ [])
    ∷ (Sent (Promise 1 1 0 4 None) ∷ [])
    ∷ (Sent (Promise 2 1 0 4 None) ∷ [])
    ∷ []
    ∷ (Sent (Propose 1 0 4 Noop) ∷ [])
    ∷ (Sent (Accepted 1 1 0 4) ∷ [])
    ∷ (Sent (Accepted 2 1 0 4) ∷ [])
    ∷ []
    ∷ (Learned 1 0 Noop ∷ Sent (Learn 1 0 Noop) ∷ [])
    ∷ (Sent (Suggest 0 0 0) ∷ [])
    ∷ []
    ∷ []
    ∷ (Learned 0 0 Noop ∷ [])
    ∷ (Sent (Suggest 0 3 0) ∷ [])
    ∷ (Sent (Accepted 0 0 3 0) ∷ [])
    ∷ (Sent (Skip 1 1 4) ∷ Sent (Accepted 1 0 3 0) ∷ [])
    ∷ (Sent (Skip 2 2 5) ∷ Sent (Accepted 2 0 3 0) ∷ [])
    ∷ (Learned 0 1 Noop ∷ [])
    ∷ (Learned 0 2 Noop ∷ [])
    ∷ []
    ∷ (Learned 0 3 (Ticket 0) ∷ Sent (Learn 0 3 (Ticket 0)) ∷ [])
    ∷ [] ∷ [] ∷ [] ∷ [] ∷ []
unfolding numbers_below instances most_messages most_events
lines_of_events-late_suggestion_decided_further_on = refl

lines_of_events-duelling_revokers : lines_of_events three [] duelling_revokers
    ≡ (Sent (Prepare 1 0 4) ∷ [])
    ∷ (Sent (Prepare 2 0 5) ∷ [])
    ∷ (Sent (Promise 1 1 0 4 None) ∷ [])
    ∷ (Sent (Promise 0 1 0 4 None) ∷ [])
    ∷ []
    ∷ (Sent (Propose 1 0 4 Noop) ∷ [])
    ∷ (Sent (Promise 0 2 0 5 None) ∷ [])
    ∷ []
    ∷ (Sent (Accepted 1 1 0 4) ∷ [])
    ∷ (Sent (Promise 1 2 0 5 (Some (record { ballot = 4; value = Noop }))) ∷ [])
    ∷ []
    ∷ (Sent (Propose 2 0 5 Noop) ∷ [])
    ∷ (Sent (Accepted 0 2 0 5) ∷ [])
    ∷ (Sent (Accepted 1 2 0 5) ∷ [])
    ∷ []
    ∷ (Learned 2 0 Noop ∷ Sent (Learn 2 0 Noop) ∷ [])
    ∷ (Learned 1 0 Noop ∷ [])
    ∷ [] ∷ [] ∷ []
unfolding numbers_below instances most_messages most_events
lines_of_events-duelling_revokers = refl
