-- The definitions give the expected texts for schedules that were worked by hand.
use Rattle.std.proofs.Common.{◌≡◌, ℕ, ◌+◌, List, [], ◌∷◌, ◌++◌, Result, Ok, Err, Some, None, refl, ap, ◌∙◌, nat_cmp}
use Rattle.std.specs.Prelude.{codes}
use Rattle.std.specs.Cmp.Lexicographic.{slice_cmp, nat_list_cmp_total}
use Rattle.std.specs.FinMap as finite
use Rattle.std.specs.FinMap.{get-empty, get-insert}
use Rattle.std.specs.Fmt.{digits}
use Rattle.std.specs.List.{flat_map}
use Rattle.std.specs.Result.{result_unwrap_or}
use Rattle.mencius_base.specs.declared.command.Command.{Command}
use Rattle.mencius_base.specs.declared.command.Op.TheVariants.{Set, Get}
use Rattle.mencius_base.specs.declared.event.Event.{Event}
use Rattle.mencius_base.specs.declared.refusal.Refusal.{Refusal}
use Rattle.mencius_base.specs.declared.event.Event.TheVariants.{Submit, Deliver, Lose, Suspect, Retry, Execute}
use Rattle.mencius_base.specs.Members.{Membership, new_members, numbers_below, instances, most_messages, most_events}
use Rattle.mencius_model.specs.KeyMap.{map_after}
use Rattle.mencius_model.specs.Next.{next}
use Rattle.mencius_model.specs.Trace.{Trace}
use Rattle.mencius_trace.specs.Words.{former_text}
use Rattle.mencius_trace.specs.declared.fact.Fact.TheVariants.{Refused}
use Rattle.mencius_trace.specs.declared.view.View.{View}
use Rattle.mencius_trace.specs.Choice.{concerns_event}
use Rattle.mencius_trace.specs.Effects.{effects, outcome_facts}
use Rattle.mencius_trace.specs.EventLines.{chosen_lines, event_start}
use Rattle.mencius_trace.specs.LastLines.{closing_text, events_text, servers_line, trace_text, whole}

abbrev three : Membership
three = new_members 3

abbrev one : Membership
one = new_members 1

-- ---- the text by the outcome of each event, which computes faster

abbrev lines_by : View → List ℕ → Membership → Trace → ℕ → Event → Result Trace Refusal → List ℕ
lines_by o is m w n e (Ok v) =
    chosen_lines o is m v n (concerns_event o is m w e) (event_start o n e) (effects m w v e)
lines_by o is m w n e (Err refusal) =
    chosen_lines o is m w n (concerns_event o is m w e) (event_start o n e) (Refused refusal ∷ [])

lines_are : (o : View) (is : List ℕ) (m : Membership) (w : Trace) (n : ℕ) (e : Event) (r : Result Trace Refusal)
    → chosen_lines o is m (result_unwrap_or r w) n (concerns_event o is m w e) (event_start o n e)
    (outcome_facts m w e r)
    ≡ lines_by o is m w n e r
lines_are o is m w n e (Ok v) = refl
lines_are o is m w n e (Err refusal) = refl

abbrev events_by : View → List ℕ → Membership → Trace → ℕ → List Event → List ℕ
events_by o is m w n [] = closing_text o is m w
events_by o is m w n (e ∷ es) =
    lines_by o is m w n e (next m w e) ++ events_by o is m (result_unwrap_or (next m w e) w) (n + 1) es

events_are : (o : View) (is : List ℕ) (m : Membership) (w : Trace) (n : ℕ) (es : List Event)
    → events_text o is m w n es ≡ events_by o is m w n es
events_are o is m w n [] = refl
events_are o is m w n (e ∷ es) =
    ap (λ text. text ++ events_text o is m (result_unwrap_or (next m w e) w) (n + 1) es)
    (lines_are o is m w n e (next m w e))
    ∙ ap (λ text. lines_by o is m w n e (next m w e) ++ text)
    (events_are o is m (result_unwrap_or (next m w e) w) (n + 1) es)

text_by : (m : Membership) (es : List Event)
    → trace_text m es ≡ servers_line m.count ++ events_by whole [] m [] 0 es
text_by m es = ap (λ text. servers_line m.count ++ text) (events_are whole [] m [] 0 es)

-- the text of these lines, with an end of line after each. The empty list gives the text the form that it computes to
abbrev text_of : List (List ℕ) → List ℕ
text_of ls = flat_map (λ l. (l ++ codes "\n") ++ []) ls

-- client 1 binds the key `a` to the text `x`
abbrev set_a : Command
set_a = record { id = record { client = 1; number = 0 }; op = Set (97 ∷ []) (120 ∷ []) }

-- the empty map holds nothing at the key `a`. Maps do not compute, so a lemma says this
nothing : finite.get (map_after []) (97 ∷ []) ≡ None
nothing = get-empty {X = List ℕ} (slice_cmp nat_cmp) (97 ∷ [])

-- the map holds `x` at the key `a` after the first command
text_x : finite.get (map_after (set_a ∷ [])) (97 ∷ []) ≡ Some (120 ∷ [])
text_x = get-insert nat_list_cmp_total (map_after []) (97 ∷ []) (120 ∷ []) (97 ∷ [])

-- a server is wrongly suspected. The revoker hears of its command and must propose it, and the command's home gives the
-- reply
abbrev wrong_suspicion : List Event
wrong_suspicion =
    Submit 0 set_a ∷ Deliver 0 2 ∷ Suspect 1 0 ∷ Deliver 2 1 ∷ Deliver 2 2 ∷ Deliver 3 1 ∷ Deliver 4 1 ∷ Deliver 5 1
    ∷ Deliver 5 2 ∷ Deliver 6 1 ∷ Deliver 7 1 ∷ Execute 1 ∷ Deliver 8 0 ∷ Execute 0 ∷ Deliver 99 0 ∷ []

abbrev text_wrong_suspicion : List ℕ → List ℕ
text_wrong_suspicion reply = text_of
    (codes "servers 3"
    ∷ codes "event 0 submit 0 1.0 set a x"
    ∷ codes "sent 0 Suggest from 0 to all instance 0 ballot 0 value 1.0"
    ∷ codes "front 0 3"
    ∷ codes "event 1 deliver 0 2"
    ∷ codes "sent 1 Accepted from 2 to 0 instance 0 ballot 0"
    ∷ codes "event 2 suspect 1 0"
    ∷ codes "sent 2 Prepare from 1 to all instance 0 ballot 4"
    ∷ codes "event 3 deliver 2 1"
    ∷ codes "sent 3 Promise from 1 to 1 instance 0 ballot 4 vote none"
    ∷ codes "event 4 deliver 2 2"
    ∷ codes "sent 4 Promise from 2 to 1 instance 0 ballot 4 vote 0 1.0"
    ∷ codes "event 5 deliver 3 1"
    ∷ codes "promises 1 instance 0 ballot 4 count 1 of 2"
    ∷ codes "event 6 deliver 4 1"
    ∷ codes "promises 1 instance 0 ballot 4 count 2 of 2"
    ∷ codes "sent 5 Propose from 1 to all instance 0 ballot 4 value 1.0"
    ∷ codes "event 7 deliver 5 1"
    ∷ codes "sent 6 Accepted from 1 to 1 instance 0 ballot 4"
    ∷ codes "event 8 deliver 5 2"
    ∷ codes "sent 7 Accepted from 2 to 1 instance 0 ballot 4"
    ∷ codes "event 9 deliver 6 1"
    ∷ codes "acceptances 1 instance 0 ballot 4 count 1 of 2"
    ∷ codes "event 10 deliver 7 1"
    ∷ codes "acceptances 1 instance 0 ballot 4 count 2 of 2"
    ∷ codes "learned 1 instance 0 value 1.0"
    ∷ codes "sent 8 Learn from 1 to all instance 0 value 1.0"
    ∷ codes "event 11 execute 1"
    ∷ codes "executed 1 instance 0 value 1.0"
    ∷ codes "event 12 deliver 8 0"
    ∷ codes "learned 0 instance 0 value 1.0"
    ∷ codes "event 13 execute 0"
    ∷ codes "executed 0 instance 0 value 1.0"
    ∷ (codes "reply 1.0 " ++ reply)
    ∷ codes "event 14 deliver 99 0"
    ∷ codes "refused NoMessage"
    ∷ codes "server 0 front 3 executed 1 next 1 waiting -"
    ∷ codes "server 1 front 1 executed 1 next 1 waiting -"
    ∷ codes "server 2 front 2 executed 0 next 0 waiting -"
    ∷ codes "unheard 0 Suggest to 0"
    ∷ codes "unheard 0 Suggest to 1"
    ∷ codes "unheard 1 Accepted to 0"
    ∷ codes "unheard 2 Prepare to 0"
    ∷ codes "unheard 5 Propose to 0"
    ∷ codes "unheard 8 Learn to 1"
    ∷ codes "unheard 8 Learn to 2"
    ∷ [])

text-wrong_suspicion : trace_text three wrong_suspicion ≡ text_wrong_suspicion (codes "none")
unfolding numbers_below digits instances most_messages most_events
text-wrong_suspicion = text_by three wrong_suspicion ∙ ap (λ o. text_wrong_suspicion (former_text o)) nothing

-- a suggestion comes to an instance at which no-op is decided. No server replies to it, and its ticket waits
abbrev late_suggestion : List Event
late_suggestion =
    Suspect 1 0 ∷ Deliver 0 1 ∷ Deliver 0 2 ∷ Deliver 1 1 ∷ Deliver 2 1 ∷ Deliver 3 1 ∷ Deliver 3 2 ∷ Deliver 4 1
    ∷ Deliver 5 1 ∷ Submit 0 set_a ∷ Deliver 7 1 ∷ Deliver 7 2 ∷ Deliver 6 0 ∷ []

text-late_suggestion : trace_text three late_suggestion ≡ text_of
    (codes "servers 3"
    ∷ codes "event 0 suspect 1 0"
    ∷ codes "sent 0 Prepare from 1 to all instance 0 ballot 4"
    ∷ codes "event 1 deliver 0 1"
    ∷ codes "sent 1 Promise from 1 to 1 instance 0 ballot 4 vote none"
    ∷ codes "event 2 deliver 0 2"
    ∷ codes "sent 2 Promise from 2 to 1 instance 0 ballot 4 vote none"
    ∷ codes "event 3 deliver 1 1"
    ∷ codes "promises 1 instance 0 ballot 4 count 1 of 2"
    ∷ codes "event 4 deliver 2 1"
    ∷ codes "promises 1 instance 0 ballot 4 count 2 of 2"
    ∷ codes "sent 3 Propose from 1 to all instance 0 ballot 4 value no-op"
    ∷ codes "event 5 deliver 3 1"
    ∷ codes "sent 4 Accepted from 1 to 1 instance 0 ballot 4"
    ∷ codes "event 6 deliver 3 2"
    ∷ codes "sent 5 Accepted from 2 to 1 instance 0 ballot 4"
    ∷ codes "event 7 deliver 4 1"
    ∷ codes "acceptances 1 instance 0 ballot 4 count 1 of 2"
    ∷ codes "event 8 deliver 5 1"
    ∷ codes "acceptances 1 instance 0 ballot 4 count 2 of 2"
    ∷ codes "learned 1 instance 0 value no-op"
    ∷ codes "sent 6 Learn from 1 to all instance 0 value no-op"
    ∷ codes "event 9 submit 0 1.0 set a x"
    ∷ codes "sent 7 Suggest from 0 to all instance 0 ballot 0 value 1.0"
    ∷ codes "front 0 3"
    ∷ codes "event 10 deliver 7 1"
    ∷ codes "ignored promised 4"
    ∷ codes "event 11 deliver 7 2"
    ∷ codes "ignored promised 4"
    ∷ codes "event 12 deliver 6 0"
    ∷ codes "learned 0 instance 0 value no-op"
    ∷ codes "server 0 front 3 executed 0 next 0 waiting 1.0"
    ∷ codes "server 1 front 1 executed 0 next 0 waiting -"
    ∷ codes "server 2 front 2 executed 0 next 0 waiting -"
    ∷ codes "unheard 0 Prepare to 0"
    ∷ codes "unheard 3 Propose to 0"
    ∷ codes "unheard 6 Learn to 1"
    ∷ codes "unheard 6 Learn to 2"
    ∷ codes "unheard 7 Suggest to 0"
    ∷ [])
unfolding numbers_below digits instances most_messages most_events
text-late_suggestion = refl

-- a ticket that lost its instance to no-op is suggested again at a later instance, and is decided there
abbrev suggested_again : List Event
suggested_again =
    Suspect 1 0 ∷ Deliver 0 1 ∷ Deliver 0 2 ∷ Deliver 1 1 ∷ Deliver 2 1 ∷ Deliver 3 1 ∷ Deliver 3 2 ∷ Deliver 4 1
    ∷ Deliver 5 1 ∷ Submit 0 set_a ∷ Deliver 7 1 ∷ Deliver 7 2 ∷ Deliver 6 0 ∷ Retry 0 ∷ Deliver 8 0 ∷ Deliver 8 1
    ∷ Deliver 8 2 ∷ Deliver 10 0 ∷ Deliver 12 0 ∷ Deliver 9 0 ∷ Deliver 11 0 ∷ Execute 0 ∷ Execute 0 ∷ Execute 0
    ∷ Execute 0 ∷ []

abbrev text_suggested_again : List ℕ → List ℕ
text_suggested_again reply = text_of
    (codes "servers 3"
    ∷ codes "event 0 suspect 1 0"
    ∷ codes "sent 0 Prepare from 1 to all instance 0 ballot 4"
    ∷ codes "event 1 deliver 0 1"
    ∷ codes "sent 1 Promise from 1 to 1 instance 0 ballot 4 vote none"
    ∷ codes "event 2 deliver 0 2"
    ∷ codes "sent 2 Promise from 2 to 1 instance 0 ballot 4 vote none"
    ∷ codes "event 3 deliver 1 1"
    ∷ codes "promises 1 instance 0 ballot 4 count 1 of 2"
    ∷ codes "event 4 deliver 2 1"
    ∷ codes "promises 1 instance 0 ballot 4 count 2 of 2"
    ∷ codes "sent 3 Propose from 1 to all instance 0 ballot 4 value no-op"
    ∷ codes "event 5 deliver 3 1"
    ∷ codes "sent 4 Accepted from 1 to 1 instance 0 ballot 4"
    ∷ codes "event 6 deliver 3 2"
    ∷ codes "sent 5 Accepted from 2 to 1 instance 0 ballot 4"
    ∷ codes "event 7 deliver 4 1"
    ∷ codes "acceptances 1 instance 0 ballot 4 count 1 of 2"
    ∷ codes "event 8 deliver 5 1"
    ∷ codes "acceptances 1 instance 0 ballot 4 count 2 of 2"
    ∷ codes "learned 1 instance 0 value no-op"
    ∷ codes "sent 6 Learn from 1 to all instance 0 value no-op"
    ∷ codes "event 9 submit 0 1.0 set a x"
    ∷ codes "sent 7 Suggest from 0 to all instance 0 ballot 0 value 1.0"
    ∷ codes "front 0 3"
    ∷ codes "event 10 deliver 7 1"
    ∷ codes "ignored promised 4"
    ∷ codes "event 11 deliver 7 2"
    ∷ codes "ignored promised 4"
    ∷ codes "event 12 deliver 6 0"
    ∷ codes "learned 0 instance 0 value no-op"
    ∷ codes "event 13 retry 0"
    ∷ codes "sent 8 Suggest from 0 to all instance 3 ballot 0 value 1.0"
    ∷ codes "front 0 6"
    ∷ codes "event 14 deliver 8 0"
    ∷ codes "sent 9 Accepted from 0 to 0 instance 3 ballot 0"
    ∷ codes "event 15 deliver 8 1"
    ∷ codes "sent 10 Skip from 1 to all instances 1 to 4"
    ∷ codes "sent 11 Accepted from 1 to 0 instance 3 ballot 0"
    ∷ codes "front 1 4"
    ∷ codes "event 16 deliver 8 2"
    ∷ codes "sent 12 Skip from 2 to all instances 2 to 5"
    ∷ codes "sent 13 Accepted from 2 to 0 instance 3 ballot 0"
    ∷ codes "front 2 5"
    ∷ codes "event 17 deliver 10 0"
    ∷ codes "learned 0 instance 1 value no-op"
    ∷ codes "event 18 deliver 12 0"
    ∷ codes "learned 0 instance 2 value no-op"
    ∷ codes "event 19 deliver 9 0"
    ∷ codes "acceptances 0 instance 3 ballot 0 count 1 of 2"
    ∷ codes "event 20 deliver 11 0"
    ∷ codes "acceptances 0 instance 3 ballot 0 count 2 of 2"
    ∷ codes "learned 0 instance 3 value 1.0"
    ∷ codes "sent 14 Learn from 0 to all instance 3 value 1.0"
    ∷ codes "event 21 execute 0"
    ∷ codes "executed 0 instance 0 value no-op"
    ∷ codes "event 22 execute 0"
    ∷ codes "executed 0 instance 1 value no-op"
    ∷ codes "event 23 execute 0"
    ∷ codes "executed 0 instance 2 value no-op"
    ∷ codes "event 24 execute 0"
    ∷ codes "executed 0 instance 3 value 1.0"
    ∷ (codes "reply 1.0 " ++ reply)
    ∷ codes "server 0 front 6 executed 4 next 4 waiting -"
    ∷ codes "server 1 front 4 executed 0 next 0 waiting -"
    ∷ codes "server 2 front 5 executed 0 next 0 waiting -"
    ∷ codes "unheard 0 Prepare to 0"
    ∷ codes "unheard 3 Propose to 0"
    ∷ codes "unheard 6 Learn to 1"
    ∷ codes "unheard 6 Learn to 2"
    ∷ codes "unheard 7 Suggest to 0"
    ∷ codes "unheard 10 Skip to 1"
    ∷ codes "unheard 10 Skip to 2"
    ∷ codes "unheard 12 Skip to 1"
    ∷ codes "unheard 12 Skip to 2"
    ∷ codes "unheard 13 Accepted to 0"
    ∷ codes "unheard 14 Learn to 0"
    ∷ codes "unheard 14 Learn to 1"
    ∷ codes "unheard 14 Learn to 2"
    ∷ [])

text-suggested_again : trace_text three suggested_again ≡ text_suggested_again (codes "none")
unfolding numbers_below digits instances most_messages most_events
text-suggested_again = text_by three suggested_again ∙ ap (λ o. text_suggested_again (former_text o)) nothing

-- two servers skip their instances below a suggestion, and one Skip is delivered twice
abbrev skip_before_a_suggestion : List Event
skip_before_a_suggestion =
    Submit 2 set_a ∷ Deliver 0 0 ∷ Deliver 0 1 ∷ Deliver 1 2 ∷ Deliver 3 2 ∷ Deliver 2 2 ∷ Deliver 4 2 ∷ Execute 2
    ∷ Execute 2 ∷ Execute 2 ∷ Deliver 1 2 ∷ []

abbrev text_skip_before_a_suggestion : List ℕ → List ℕ
text_skip_before_a_suggestion reply = text_of
    (codes "servers 3"
    ∷ codes "event 0 submit 2 1.0 set a x"
    ∷ codes "sent 0 Suggest from 2 to all instance 2 ballot 0 value 1.0"
    ∷ codes "front 2 5"
    ∷ codes "event 1 deliver 0 0"
    ∷ codes "sent 1 Skip from 0 to all instances 0 to 3"
    ∷ codes "sent 2 Accepted from 0 to 2 instance 2 ballot 0"
    ∷ codes "front 0 3"
    ∷ codes "event 2 deliver 0 1"
    ∷ codes "sent 3 Skip from 1 to all instances 1 to 4"
    ∷ codes "sent 4 Accepted from 1 to 2 instance 2 ballot 0"
    ∷ codes "front 1 4"
    ∷ codes "event 3 deliver 1 2"
    ∷ codes "learned 2 instance 0 value no-op"
    ∷ codes "event 4 deliver 3 2"
    ∷ codes "learned 2 instance 1 value no-op"
    ∷ codes "event 5 deliver 2 2"
    ∷ codes "acceptances 2 instance 2 ballot 0 count 1 of 2"
    ∷ codes "event 6 deliver 4 2"
    ∷ codes "acceptances 2 instance 2 ballot 0 count 2 of 2"
    ∷ codes "learned 2 instance 2 value 1.0"
    ∷ codes "sent 5 Learn from 2 to all instance 2 value 1.0"
    ∷ codes "event 7 execute 2"
    ∷ codes "executed 2 instance 0 value no-op"
    ∷ codes "event 8 execute 2"
    ∷ codes "executed 2 instance 1 value no-op"
    ∷ codes "event 9 execute 2"
    ∷ codes "executed 2 instance 2 value 1.0"
    ∷ (codes "reply 1.0 " ++ reply)
    ∷ codes "event 10 deliver 1 2"
    ∷ codes "ignored learned no-op"
    ∷ codes "server 0 front 3 executed 0 next 0 waiting -"
    ∷ codes "server 1 front 4 executed 0 next 0 waiting -"
    ∷ codes "server 2 front 5 executed 3 next 3 waiting -"
    ∷ codes "unheard 0 Suggest to 2"
    ∷ codes "unheard 1 Skip to 0"
    ∷ codes "unheard 1 Skip to 1"
    ∷ codes "unheard 3 Skip to 0"
    ∷ codes "unheard 3 Skip to 1"
    ∷ codes "unheard 5 Learn to 0"
    ∷ codes "unheard 5 Learn to 1"
    ∷ codes "unheard 5 Learn to 2"
    ∷ [])

text-skip_before_a_suggestion : trace_text three skip_before_a_suggestion ≡ text_skip_before_a_suggestion (codes "none")
unfolding numbers_below digits instances most_messages most_events
text-skip_before_a_suggestion =
    text_by three skip_before_a_suggestion ∙ ap (λ o. text_skip_before_a_suggestion (former_text o)) nothing

-- two servers revoke the same instance at the same time, and the greater ballot wins
abbrev duelling_revokers : List Event
duelling_revokers =
    Suspect 1 0 ∷ Suspect 2 0 ∷ Deliver 0 1 ∷ Deliver 0 0 ∷ Deliver 2 1 ∷ Deliver 3 1 ∷ Deliver 1 0 ∷ Deliver 4 0
    ∷ Deliver 4 1 ∷ Deliver 1 1 ∷ Deliver 5 2 ∷ Deliver 7 2 ∷ Deliver 8 0 ∷ Deliver 8 1 ∷ Deliver 9 2 ∷ Deliver 10 2
    ∷ Deliver 11 1 ∷ Execute 1 ∷ Execute 2 ∷ []

text-duelling_revokers : trace_text three duelling_revokers ≡ text_of
    (codes "servers 3"
    ∷ codes "event 0 suspect 1 0"
    ∷ codes "sent 0 Prepare from 1 to all instance 0 ballot 4"
    ∷ codes "event 1 suspect 2 0"
    ∷ codes "sent 1 Prepare from 2 to all instance 0 ballot 5"
    ∷ codes "event 2 deliver 0 1"
    ∷ codes "sent 2 Promise from 1 to 1 instance 0 ballot 4 vote none"
    ∷ codes "event 3 deliver 0 0"
    ∷ codes "sent 3 Promise from 0 to 1 instance 0 ballot 4 vote none"
    ∷ codes "event 4 deliver 2 1"
    ∷ codes "promises 1 instance 0 ballot 4 count 1 of 2"
    ∷ codes "event 5 deliver 3 1"
    ∷ codes "promises 1 instance 0 ballot 4 count 2 of 2"
    ∷ codes "sent 4 Propose from 1 to all instance 0 ballot 4 value no-op"
    ∷ codes "event 6 deliver 1 0"
    ∷ codes "sent 5 Promise from 0 to 2 instance 0 ballot 5 vote none"
    ∷ codes "event 7 deliver 4 0"
    ∷ codes "ignored promised 5"
    ∷ codes "event 8 deliver 4 1"
    ∷ codes "sent 6 Accepted from 1 to 1 instance 0 ballot 4"
    ∷ codes "event 9 deliver 1 1"
    ∷ codes "sent 7 Promise from 1 to 2 instance 0 ballot 5 vote 4 no-op"
    ∷ codes "event 10 deliver 5 2"
    ∷ codes "promises 2 instance 0 ballot 5 count 1 of 2"
    ∷ codes "event 11 deliver 7 2"
    ∷ codes "promises 2 instance 0 ballot 5 count 2 of 2"
    ∷ codes "sent 8 Propose from 2 to all instance 0 ballot 5 value no-op"
    ∷ codes "event 12 deliver 8 0"
    ∷ codes "sent 9 Accepted from 0 to 2 instance 0 ballot 5"
    ∷ codes "event 13 deliver 8 1"
    ∷ codes "sent 10 Accepted from 1 to 2 instance 0 ballot 5"
    ∷ codes "event 14 deliver 9 2"
    ∷ codes "acceptances 2 instance 0 ballot 5 count 1 of 2"
    ∷ codes "event 15 deliver 10 2"
    ∷ codes "acceptances 2 instance 0 ballot 5 count 2 of 2"
    ∷ codes "learned 2 instance 0 value no-op"
    ∷ codes "sent 11 Learn from 2 to all instance 0 value no-op"
    ∷ codes "event 16 deliver 11 1"
    ∷ codes "learned 1 instance 0 value no-op"
    ∷ codes "event 17 execute 1"
    ∷ codes "executed 1 instance 0 value no-op"
    ∷ codes "event 18 execute 2"
    ∷ codes "executed 2 instance 0 value no-op"
    ∷ codes "server 0 front 0 executed 0 next 0 waiting -"
    ∷ codes "server 1 front 1 executed 1 next 1 waiting -"
    ∷ codes "server 2 front 2 executed 1 next 1 waiting -"
    ∷ codes "unheard 0 Prepare to 2"
    ∷ codes "unheard 1 Prepare to 2"
    ∷ codes "unheard 4 Propose to 2"
    ∷ codes "unheard 6 Accepted to 1"
    ∷ codes "unheard 8 Propose to 2"
    ∷ codes "unheard 11 Learn to 0"
    ∷ codes "unheard 11 Learn to 2"
    ∷ [])
unfolding numbers_below digits instances most_messages most_events
text-duelling_revokers = refl

-- a promise comes after the proposal, a promise comes for a ballot that is no longer tried, and a message is lost
abbrev other_reasons : List Event
other_reasons =
    Suspect 1 0 ∷ Deliver 0 0 ∷ Deliver 0 1 ∷ Deliver 0 2 ∷ Deliver 1 1 ∷ Deliver 2 1 ∷ Deliver 3 1 ∷ Suspect 1 0
    ∷ Deliver 3 1 ∷ Lose 5 2 ∷ Deliver 5 2 ∷ []

text-other_reasons : trace_text three other_reasons ≡ text_of
    (codes "servers 3"
    ∷ codes "event 0 suspect 1 0"
    ∷ codes "sent 0 Prepare from 1 to all instance 0 ballot 4"
    ∷ codes "event 1 deliver 0 0"
    ∷ codes "sent 1 Promise from 0 to 1 instance 0 ballot 4 vote none"
    ∷ codes "event 2 deliver 0 1"
    ∷ codes "sent 2 Promise from 1 to 1 instance 0 ballot 4 vote none"
    ∷ codes "event 3 deliver 0 2"
    ∷ codes "sent 3 Promise from 2 to 1 instance 0 ballot 4 vote none"
    ∷ codes "event 4 deliver 1 1"
    ∷ codes "promises 1 instance 0 ballot 4 count 1 of 2"
    ∷ codes "event 5 deliver 2 1"
    ∷ codes "promises 1 instance 0 ballot 4 count 2 of 2"
    ∷ codes "sent 4 Propose from 1 to all instance 0 ballot 4 value no-op"
    ∷ codes "event 6 deliver 3 1"
    ∷ codes "ignored proposed already"
    ∷ codes "event 7 suspect 1 0"
    ∷ codes "sent 5 Prepare from 1 to all instance 0 ballot 7"
    ∷ codes "event 8 deliver 3 1"
    ∷ codes "ignored tries 7"
    ∷ codes "event 9 lose 5 2"
    ∷ codes "event 10 deliver 5 2"
    ∷ codes "refused LostMessage"
    ∷ codes "server 0 front 0 executed 0 next 0 waiting -"
    ∷ codes "server 1 front 1 executed 0 next 0 waiting -"
    ∷ codes "server 2 front 2 executed 0 next 0 waiting -"
    ∷ codes "unheard 4 Propose to 0"
    ∷ codes "unheard 4 Propose to 1"
    ∷ codes "unheard 4 Propose to 2"
    ∷ codes "unheard 5 Prepare to 0"
    ∷ codes "unheard 5 Prepare to 1"
    ∷ [])
unfolding numbers_below digits instances most_messages most_events
text-other_reasons = refl

-- client 1 reads the key `a`
abbrev get_a : Command
get_a = record { id = record { client = 1; number = 1 }; op = Get (97 ∷ []) }

-- a cluster of one server replies to a read with the text that was set before
abbrev told_back : List Event
told_back =
    Submit 0 set_a ∷ Deliver 0 0 ∷ Deliver 1 0 ∷ Execute 0 ∷ Submit 0 get_a ∷ Deliver 3 0 ∷ Deliver 4 0 ∷ Execute 0 ∷ []

abbrev text_told_back : List ℕ → List ℕ → List ℕ
text_told_back first second = text_of
    (codes "servers 1"
    ∷ codes "event 0 submit 0 1.0 set a x"
    ∷ codes "sent 0 Suggest from 0 to all instance 0 ballot 0 value 1.0"
    ∷ codes "front 0 1"
    ∷ codes "event 1 deliver 0 0"
    ∷ codes "sent 1 Accepted from 0 to 0 instance 0 ballot 0"
    ∷ codes "event 2 deliver 1 0"
    ∷ codes "acceptances 0 instance 0 ballot 0 count 1 of 1"
    ∷ codes "learned 0 instance 0 value 1.0"
    ∷ codes "sent 2 Learn from 0 to all instance 0 value 1.0"
    ∷ codes "event 3 execute 0"
    ∷ codes "executed 0 instance 0 value 1.0"
    ∷ (codes "reply 1.0 " ++ first)
    ∷ codes "event 4 submit 0 1.1 get a"
    ∷ codes "sent 3 Suggest from 0 to all instance 1 ballot 0 value 1.1"
    ∷ codes "front 0 2"
    ∷ codes "event 5 deliver 3 0"
    ∷ codes "sent 4 Accepted from 0 to 0 instance 1 ballot 0"
    ∷ codes "event 6 deliver 4 0"
    ∷ codes "acceptances 0 instance 1 ballot 0 count 1 of 1"
    ∷ codes "learned 0 instance 1 value 1.1"
    ∷ codes "sent 5 Learn from 0 to all instance 1 value 1.1"
    ∷ codes "event 7 execute 0"
    ∷ codes "executed 0 instance 1 value 1.1"
    ∷ (codes "reply 1.1 " ++ second)
    ∷ codes "server 0 front 2 executed 2 next 2 waiting -"
    ∷ codes "unheard 2 Learn to 0"
    ∷ codes "unheard 5 Learn to 0"
    ∷ [])

text-told_back : trace_text one told_back ≡ text_told_back (codes "none") (codes "=x")
unfolding numbers_below digits instances most_messages most_events
text-told_back =
    text_by one told_back
    ∙ ap (λ o. text_told_back (former_text o) (former_text (finite.get (map_after (set_a ∷ [])) (97 ∷ [])))) nothing
    ∙ ap (λ o. text_told_back (former_text None) (former_text o)) text_x
