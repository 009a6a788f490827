-- The facts in the lines of a trace that a picture shows.
use Rattle.std.specs.Prelude.{ℕ, ◌||◌, List, Bool, codes, Option, Some, None, if◌then◌else◌}
use Rattle.std.specs.Str.{bytes_eq}
use Rattle.mencius_draw.specs.Words.{number, word}
use Rattle.mencius_draw.specs.declared.facts.Kind.{Kind}
use Rattle.mencius_draw.specs.declared.facts.Kind.TheVariants.{Suggest, Skip, Accepted, Prepare, Promise, Propose, Learn}
use Rattle.mencius_draw.specs.declared.facts.Act.{Act}
use Rattle.mencius_draw.specs.declared.facts.Act.TheVariants.{Submit, Deliver, Lose, Suspect, Retry, Execute}
use Rattle.mencius_draw.specs.declared.facts.Note.{Note}
use Rattle.mencius_draw.specs.declared.facts.Note.TheVariants.{Refused, Ignored, Count, Reply, Learned, Executed}
use Rattle.mencius_draw.specs.declared.facts.Fact.{Fact}
use Rattle.mencius_draw.specs.declared.facts.Fact.TheVariants.{Event, Sent, Outcome, Closing, Unheard, Other}

unfoldable pub kind_of : List ℕ → Option Kind
kind_of name =
    if bytes_eq name (codes "Suggest") then Some Suggest
    else (if bytes_eq name (codes "Skip") then Some Skip
    else (if bytes_eq name (codes "Accepted") then Some Accepted
    else (if bytes_eq name (codes "Prepare") then Some Prepare
    else (if bytes_eq name (codes "Promise") then Some Promise
    else (if bytes_eq name (codes "Propose") then Some Propose
    else (if bytes_eq name (codes "Learn") then Some Learn
    else None))))))

-- the act that a name and the two numbers after it mean, and the server of the act. None for an unknown name
unfoldable pub act_by : List ℕ → ℕ → ℕ → Option (Act × ℕ)
act_by name first second =
    if bytes_eq name (codes "submit") then Some (Submit, first)
    else (if bytes_eq name (codes "deliver") then Some (Deliver first, second)
    else (if bytes_eq name (codes "lose") then Some (Lose first, second)
    else (if bytes_eq name (codes "suspect") then Some (Suspect second, first)
    else (if bytes_eq name (codes "retry") then Some (Retry, first)
    else (if bytes_eq name (codes "execute") then Some (Execute, first)
    else None)))))

abbrev pub act_of : List ℕ → Option (Act × ℕ)
act_of line = act_by (word 2 line) (number (word 3 line)) (number (word 4 line))

abbrev pub event_at : ℕ → Bool → Option (Act × ℕ) → Fact
event_at place is_refused None = Other
event_at place is_refused (Some (act, server)) = Event place act server is_refused

-- the event in a line. After a refused event, a trace has the refusal and no other outcome. So the next line shows
-- whether the event was refused
abbrev pub event_of : List ℕ → List ℕ → Fact
event_of line next = event_at (number (word 1 line)) (bytes_eq (word 0 next) (codes "refused")) (act_of line)

abbrev pub sent_fact : ℕ → ℕ → ℕ → Option Kind → Fact
sent_fact number from inst None = Other
sent_fact number from inst (Some kind) = Sent number kind from inst

-- the message in a line, with its number, kind, sender and instance. The instance of a Skip is its first one
abbrev pub sent_of : List ℕ → Fact
sent_of line =
    sent_fact (number (word 1 line)) (number (word 4 line)) (number (word 8 line)) (kind_of (word 2 line))

unfoldable pub note_of : List ℕ → ℕ → Option Note
note_of name inst =
    if bytes_eq name (codes "refused") then Some Refused
    else (if bytes_eq name (codes "ignored") then Some Ignored
    else (if bytes_eq name (codes "promises") || bytes_eq name (codes "acceptances") then Some Count
    else (if bytes_eq name (codes "reply") then Some Reply
    else (if bytes_eq name (codes "learned") then Some (Learned inst)
    else (if bytes_eq name (codes "executed") then Some (Executed inst)
    else None)))))

abbrev pub outcome_fact : Option Note → Fact
outcome_fact None = Other
outcome_fact (Some note) = Outcome note

abbrev pub outcome_of : List ℕ → Fact
outcome_of line = outcome_fact (note_of (word 0 line) (number (word 3 line)))

-- the fact in a line, given the line after it
unfoldable pub fact_of : List ℕ → List ℕ → Fact
fact_of line next =
    if bytes_eq (word 0 line) (codes "event") then event_of line next
    else (if bytes_eq (word 0 line) (codes "sent") then sent_of line
    else (if bytes_eq (word 0 line) (codes "server") then Closing (number (word 1 line))
    else (if bytes_eq (word 0 line) (codes "unheard") then Unheard (number (word 1 line)) (number (word 4 line))
    else outcome_of line)))
