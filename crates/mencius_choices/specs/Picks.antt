-- The table that gives the choice for a worker's three words.
use Rattle.std.specs.Prelude.{ℕ, ◌+◌, ◌-◌, ◌/◌, ◌%◌, ◌==◌, Bool, List, [], ◌∷◌, Option, Some, length, min, nat_lt}
use Rattle.std.specs.Prelude.{slice_get, slice_index, if◌then◌else◌}
use Rattle.mencius_base.specs.Numbers.{ServerId, MessageNo}
use Rattle.mencius_base.specs.declared.event.Event.TheVariants.{Deliver, Execute, Lose, Retry, Suspect}
use Rattle.mencius_base.specs.declared.message.Message.{Message}
use Rattle.mencius_base.specs.declared.message.Message.TheVariants.{Accepted, Promise}
use Rattle.mencius_model.specs.Trace.{sent_messages}
use Rattle.mencius_cluster.specs.State.{ClusterState, trace_of}
use Rattle.mencius_choices.specs.declared.choice.Pick.{Pick}
use Rattle.mencius_choices.specs.declared.choice.Pick.TheVariants.{NextCommand, Is}

-- the number of the message that a word names among `many` messages. An even word may name any of them, and an odd word
-- names one of the last 32. Without messages, the number is 0
abbrev pub message_named : ℕ → ℕ → MessageNo
message_named word many =
    if many == 0 then 0
    else (if word % 2 == 0 then word / 2 % many
    else many - 1 - word / 2 % min many 32)

-- the addressee of a message that goes to one server alone. Without a message, or for any other message, it is p
abbrev pub addressee_or : Option Message → ServerId → ServerId
addressee_or (Some (Accepted from to inst ballot)) p = to
addressee_or (Some (Promise from to inst ballot vote)) p = to
addressee_or _ p = p

-- the content of the first line whose bound is above the row, or x if no bound is above it
abbrev pub row_of_table : {A : Type 0} → ℕ → List (ℕ × A) → A → A
row_of_table row [] x = x
row_of_table row (line ∷ lines) x = if nat_lt row line.0 then line.1 else row_of_table row lines x

-- the table of choices, which has 64 rows. Each line covers the rows below its bound that no earlier line covers. All
-- other rows deliver the message to the server
abbrev pub pick_by : (row loss : ℕ) (left : Bool) (message : MessageNo) (server second third : ServerId) → Pick
pick_by row loss left message server second third =
    row_of_table row (
    (6, if left then NextCommand else Is (Deliver message server))
    ∷ (18, Is (Execute third))
    ∷ (21, Is (Retry third))
    ∷ (22, Is (Suspect second third))
    ∷ (22 + loss, Is (Lose message server))
    ∷ []
    ) (Is (Deliver message server))

-- the pick of three words. The first word gives the row. The second names the message and the server that suspects. The
-- third names the server for all other uses
abbrev pub pick_of : ClusterState → ℕ → Bool → List ℕ → Pick
pick_of x loss left words =
    let n = x.members.count in
    let messages = sent_messages (trace_of x) in
    let message = message_named (slice_index words 1) (length messages) in
    let server = addressee_or (slice_get messages message) (slice_index words 2 % n) in
    pick_by (slice_index words 0 % 64) loss left message server (slice_index words 1 % n) (slice_index words 2 % n)
