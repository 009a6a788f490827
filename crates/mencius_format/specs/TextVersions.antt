-- The lowest version that an event or a text needs. Only the word of its operation decides it.
use Rattle.std.specs.Prelude.{ℕ, List, [], ◌∷◌, codes, if◌then◌else◌}
use Rattle.std.specs.Str.{bytes_eq}
use Rattle.mencius_base.specs.declared.event.Event.{Event}
use Rattle.mencius_base.specs.declared.event.Event.TheVariants.{Submit, Deliver, Lose, Suspect, Retry, Execute}
use Rattle.mencius_format.specs.Operations.{op_version, words_version}
use Rattle.mencius_format.specs.Versions.{first_version}

-- ---- events

-- the lowest version that an event needs. For a submission it is the version of its operation, and otherwise the first
-- version
abbrev pub version_of_event : Event → ℕ
version_of_event (Submit server command) = op_version command.op
version_of_event (Deliver message server) = first_version
version_of_event (Lose message server) = first_version
version_of_event (Suspect server suspected) = first_version
version_of_event (Retry server) = first_version
version_of_event (Execute server) = first_version

-- ---- words that may have any fault. Only the word at the place of the operation decides

-- the lowest version that the words of a command need. The word after the identity decides it
abbrev pub command_version : List (List ℕ) → ℕ
command_version [] = first_version
command_version (id ∷ ws) = words_version ws

-- the lowest version that the words after `submit` need. The word after the server and the identity decides it
abbrev pub submit_version : List (List ℕ) → ℕ
submit_version [] = first_version
submit_version (server ∷ ws) = command_version ws

-- the lowest version that the words of an event need. For a submission the word of its operation decides it, and any
-- other event needs only the first version
abbrev pub event_version : List (List ℕ) → ℕ
event_version [] = first_version
event_version (word ∷ ws) = if bytes_eq word (codes "submit") then submit_version ws else first_version
