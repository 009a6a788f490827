-- The laws that the texts of events and commands are read back unchanged.
use Rattle.std.specs.Prelude.{ℕ, ◌≡◌, Some, true}
use Rattle.mencius_base.specs.CommandState.{CommandState}
use Rattle.mencius_base.specs.declared.event.Event.{Event}
use Rattle.mencius_format.specs.Grammar.{command_of, is_command_within, event_of, is_event_within}
use Rattle.mencius_format.specs.Operations.{op_version}
use Rattle.mencius_format.specs.Sayable.{IsCommand, IsSayable}
use Rattle.mencius_format.specs.Texts.{command_text, event_text}
use Rattle.mencius_format.specs.TextVersions.{version_of_event}
use Rattle.mencius_format.specs.Versions.{may_stand_in}
use Rattle.mencius_format.specs.Words.{words}

-- the text of an event that satisfies IsSayable is read as that event, in each version that has its operation. The
-- event is within the limits
abbrev pub EventsReadBack : Type 0
EventsReadBack = (version : ℕ) → (e : Event) → IsSayable e → may_stand_in (version_of_event e) version ≡ true
    → (event_of version (words (event_text e)) ≡ Some e) × (is_event_within e ≡ true)

-- the text of a command that satisfies IsCommand is read as that command, in each version that has its operation. The
-- command is within the limits
abbrev pub CommandsReadBack : Type 0
CommandsReadBack = (version : ℕ) → (x : CommandState) → IsCommand x → may_stand_in (op_version x.op) version ≡ true
    → (command_of version (words (command_text x)) ≡ Some x) × (is_command_within x ≡ true)
