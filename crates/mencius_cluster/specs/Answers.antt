-- Values that a cluster stores or returns, in the form that the model gives them.
use Rattle.std.specs.Prelude.{Option, Some, None, nat_lt, if◌then◌else◌, string_bytes}
use Rattle.std.specs.Option.{option_map}
use Rattle.mencius_base.specs.declared.command.Command.{Command}
use Rattle.mencius_base.specs.Members.{Membership}
use Rattle.mencius_base.specs.Numbers.{ServerId}
use Rattle.mencius_model.specs.Replies.{Answered, Pending, Given, commands_of}
use Rattle.mencius_cluster.specs.declared.submission.Answered.{Answered as StoredAnswered}
use Rattle.mencius_cluster.specs.declared.submission.Answered.TheVariants.{Pending as Pending_stored, Given as Given_stored}
use Rattle.mencius_cluster.specs.declared.submission.Submission.{Submission}
use Rattle.mencius_model.specs.Trace.{Trace}
use Rattle.mencius_model.specs.Executed.{history}
use Rattle.mencius_model.specs.KeyMap.{map_after}
use Rattle.map_exec.specs.State.{ExecutorState}

-- a stored reply, with its text as bytes
abbrev pub bytes_in : StoredAnswered → Answered
bytes_in Pending_stored = Pending
bytes_in (Given_stored text) = Given (option_map string_bytes text)

-- a stored command, and the server that it was submitted to
abbrev pub submitted_in : Submission → Command × ServerId
submitted_in s = (s.command, s.home)

-- an optional value about server p, or `None` if p is not a member
abbrev pub of_member : {A : Type 0} → Membership → ServerId → Option A → Option A
of_member m p o = if nat_lt p m.count then o else None

-- a value about server p, or `None` if p is not a member
abbrev pub if_member : {A : Type 0} → Membership → ServerId → A → Option A
if_member m p x = of_member m p (Some x)

-- the executor of server p in a trace, which has the server's map and its history
abbrev pub executor_at : Trace → ServerId → ExecutorState
executor_at w p = record { store = map_after (commands_of w (history w p)); history = history w p }
