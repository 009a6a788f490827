-- The effect of an execution on a server's executor and on the stored commands.
use Rattle.std.specs.Prelude.{◌≡◌, List, Some, slice_get, ◌==◌}
use Rattle.std.specs.FinMap as finite
use Rattle.mencius_base.specs.Numbers.{ServerId, TicketNo}
use Rattle.mencius_base.specs.declared.message.Value.{Value}
use Rattle.mencius_base.specs.declared.message.Value.TheVariants.{Noop, Ticket}
use Rattle.map_exec.specs.State.{ExecutorState, after_execution}
use Rattle.mencius_model.specs.KeyMap.{key_of}
use Rattle.mencius_cluster.specs.declared.submission.Submission.{Submission}
use Rattle.mencius_cluster.specs.Answers.{bytes_in}
use Rattle.indexmap.specs.IndexMap.{set_value_at}
use Rattle.mencius_cluster.specs.Submissions.{Row}
use Rattle.mencius_model.specs.Replies.{first_reply}

-- server p executed the command of ticket t, and its executor went from x to y. Only the command's row may change, and
-- only in its reply. If p is the home and the command had no reply, the reply is now the former text at its key
pub record IsExecution (p : ServerId) (t : TicketNo) (x y : ExecutorState) (old new : List Row) : Type 0 where
  pub row : Row
  pub there : slice_get old t ≡ Some row
  pub executor : y ≡ after_execution x row.1.command t
  pub submission : Submission
  pub rows : new ≡ set_value_at old t submission
  pub command : submission.command ≡ row.1.command
  pub home : submission.home ≡ row.1.home
  pub reply : bytes_in submission.reply
      ≡ first_reply (row.1.home == p) (bytes_in row.1.reply) (finite.get x.store (key_of row.1.command.op))

-- server p executed a value. For no-op nothing changed, and for a ticket the server executed its command
abbrev pub IsPerformed : ServerId → Value → ExecutorState → ExecutorState → List Row → List Row → Type 0
IsPerformed p Noop x y old new = (y ≡ x) × (new ≡ old)
IsPerformed p (Ticket t) x y old new = IsExecution p t x y old new
