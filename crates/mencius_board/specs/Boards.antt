-- Boards as contracts see them, and the invariant of their type.
use Rattle.std.specs.Prelude.{ℕ, ◌≡◌, ◌≤◌, List, [], Option, Some, Ok}
use mathlib.Core.List.{IsPrefix}
use Rattle.mencius_base.specs.declared.command.Command.{Command}
use Rattle.mencius_model.specs.Next.{replay}
use Rattle.mencius_model.specs.Laws.{Grows}
use Rattle.mencius_model.specs.Replies.{longest_commands}
use Rattle.mencius_cluster.specs.State.{ClusterState, trace_of}
use Rattle.mencius_board.specs.Marks.{MarkState, Origin, VersionState, mark_of}
use Rattle.mencius_board.specs.Shown.{book_of}
use Rattle.mencius_board.specs.declared.version.Operation.{Operation}
use Rattle.mencius_board.specs.Pending.{AreHanded, IsMarked}

-- the identity of a board, its cluster, the shown list of commands, the pending commands, and the number of readers
-- that can still be made
pub record BoardState : Type 0 where
  pub book : Origin
  pub cluster : ClusterState
  pub shown : List Command
  pub pending : List Command
  pub places : ℕ

-- a board for `readers` readers, which shows the empty list and has no pending commands
abbrev pub new_board : Origin → ClusterState → ℕ → BoardState
new_board book x readers = record { book = book; cluster = x; shown = []; pending = []; places = readers }

-- the commands of the cluster's longest history, in order
unfoldable pub longest_of : ClusterState → List Command
longest_of x = longest_commands x.members (trace_of x)

-- the cluster of a board has at least one server, its journal replays, and the longest history only grows
pub record IsSteady (x : ClusterState) : Type 0 where
  pub some_server : 1 ≤ x.members.count
  pub replays : replay x.members x.journal ≡ Ok (trace_of x)
  pub grows : Grows longest_commands

-- the invariant of a board, whose cluster meets `IsSteady`. The shown list, followed by the commands of the pending
-- operations, is the first n commands of the longest history. The log has all commands that were ever meant to be
-- shown, and is also a prefix of that history. The shown value has a mark of its whole list, `opening` is the empty
-- mark, and `seen` is the mark that the writer has seen. All three marks belong to the log
pub record IsBoardInside (cluster : ClusterState) (log opening : MarkState) (seen : Option MarkState)
    (shown : VersionState)
    (pending : List Operation) (n : ℕ) : Type 0 where
  pub steady : IsSteady cluster
  pub marked : IsMarked log.book shown
  pub handed_is : AreHanded shown.list pending n (longest_of cluster)
  pub begins : IsPrefix log.log (longest_of cluster)
  pub opening_is : opening ≡ mark_of log.book []
  pub seen_is : book_of seen ≡ Some log.book
