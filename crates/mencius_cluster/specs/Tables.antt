-- The tables of a cluster, and their content for a trace.
use Rattle.std.specs.Prelude.{◌≡◌, ℕ, ◌≤◌, Bool, List, Option, Some, Ok, length, map, slice_get, []}
use Rattle.std.specs.Result.{result_unwrap_or}
use Rattle.std.specs.List.{filter_map, list_any}
use Rattle.mencius_base.specs.declared.command.Command.{Command}
use Rattle.mencius_base.specs.declared.event.Entry.{Entry}
use Rattle.mencius_base.specs.declared.event.Event.{Event}
use Rattle.mencius_base.specs.Limits.{most_servers}
use Rattle.mencius_base.specs.Members.{Membership, numbers_below, most_events, most_messages}
use Rattle.mencius_base.specs.Numbers.{ServerId, TicketNo, MessageNo}
use Rattle.mencius_base.specs.Outbox.{OutboxState}
use Rattle.mencius_model.specs.Trace.{Trace, events, sent_messages, submitted_commands}
use Rattle.mencius_model.specs.Server.{done}
use Rattle.mencius_model.specs.Next.{is_loss, replay}
use Rattle.mencius_server.specs.State.{ServerState}
use Rattle.mencius_server.specs.Reached.{server_at}
use Rattle.map_exec.specs.State.{ExecutorState}
use Rattle.mencius_cluster.specs.State.{entries_of, event_by}
use Rattle.mencius_cluster.specs.Submissions.{Row}
use Rattle.mencius_cluster.specs.Answers.{executor_at, bytes_in, submitted_in}
use Rattle.mencius_model.specs.Replies.{reply_at}

-- the command of a row
abbrev pub command_in_row : Row → Command
command_in_row r = r.1.command

-- the command of a row, and its home
abbrev pub submission_of : Row → Command × ServerId
submission_of r = submitted_in r.1

-- the event of a stored entry, with the command at the place of its ticket in this list, or `None` if that place is
-- missing
abbrev pub event_of_entry : List Command → Entry → Option Event
event_of_entry commands = event_by (slice_get commands)

-- the events of the stored entries, with the commands of these rows
abbrev pub journal_of : List Row → List Entry → List Event
journal_of rows entries = filter_map (event_of_entry (map command_in_row rows)) entries

-- the tables of a cluster, as contracts see them
pub record Tables : Type 0 where
  pub servers : List ServerState
  pub executors : List ExecutorState
  pub done : List ℕ
  pub messages : OutboxState
  pub rows : List Row
  pub is_lost : MessageNo → ServerId → Bool
  pub entries : List Entry

-- the tables have the content that the model gives for this trace and these members
pub record AreTables (m : Membership) (w : Trace) (x : Tables) : Type 0 where
  pub servers : x.servers ≡ map (server_at m w) (numbers_below m.count)
  pub executors : x.executors ≡ map (executor_at w) (numbers_below m.count)
  pub done : x.done ≡ map (done w) (numbers_below m.count)
  pub messages : x.messages.messages ≡ sent_messages w
  pub limit : x.messages.limit ≡ most_messages
  pub commands : map submission_of x.rows ≡ submitted_commands w
  pub ids : map (λ row. row.0) x.rows ≡ map (λ x. x.0.id) (submitted_commands w)
  pub replies : (t : TicketNo) (row : Row) → slice_get x.rows t ≡ Some row
      → bytes_in row.1.reply ≡ reply_at w t row.1.command row.1.home
  pub lost : (k : MessageNo) (p : ServerId) → x.is_lost k p ≡ list_any (is_loss k p) w
  pub events : length x.entries ≡ events w

-- the invariant of a cluster. Its journal replays, and its tables belong to the trace that the journal makes. It has 1
-- to `most_servers` servers and at most `most_events` entries
pub record IsCluster (m : Membership) (journal : List Event) (x : Tables) : Type 0 where
  pub some : 1 ≤ m.count
  pub few : m.count ≤ most_servers
  pub room : length x.entries ≤ most_events
  pub replays : replay m journal ≡ Ok (result_unwrap_or (replay m journal) [])
  pub stored : x.entries ≡ entries_of journal
  pub tables : AreTables m (result_unwrap_or (replay m journal) []) x
