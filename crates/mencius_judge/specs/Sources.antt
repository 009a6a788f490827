-- The numbers of the lines that a judge keeps, for its quotes.
use Rattle.std.specs.Prelude.{◌≡◌, ℕ, ◌+◌, ◌<◌, List, Option, Some, None, length, slice_get}
use Rattle.std.specs.BTreeMap.{BTreeMap, get}
use Rattle.std.specs.Ordering.{nat_cmp}
use Rattle.mencius_base.specs.Numbers.{ServerId}
use Rattle.mencius_base.specs.declared.command.CommandId.{CommandId}
use Rattle.mencius_judge.specs.declared.histories.Lead.{Lead}
use Rattle.mencius_judge.specs.declared.histories.Row.{Row}
use Rattle.mencius_judge.specs.declared.histories.Snapshot.{Snapshot}
use Rattle.mencius_judge.specs.declared.judge.FirstReply.{FirstReply}
use Rattle.mencius_judge.specs.declared.judge.Submission.{Submission}
use Rattle.mencius_log.specs.declared.observation.Observation.TheVariants.{Submit, Execute, Reply, Restore}
use Rattle.mencius_judge.specs.declared.places.Places.{Places}
use Rattle.mencius_judge.specs.declared.quote.Quote.{Quote}
use Rattle.mencius_judge.specs.Rows.{server_place}
use Rattle.mencius_judge.specs.Quotes.{IsFirstGift, IsFirstLine, IsGift, NumberedLog, Replies as IsReplyTo, Submits}
use Rattle.mencius_judge.specs.Tables.{Replies, identity_key, number_count}

-- the line that submits this command
abbrev pub submission_line : Submission → Quote
submission_line s = record { number = s.line; observation = Submit s.command }

-- the line with this reply to a command
abbrev pub reply_line : CommandId → FirstReply → Quote
reply_line id r = record { number = r.line; observation = Reply id r.answer }

-- the line of this first execution of a command
abbrev pub lead_line : CommandId → Lead → Quote
lead_line id lead = record { number = lead.line; observation = Execute lead.server id }

-- the line with which the server took over this snapshot
abbrev pub snapshot_line : ServerId → Snapshot → Quote
snapshot_line p s = record { number = s.line; observation = Restore p s.source s.count }

-- the number of commands of a snapshot, which is 0 without one
abbrev pub snapshot_count : Option Snapshot → ℕ
snapshot_count None = 0
snapshot_count (Some snapshot) = snapshot.count

-- the row has the numbers of the lines that gave the server its commands. The order is the longest history
pub record HasGifts (lines : NumberedLog) (order : List CommandId) (p : ServerId) (row : Row) : Type 0 where
  pub count : row.count ≡ snapshot_count row.snapshot + length row.lines.items
  pub taken : (s : Snapshot) (n : ℕ) → row.snapshot ≡ Some s → n < s.count → IsGift lines p n (snapshot_line p s)
  pub executed : (n number : ℕ) (id : CommandId) → slice_get row.lines.items n ≡ Some number
      → slice_get order (snapshot_count row.snapshot + n) ≡ Some id
      → IsGift lines p (snapshot_count row.snapshot + n) (record { number = number; observation = Execute p id })

-- the numbers of lines that are kept are those of the log
pub record AreSources (lines : NumberedLog) (order : List CommandId) (leads : List Lead) (places : Places)
    (rows : List Row) (submissions : BTreeMap ℕ Submission) (replies : Replies) : Type 0 where
  pub submitted : (id : CommandId) (s : Submission) → id.number < number_count
      → get nat_cmp submissions (identity_key id) ≡ Some s → IsFirstLine (Submits id) lines (submission_line s)
  pub replied : (id : CommandId) (r : FirstReply) → id.number < number_count
      → get nat_cmp replies (identity_key id) ≡ Some r → IsFirstLine (IsReplyTo id) lines (reply_line id r)
  pub all : length leads ≡ length order
  pub led : (n : ℕ) (id : CommandId) (lead : Lead) → slice_get order n ≡ Some id → slice_get leads n ≡ Some lead
      → IsFirstGift lines n (lead_line id lead)
  pub given : (p : ServerId) (n : ℕ) (row : Row) → server_place places p ≡ Some n → slice_get rows n ≡ Some row
      → HasGifts lines order p row
