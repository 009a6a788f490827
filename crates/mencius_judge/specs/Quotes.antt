-- The lines of a log that a violation quotes.
use Rattle.std.specs.Prelude.{◌≡◌, ◌≢◌, ◌≤◌, ◌<◌, ◌+◌, ◌⊎◌, ⊤, ℕ, List, [], ◌∷◌, ◌++◌, Option, Some, Contains, length, map, slice_get}
use Rattle.mencius_base.specs.Numbers.{ServerId}
use Rattle.mencius_base.specs.declared.command.Command.{Command}
use Rattle.mencius_base.specs.declared.command.CommandId.{CommandId}
use Rattle.mencius_model.specs.KeyMap.{key_of}
use Rattle.mencius_log.specs.declared.observation.Answer.{Answer}
use Rattle.mencius_log.specs.declared.observation.Observation.{Observation}
use Rattle.mencius_log.specs.declared.observation.Observation.TheVariants.{Submit, Reply}
use Rattle.mencius_judge.specs.declared.quote.Quote.{Quote}
use Rattle.mencius_judge.specs.declared.violation.Violation.{Violation}
use Rattle.mencius_judge.specs.declared.violation.Violation.TheVariants as violation
use Rattle.mencius_judge.specs.Log.{Log, command_of, commands_of, history}
use Rattle.mencius_judge.specs.Timelines.{held_by}

-- ---- numbered logs

-- the lines of a log that have an observation, each with its number, and the newest first
abbrev pub NumberedLog : Type 0
NumberedLog = List Quote

-- the observations of these lines
abbrev pub log_of : NumberedLog → Log
log_of lines = map (λ (line : Quote). line.observation) lines

-- each line has a smaller number than all lines after it
abbrev pub AreNumbered : NumberedLog → Type 0
AreNumbered [] = ⊤
AreNumbered (line ∷ earlier) =
    ((other : Quote) → Contains earlier other → other.number < line.number) × AreNumbered earlier

-- ---- the lines that a violation is about

-- this is the first of the lines that passes the test
pub record IsFirstLine (is_it : Observation → Type 0) (lines : NumberedLog) (line : Quote) : Type 0 where
  pub later : NumberedLog
  pub earlier : NumberedLog
  pub are : lines ≡ later ++ line ∷ earlier
  pub passes : is_it line.observation
  pub first : (other : Quote) → Contains earlier other → is_it other.observation → ⊥

-- the observation submits a command with this identity
abbrev pub Submits : CommandId → Observation → Type 0
Submits id o = (c : Command) × (o ≡ Submit c) × (c.id ≡ id)

-- the observation is a reply to the command with this identity
abbrev pub Replies : CommandId → Observation → Type 0
Replies id o = (x : Answer) × (o ≡ Reply id x)

-- with this line, the server first has a command at this place. The line is an execution or a snapshot
pub record IsGift (lines : NumberedLog) (server : ServerId) (place : ℕ) (line : Quote) : Type 0 where
  pub later : NumberedLog
  pub earlier : NumberedLog
  pub are : lines ≡ later ++ line ∷ earlier
  pub before : length (history (log_of earlier) server) ≤ place
  pub after : place < length (history (log_of (line ∷ earlier)) server)

-- with this line, some server is the first one that has a command at this place
pub record IsFirstGift (lines : NumberedLog) (place : ℕ) (line : Quote) : Type 0 where
  pub later : NumberedLog
  pub earlier : NumberedLog
  pub are : lines ≡ later ++ line ∷ earlier
  pub before : (p : ServerId) → length (history (log_of earlier) p) ≤ place
  pub server : ServerId
  pub after : place < length (history (log_of (line ∷ earlier)) server)

-- the place of the last of the first n commands that changed the text of a key is `place`
pub record IsLastChange (held : ℕ → Option (List ℕ)) (n place : ℕ) : Type 0 where
  pub within : place < n
  pub changes : held place ≢ held (place + 1)
  pub last : (m : ℕ) → place < m → m ≤ n → held m ≡ held (place + 1)

-- the line submits the last of the first n of these commands that changed the key
abbrev pub IsChange : NumberedLog → List CommandId → List ℕ → ℕ → Quote → Type 0
IsChange lines ids key n line =
    (place : ℕ) × IsLastChange (held_by (commands_of (log_of lines) ids) key) n place
    × (id : CommandId) × (slice_get ids place ≡ Some id) × IsFirstLine (Submits id) lines line

-- ---- the quotes

-- the line is a reason for the violation, which the first of the lines shows
abbrev pub IsReason : NumberedLog → Violation → Quote → Type 0
-- the first submission of the command
IsReason lines (violation.OneCommand id) line = IsFirstLine (Submits id) lines line
-- there is no reason besides the violating line
IsReason lines (violation.Submitted id) line = ⊥
-- the line that gave the server the command before
IsReason lines (violation.Once server place id) line =
    (n : ℕ) × (n < place) × (slice_get (history (log_of lines) server) n ≡ Some id) × IsGift lines server n line
-- the first execution at the place
IsReason lines (violation.SameOrder server place expected found) line = IsFirstGift lines place line
-- the submissions of both commands, and the reply to the earlier one
IsReason lines (violation.RealTime server place id behind) line =
    IsFirstLine (Submits id) lines line ⊎ IsFirstLine (Submits behind) lines line
    ⊎ IsFirstLine (Replies behind) lines line
-- the first reply
IsReason lines (violation.OneReply id expected found) line = IsFirstLine (Replies id) lines line
-- the submission of the command, its reply, its first execution, and the last command before it that changed its key
IsReason lines (violation.RightReply id place expected found) line =
    IsFirstLine (Submits id) lines line ⊎ IsFirstLine (Replies id) lines line ⊎ IsFirstGift lines place line
    ⊎ ((p : ServerId) × (place < length (history (log_of lines) p))
    × (c : Command) × (command_of (log_of lines) id ≡ Some c)
    × IsChange lines (history (log_of lines) p) (key_of c.op) place line)
-- the last command that the reader has seen, and the last one that changed the key
IsReason lines (violation.RightLookup reader key from to found) line =
    (p : ServerId) × (length (history (log_of lines) p) ≡ to)
    × (((id : CommandId) × (n : ℕ) × (n + 1 ≡ from) × (slice_get (history (log_of lines) p) n ≡ Some id)
    × IsFirstLine (Submits id) lines line)
    ⊎ IsChange lines (history (log_of lines) p) key to line)
-- the reply to the command
IsReason lines (violation.Settled server id) line = IsFirstLine (Replies id) lines line
-- the line that gave the server its first command, if it has a history
IsReason lines (violation.Restore server source count) line = IsGift lines server 0 line

-- the last of the lines shows the violation. These quotes are that line and all reasons for the violation, each once, in
-- the order of the log
pub record AreQuotes (line : Quote) (earlier : NumberedLog) (x : Violation) (quotes : List Quote) : Type 0 where
  pub sound : (quote : Quote) → Contains quotes quote → (quote ≡ line) ⊎ IsReason (line ∷ earlier) x quote
  pub own : Contains quotes line
  pub complete : (quote : Quote) → IsReason (line ∷ earlier) x quote → Contains quotes quote
  pub rising : (n m : ℕ) (a b : Quote) → n < m → slice_get quotes n ≡ Some a → slice_get quotes m ≡ Some b
      → a.number < b.number
