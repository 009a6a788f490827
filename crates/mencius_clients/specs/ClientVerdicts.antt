-- The verdict on the submissions and replies of a log.
use Rattle.std.specs.Prelude.{ℕ, ◌≡◌, ◌+◌, ◌<◌, List, ◌∷◌, ◌++◌, Option, Some, None, IfSome, Ok, length, reverse, slice_get, string_bytes, take}
use Rattle.std.specs.List.{All}
use Rattle.mencius_base.specs.declared.command.Command.{Command}
use Rattle.mencius_base.specs.declared.command.CommandId.{CommandId}
use Rattle.mencius_model.specs.KeyMap.{key_of}
use Rattle.mencius_log.specs.declared.observation.Answer.{Answer}
use Rattle.mencius_log.specs.declared.observation.Observation.{Observation}
use Rattle.mencius_log.specs.declared.observation.Observation.TheVariants.{Submit, Execute, Reply, Lookup, Tell, Settle, Restore}
use Rattle.mencius_judge.specs.declared.quote.Quote.{Quote}
use Rattle.mencius_judge.specs.declared.violation.Violation.{Violation}
use Rattle.mencius_judge.specs.Judged.{Breaks}
use Rattle.mencius_judge.specs.Linearization.{IsLinearization}
use Rattle.mencius_log.specs.Lines.{IsInLine, line_said}
use Rattle.mencius_judge.specs.Log.{Log, command_of}
use Rattle.mencius_judge.specs.LogReader.{Say, bytes_of}
use Rattle.mencius_judge.specs.Quotes.{NumberedLog, log_of}
use Rattle.mencius_clients.specs.declared.client_counts.ClientCounts.{ClientCounts}
use Rattle.mencius_clients.specs.declared.client_verdict.ClientJudgement.{ClientJudgement}
use Rattle.mencius_clients.specs.declared.client_verdict.ClientVerdict.{ClientVerdict}
use Rattle.mencius_clients.specs.declared.client_verdict.ClientVerdict.TheVariants.{Linearizable, Unjudged, NotLinearizable, Broken, Undecided}
use Rattle.mencius_clients.specs.declared.client_verdict.GiveUp.{GiveUp}
use Rattle.mencius_clients.specs.declared.client_verdict.GiveUp.TheVariants.{Waiting, Configurations}
use Rattle.mencius_clients.specs.ClientCounts.{AreClientCounts}
use Rattle.mencius_clients.specs.Explained.{AreManyWaiting, IsLinearizable, heard, most_waiting}
use Rattle.mencius_clients.specs.FittingAnswers.{Fits, about_key}
use Rattle.mencius_clients.specs.KeyLines.{lines_about}
use Rattle.mencius_clients.specs.ManyStates.{ComesAfterMany}
use Rattle.mencius_clients.specs.ReadLogs.{IsLogOf}

-- ---- lines

-- the bytes are whole lines, which are read as this log
abbrev pub AreRead : List ℕ → NumberedLog → Type 0
AreRead bytes log = (lines : List (List ℕ)) × (bytes ≡ bytes_of lines) × Say lines log

-- the line of the bytes with this number has this observation, and the lines before it are read as this log
pub record IsLineAt (bytes : List ℕ) (number : ℕ) (o : Observation) (earlier : NumberedLog) : Type 0 where
  pub lines : List (List ℕ)
  pub line : List ℕ
  pub rest : List ℕ
  pub are : bytes ≡ bytes_of lines ++ (line ++ 10 ∷ rest)
  pub say : Say lines earlier
  pub in_line : IsInLine line
  pub said : line_said line ≡ Ok (Some o)
  pub place : number ≡ length lines + 1

-- the command that an observation after the log submits or replies to, if there is one
abbrev pub command_in : Log → Observation → Option Command
command_in w (Submit command) = Some command
command_in w (Execute server id) = None
command_in w (Reply id answer) = command_of w id
command_in w (Lookup reader key text) = None
command_in w (Tell reader server) = None
command_in w (Settle server) = None
command_in w (Restore server source count) = None

-- the observation after the log submits a command of this key, or replies to one
abbrev pub IsOfKey : Log → Observation → List ℕ → Type 0
IsOfKey w o key = (c : Command) × (command_in w o ≡ Some c) × (key_of c.op ≡ key)

-- the observation is a reply
abbrev pub IsReply : Observation → Type 0
IsReply o = (id : CommandId) × (x : Answer) × (o ≡ Reply id x)

-- ---- places in a log

-- the line of the log at this place submits a command or replies to a submitted one
abbrev pub HasCommandAt : List Observation → ℕ → Type 0
HasCommandAt log line =
    (o : Observation) × (slice_get log line ≡ Some o) × (c : Command) × (command_in (reverse (take line log)) o ≡ Some c)

-- this is that command
abbrev pub IsCommandAt : List Observation → ℕ → Command → Type 0
IsCommandAt log line c = (o : Observation) → slice_get log line ≡ Some o → command_in (reverse (take line log)) o ≡ Some c

-- this is the key of that command
abbrev pub IsKeyAt : List Observation → ℕ → List ℕ → Type 0
IsKeyAt log line key =
    (o : Observation) → slice_get log line ≡ Some o → IsOfKey (reverse (take line log)) o key

-- ---- verdicts

-- these are the counts of a log with at least one reply, and the order is a linearization of the log
pub record IsLinearizedBy (bytes : List ℕ) (counts : ClientCounts) (order : List CommandId) : Type 0 where
  pub log : NumberedLog
  pub read : AreRead bytes log
  pub counted : AreClientCounts (log_of log) counts
  pub replied : 0 < counts.replies
  pub linearizes : IsLinearization (log_of log) order

-- these are the counts of a log without a reply
pub record IsUnjudged (bytes : List ℕ) (counts : ClientCounts) : Type 0 where
  pub log : NumberedLog
  pub read : AreRead bytes log
  pub counted : AreClientCounts (log_of log) counts
  pub unreplied : counts.replies ≡ 0

-- the line with this number is a reply to a command of this key. With it, the log has no linearization. The lines before
-- it have one. The quotes are the lines about the key since the last moment at which none of its commands waited.
-- If the reply had one of the fitting answers, the lines about the key would have a linearization
pub record IsFirstWithout (bytes : List ℕ) (number : ℕ) (key : List ℕ) (quotes : List Quote) (fitting : List Answer)
    : Type 0 where
  pub o : Observation
  pub earlier : NumberedLog
  pub at : IsLineAt bytes number o earlier
  pub reply : IsReply o
  pub of_key : IsOfKey (log_of earlier) o key
  pub has : IsLinearizable (log_of earlier)
  pub lacks : IsLinearizable (o ∷ log_of earlier) → ⊥
  pub quotes_are : quotes ≡ reverse (lines_about key (record { number = number; observation = o } ∷ earlier))
  pub fit : All (Fits (about_key key (log_of earlier)) o) fitting

-- the submission or reply at the line with this number shows this violation, after the submissions and replies before it
pub record IsBrokenAt (bytes : List ℕ) (number : ℕ) (violation : Violation) : Type 0 where
  pub o : Observation
  pub earlier : NumberedLog
  pub at : IsLineAt bytes number o earlier
  pub breaks : Breaks (heard (log_of earlier)) o violation

-- the reason why the search was given up at an observation after the log
abbrev pub IsGivenUp : Log → Observation → ℕ → GiveUp → Type 0
IsGivenUp w o most (Waiting count) = (count ≡ most_waiting + 1) × AreManyWaiting (o ∷ w)
IsGivenUp w o most (Configurations limit) = (limit ≡ most) × ComesAfterMany w o most

-- the search was given up for this reason at the line with this number, which is about a command of this key
pub record IsUndecidedAt (bytes : List ℕ) (most number : ℕ) (key : List ℕ) (cause : GiveUp) : Type 0 where
  pub o : Observation
  pub earlier : NumberedLog
  pub at : IsLineAt bytes number o earlier
  pub of_key : IsOfKey (log_of earlier) o key
  pub given_up : IsGivenUp (log_of earlier) o most cause

-- the verdict is right for the bytes
abbrev pub IsVerdictFor : List ℕ → ℕ → ClientVerdict → Type 0
IsVerdictFor bytes most (Linearizable counts order) = IsLinearizedBy bytes counts order.items
IsVerdictFor bytes most (Unjudged counts) = IsUnjudged bytes counts
IsVerdictFor bytes most (NotLinearizable number key quotes fitting) =
    IsFirstWithout bytes number (string_bytes key) quotes.items fitting.items
IsVerdictFor bytes most (Broken number violation) = IsBrokenAt bytes number violation
IsVerdictFor bytes most (Undecided number key cause) = IsUndecidedAt bytes most number (string_bytes key) cause

-- the log and the verdict are right for some bytes. If all bytes of the source are known, they are these bytes
abbrev pub IsClientJudgement : Option (List ℕ) → ℕ → ClientJudgement → Type 0
IsClientJudgement known most j =
    (bytes : List ℕ) × IfSome known (λ all. all ≡ bytes) × IsLogOf bytes j.log × IsVerdictFor bytes most j.verdict
