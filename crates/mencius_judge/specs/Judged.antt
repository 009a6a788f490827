-- The log that a judge has seen, and its verdict on the next observation.
use Rattle.std.specs.Prelude.{◌≡◌, ◌∷◌, Option, Some, None}
use Rattle.mencius_judge.specs.declared.judge.Judge.{Judge}
use Rattle.mencius_log.specs.declared.observation.Observation.{Observation}
use Rattle.mencius_judge.specs.declared.quote.Quote.{Quote}
use Rattle.mencius_judge.specs.declared.violation.Violation.{Violation}
use Rattle.mencius_judge.specs.Counts.{command_count, lookup_count}
use Rattle.mencius_judge.specs.Log.{Log, commands_of, reply_count}
use Rattle.mencius_judge.specs.Promises.{AreOneCommand, AreOneReply, Holds, WereRestored, WereSettled, WereSubmitted}
use Rattle.mencius_judge.specs.Quotes.{NumberedLog, log_of}
use Rattle.mencius_judge.specs.Sources.{AreSources}
use Rattle.mencius_judge.specs.Tables.{AreExecutions, AreFloors, AreHistories, AreReplies, AreSettled, AreSubmissions, IsOrder}
use Rattle.mencius_judge.specs.Timelines.{AreTimelines}
use Rattle.mencius_judge.specs.Violations.{IsShownBy, promise_of}

-- the judge has seen this log, which keeps all promises, and the judge's data matches it
pub record HasSeenLog (j : Judge) (w : Log) : Type 0 where
  pub one_command : AreOneCommand w
  pub were_submitted : WereSubmitted w
  pub one_reply : AreOneReply w
  pub were_settled : WereSettled w
  pub were_restored : WereRestored w
  pub submissions : AreSubmissions w j.submissions
  pub histories : AreHistories w j.histories.order.items j.histories.places j.histories.rows.items
  pub order : IsOrder w j.histories.order.items
  pub replies : AreReplies w j.replies j.acknowledged.items
  pub executions : AreExecutions w j.histories.order.items j.executions
  pub settled : AreSettled j.acknowledged.items j.executions j.settled.count j.settled.highest
  pub timelines : AreTimelines (commands_of w j.histories.order.items) j.timelines.by_key
  pub floors : AreFloors w j.floors
  pub commands : j.commands ≡ command_count w
  pub replied : j.replied ≡ reply_count w
  pub lookups : j.lookups ≡ lookup_count w

-- the judge has seen the log with these lines, and knows the numbers of the lines that it may quote
pub record HasSeen (j : Judge) (lines : NumberedLog) : Type 0 where
  pub log : HasSeenLog j (log_of lines)
  pub sources : AreSources lines j.histories.order.items j.histories.leads.items j.histories.places
      j.histories.rows.items j.submissions j.replies

-- the observation o after the log w shows this violation, and breaks its promise
abbrev pub Breaks : Log → Observation → Violation → Type 0
Breaks w o violation = IsShownBy w o violation × (Holds (promise_of violation) (o ∷ w) → ⊥)

-- if the result is None, the judge has seen the lines and then this line. Otherwise the line breaks a promise, the result
-- is the violation, and the judge has still seen only the lines before
abbrev pub IsJudged : NumberedLog → Quote → Option Violation → Judge → Type 0
IsJudged lines line None j = HasSeen j (line ∷ lines)
IsJudged lines line (Some violation) j = Breaks (log_of lines) line.observation violation × HasSeen j lines
