-- The lines of a log that are about one key.
use Rattle.std.specs.Prelude.{◌≡◌, ◌+◌, ◌-◌, ◌<◌, ◌&&◌, ◌++◌, ℕ, Bool, true, false, List, [], ◌∷◌, Option, Some, None, bytes_eq, if◌then◌else◌, is_none, is_some, nat_eq, option_map, reverse, unwrap_or}
use Rattle.std.specs.BTreeMap.{get}
use Rattle.std.specs.Option.{option_or}
use Rattle.std.specs.Ordering.{nat_cmp}
use Rattle.mencius_base.specs.Command.{is_same_id}
use Rattle.mencius_base.specs.declared.command.CommandId.{CommandId}
use Rattle.mencius_model.specs.KeyMap.{key_of}
use Rattle.mencius_log.specs.declared.observation.Observation.{Observation}
use Rattle.mencius_log.specs.declared.observation.Observation.TheVariants.{Submit, Execute, Reply, Lookup, Tell, Settle, Restore}
use Rattle.mencius_judge.specs.Log.{Log}
use Rattle.mencius_judge.specs.Quotes.{NumberedLog, log_of}
use Rattle.mencius_judge.specs.Tables.{identity_key, number_count}
use Rattle.mencius_clients.specs.declared.key_lines.KeyLines.{KeyLines}

-- ---- commands of a key

-- whether the command of the key with this identity waits for a reply after the log, or `None` without such a command
abbrev pub waits : List ℕ → Log → CommandId → Option Bool
waits key [] id = None
waits key (Submit command ∷ w) id =
    if is_same_id command.id id && bytes_eq (key_of command.op) key then option_or (waits key w id) (Some true)
    else waits key w id
waits key (Execute server x ∷ w) id = waits key w id
waits key (Reply x answer ∷ w) id = if is_same_id x id then option_map (λ _. false) (waits key w id) else waits key w id
waits key (Lookup reader k text ∷ w) id = waits key w id
waits key (Tell reader server ∷ w) id = waits key w id
waits key (Settle server ∷ w) id = waits key w id
waits key (Restore server source count ∷ w) id = waits key w id

-- the number of commands of the key that wait for a reply after the log
abbrev pub waiting_count : List ℕ → Log → ℕ
waiting_count key [] = 0
waiting_count key (Submit command ∷ w) =
    if bytes_eq (key_of command.op) key && is_none (waits key w command.id) then waiting_count key w + 1
    else waiting_count key w
waiting_count key (Execute server id ∷ w) = waiting_count key w
waiting_count key (Reply id answer ∷ w) =
    if unwrap_or (waits key w id) false then waiting_count key w - 1 else waiting_count key w
waiting_count key (Lookup reader k text ∷ w) = waiting_count key w
waiting_count key (Tell reader server ∷ w) = waiting_count key w
waiting_count key (Settle server ∷ w) = waiting_count key w
waiting_count key (Restore server source count ∷ w) = waiting_count key w

-- ---- lines about a key

-- the observation after the log submits a command of the key, or replies to one
abbrev pub is_about : List ℕ → Log → Observation → Bool
is_about key w (Submit command) = bytes_eq (key_of command.op) key
is_about key w (Execute server id) = false
is_about key w (Reply id answer) = is_some (waits key w id)
is_about key w (Lookup reader k text) = false
is_about key w (Tell reader server) = false
is_about key w (Settle server) = false
is_about key w (Restore server source count) = false

-- the lines about the key since the last moment at which none of its commands waited, the newest first
abbrev pub lines_about : List ℕ → NumberedLog → NumberedLog
lines_about key [] = []
lines_about key (line ∷ lines) =
    (if is_about key (log_of lines) line.observation then line ∷ [] else [])
    ++ (if nat_eq (waiting_count key (log_of lines)) 0 then [] else lines_about key lines)

-- ---- the table

-- the table has the commands of the key, and counts those that wait
pub record Tracks (key : List ℕ) (w : Log) (lines : KeyLines) : Type 0 where
  pub states : (id : CommandId) → id.number < number_count
      → get nat_cmp lines.states (identity_key id) ≡ waits key w id
  pub count : lines.waiting ≡ waiting_count key w

-- the table also has the lines about the key
pub record HasLines (key : List ℕ) (n : NumberedLog) (lines : KeyLines) : Type 0 where
  pub tracks : Tracks key (log_of n) lines
  pub quotes : lines.quotes.items ≡ reverse (lines_about key n)
