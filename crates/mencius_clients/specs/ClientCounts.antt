-- The counts of a log that clients saw.
use Rattle.std.specs.Prelude.{ℕ, ◌≡◌, ◌+◌, ◌-◌, ◌||◌, Bool, false, List, [], ◌∷◌, bytes_eq, if◌then◌else◌}
use Rattle.mencius_model.specs.KeyMap.{key_of}
use Rattle.mencius_log.specs.declared.observation.Observation.TheVariants.{Submit, Execute, Reply, Lookup, Tell, Settle, Restore}
use Rattle.mencius_judge.specs.Counts.{command_count}
use Rattle.mencius_judge.specs.Log.{Log, reply_count}
use Rattle.mencius_clients.specs.declared.client_counts.ClientCounts.{ClientCounts}

-- some line submits a command of the key
abbrev pub has_key : Log → List ℕ → Bool
has_key [] key = false
has_key (Submit command ∷ w) key = bytes_eq (key_of command.op) key || has_key w key
has_key (Execute server id ∷ w) key = has_key w key
has_key (Reply id answer ∷ w) key = has_key w key
has_key (Lookup reader k text ∷ w) key = has_key w key
has_key (Tell reader server ∷ w) key = has_key w key
has_key (Settle server ∷ w) key = has_key w key
has_key (Restore server source count ∷ w) key = has_key w key

-- the number of different keys of the submitted commands
abbrev pub key_count : Log → ℕ
key_count [] = 0
key_count (Submit command ∷ w) = if has_key w (key_of command.op) then key_count w else key_count w + 1
key_count (Execute server id ∷ w) = key_count w
key_count (Reply id answer ∷ w) = key_count w
key_count (Lookup reader key text ∷ w) = key_count w
key_count (Tell reader server ∷ w) = key_count w
key_count (Settle server ∷ w) = key_count w
key_count (Restore server source count ∷ w) = key_count w

-- these are the counts of the log. Each reply is to a submitted command, so the commands without a reply are the others
pub record AreClientCounts (w : Log) (c : ClientCounts) : Type 0 where
  pub commands : c.commands ≡ command_count w
  pub replies : c.replies ≡ reply_count w
  pub lost : c.lost ≡ command_count w - reply_count w
  pub keys : c.keys ≡ key_count w
