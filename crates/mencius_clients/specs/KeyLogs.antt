-- The log of one key.
use Rattle.std.specs.Prelude.{Bool, true, false, List, Option, Some, None, ℕ, bytes_eq}
use Rattle.std.specs.List.{filter}
use Rattle.mencius_base.specs.declared.command.Command.{Command}
use Rattle.mencius_base.specs.declared.command.CommandId.{CommandId}
use Rattle.mencius_model.specs.KeyMap.{key_of}
use Rattle.mencius_log.specs.declared.observation.Observation.{Observation}
use Rattle.mencius_log.specs.declared.observation.Observation.TheVariants.{Submit, Execute, Reply, Lookup, Tell, Settle, Restore}
use Rattle.mencius_judge.specs.Log.{Log, command_of}

-- the command is a command of the key. An identity without a command counts for every key
abbrev pub is_on_key : List ℕ → Option Command → Bool
is_on_key key None = true
is_on_key key (Some command) = bytes_eq (key_of command.op) key

-- the identity is that of a command of the key
abbrev pub is_of_key : Log → List ℕ → CommandId → Bool
is_of_key w key id = is_on_key key (command_of w id)

-- the line submits a command whose identity passes the test, or replies to one
abbrev pub is_line_of : (CommandId → Bool) → Observation → Bool
is_line_of test (Submit command) = test command.id
is_line_of test (Execute server id) = false
is_line_of test (Reply id answer) = test id
is_line_of test (Lookup reader key text) = false
is_line_of test (Tell reader server) = false
is_line_of test (Settle server) = false
is_line_of test (Restore server source count) = false

-- the submissions of the commands of the key, and the replies to them
abbrev pub log_of_key : Log → List ℕ → Log
log_of_key w key = filter (is_line_of (is_of_key w key)) w

-- the commands of the key, in the same order
abbrev pub order_of_key : Log → List ℕ → List CommandId → List CommandId
order_of_key w key order = filter (is_of_key w key) order
