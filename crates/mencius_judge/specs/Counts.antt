-- The counts of a log.
use Rattle.std.specs.Prelude.{ℕ, ◌≡◌, ◌+◌, ◌≤◌, is_some, length, map, min, not, List, [], ◌∷◌, if◌then◌else◌}
use Rattle.std.specs.List.{count_by}
use Rattle.mencius_base.specs.Numbers.{ServerId}
use Rattle.mencius_judge.specs.declared.counts.Counts.{Counts}
use Rattle.mencius_log.specs.declared.observation.Observation.TheVariants.{Submit, Execute, Reply, Lookup, Tell, Settle, Restore}
use Rattle.mencius_judge.specs.Log.{Log, acknowledged, command_of, has_id, history, reply_count, servers_of}

-- the number of different identities of the submitted commands
abbrev pub command_count : Log → ℕ
command_count [] = 0
command_count (Submit command ∷ w) =
    if is_some (command_of w command.id) then command_count w else command_count w + 1
command_count (Execute server id ∷ w) = command_count w
command_count (Reply id answer ∷ w) = command_count w
command_count (Lookup reader key text ∷ w) = command_count w
command_count (Tell reader server ∷ w) = command_count w
command_count (Settle server ∷ w) = command_count w
command_count (Restore server source count ∷ w) = command_count w

-- the number of lookups in the log
abbrev pub lookup_count : Log → ℕ
lookup_count [] = 0
lookup_count (Submit command ∷ w) = lookup_count w
lookup_count (Execute server id ∷ w) = lookup_count w
lookup_count (Reply id answer ∷ w) = lookup_count w
lookup_count (Lookup reader key text ∷ w) = lookup_count w + 1
lookup_count (Tell reader server ∷ w) = lookup_count w
lookup_count (Settle server ∷ w) = lookup_count w
lookup_count (Restore server source count ∷ w) = lookup_count w

-- the least of these numbers, or 0 if there are none
abbrev pub least_of : List ℕ → ℕ
least_of [] = 0
least_of (n ∷ []) = n
least_of (n ∷ m ∷ ns) = min n (least_of (m ∷ ns))

-- the lengths of all histories that are not empty
abbrev pub lengths_of : Log → List ℕ
lengths_of w = map (λ p. length (history w p)) (servers_of w)

-- these are the counts of the log
pub record AreCounts (w : Log) (c : Counts) : Type 0 where
  pub servers : c.servers ≡ length (servers_of w)
  pub commands : c.commands ≡ command_count w
  -- a server with a longest history
  pub longest : ServerId
  pub within : (p : ServerId) → length (history w p) ≤ length (history w longest)
  pub executed : c.executed ≡ length (history w longest)
  pub shortest : c.shortest ≡ least_of (lengths_of w)
  pub replies : c.replies ≡ reply_count w
  -- the number of acknowledged commands that are not in the longest history
  pub open_replies : c.open_replies ≡ count_by (λ id. not (has_id (history w longest) id)) (acknowledged w)
  pub lookups : c.lookups ≡ lookup_count w
