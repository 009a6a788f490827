-- What holds for the search of one key after a part of the log, if the whole log has a linearization.
use Rattle.std.specs.Prelude.{◌≡◌, ◌⊎◌, ℕ, Bool, true, false, List, [], ◌∷◌, ◌++◌, Option, Some, None, bytes_eq, if◌then◌else◌, is_some}
use Rattle.mencius_base.specs.declared.command.Command.{Command}
use Rattle.mencius_base.specs.declared.command.CommandId.{CommandId}
use Rattle.mencius_model.specs.KeyMap.{key_of, value_at, is_read}
use Rattle.mencius_log.specs.declared.observation.Observation.{Observation}
use Rattle.mencius_judge.specs.Log.{Log, acknowledged, command_of, commands_of, has_id}
use Rattle.mencius_clients.specs.declared.configuration.Configuration.{Configuration}
use Rattle.mencius_clients.specs.Configurations.{IsIdle, IsOneOf, become, has_slot, is_cas, text_at}
use Rattle.mencius_judge.specs.Linearization.{IsLinearization}

-- the slots hold commands of the key that were submitted and not acknowledged, each one once. Every such command has a slot
-- unless it is idle
pub record AreWaiting (log : List Observation) (u : Log) (key : List ℕ) (calls : ℕ → Option Command) : Type 0 where
  pub of_key : (t : ℕ) (c : Command) → calls t ≡ Some c → key_of c.op ≡ key
  pub called : (t : ℕ) (c : Command) → calls t ≡ Some c → command_of u c.id ≡ Some c
  pub open_yet : (t : ℕ) (c : Command) → calls t ≡ Some c → has_id (acknowledged u) c.id ≡ false
  pub apart : (t s : ℕ) (c d : Command) → calls t ≡ Some c → calls s ≡ Some d → c.id ≡ d.id → t ≡ s
  pub all : (id : CommandId) (c : Command) → command_of u id ≡ Some c → key_of c.op ≡ key
      → has_id (acknowledged u) id ≡ false → ((t : ℕ) × (calls t ≡ Some c)) ⊎ IsIdle log c

abbrev pub is_same_text : Option (List ℕ) → Option (List ℕ) → Bool
is_same_text None None = true
is_same_text None (Some text) = false
is_same_text (Some text) None = false
is_same_text (Some text) (Some other) = bytes_eq text other

-- ---- what no one sees

-- a read may take effect before its place in an order. There it sees nothing any more. Any other acknowledged command sees
-- the text of its key
abbrev pub sees : Log → List CommandId → CommandId → Bool
sees w early id = if has_id early id then false else has_id (acknowledged w) id

-- whether the text of the key before a command is overwritten before anyone sees it. The questions are whether the command
-- is of the key, whether it sees the text, whether it changes nothing, and whether it compares. `before` and `after` say
-- whether the texts before and after the command are overwritten unseen by the later commands
abbrev pub fate : Bool → Bool → Bool → Bool → Bool → Bool → Bool
fate false sees same compares before after = before
fate true true same compares before after = false
fate true false true compares before after = before
fate true false false true before after = after
fate true false false false before after = true

abbrev pub on_command : (Command → Bool) → Bool → Option Command → Bool
on_command test none None = none
on_command test none (Some command) = test command

-- a command that is not acknowledged overwrites the text of the key before anyone sees it
abbrev pub overwritten : Log → List CommandId → List ℕ → Option (List ℕ) → List CommandId → Bool
overwritten w early key held [] = false
overwritten w early key held (x ∷ rest) =
    on_command (λ c. fate (bytes_eq (key_of c.op) key) (sees w early x) (is_same_text (become held c.op) held)
    (is_cas c.op) (overwritten w early key held rest) (overwritten w early key (become held c.op) rest))
    (overwritten w early key held rest) (command_of w x)

-- the configuration has the text of the key. If it is unseen so far, someone will see it. Or else the text of the key is
-- overwritten before anyone sees it
abbrev pub IsCurrent : Log → List Observation → List CommandId → List ℕ → Option (List ℕ) → List CommandId → Configuration
    → Type 0
IsCurrent w log early key held rest c =
    ((text_at log c.text ≡ held) × (c.unseen ≡ true → overwritten w early key held rest ≡ false))
    ⊎ ((c.unseen ≡ false) × (overwritten w early key held rest ≡ true))

-- ---- equal commands

-- this command waits in the slot, and is never acknowledged
abbrev pub IsLostAt : Log → (ℕ → Option Command) → ℕ → Command → Type 0
IsLostAt w calls t d = (calls t ≡ Some d) × (has_id (acknowledged w) d.id ≡ false)

-- a command with the same operation waits in the slot, and is never acknowledged
abbrev pub HasLike : Log → (ℕ → Option Command) → ℕ → Command → Type 0
HasLike w calls t d =
    (f : Command) × (calls t ≡ Some f) × (f.op ≡ d.op) × (has_id (acknowledged w) f.id ≡ false)

-- a renaming of the slots, with its inverse. It renames a command that is never acknowledged to an equal one, and keeps
-- all other slots
pub record Renaming (w : Log) (calls : ℕ → Option Command) : Type 0 where
  pub renamed : ℕ → ℕ
  pub origin : ℕ → ℕ
  pub backward : (t : ℕ) → origin (renamed t) ≡ t
  pub forward : (t : ℕ) → renamed (origin t) ≡ t
  pub alike : (t : ℕ) (d : Command) → IsLostAt w calls t d → HasLike w calls (renamed t) d
  pub alike_before : (t : ℕ) (d : Command) → IsLostAt w calls t d → HasLike w calls (origin t) d
  pub keeps : (t : ℕ) → ((d : Command) → calls t ≡ Some d → has_id (acknowledged w) d.id ≡ true)
      → (renamed t ≡ t) × (origin t ≡ t)

-- the configuration stands for the first commands of an order, and for some reads that come later in it
pub record IsReached (w u : Log) (log : List Observation) (key : List ℕ) (calls : ℕ → Option Command)
    (order front : List CommandId) (c : Configuration) : Type 0 where
  pub rest : List CommandId
  pub splits : order ≡ front ++ rest
  -- reads that took effect, perhaps before their places in the order
  pub early : List CommandId
  pub reads : (id : CommandId) → has_id early id ≡ true
      → (d : Command) × (command_of u id ≡ Some d) × (is_read d.op ≡ true) × (has_id (acknowledged w) id ≡ true)
  -- these are submitted commands of the key, and with the reads they include all acknowledged ones
  pub called : (id : CommandId) (d : Command) → has_id front id ≡ true → command_of w id ≡ Some d → key_of d.op ≡ key
      → is_some (command_of u id) ≡ true
  pub returned : (id : CommandId) (d : Command) → has_id (acknowledged u) id ≡ true → command_of w id ≡ Some d
      → key_of d.op ≡ key → has_id (early ++ front) id ≡ true
  -- the configuration has the same acknowledged commands. It may lack others, and have equal ones in their place
  pub taken : (t : ℕ) (d : Command) → calls t ≡ Some d → has_id (acknowledged w) d.id ≡ true
      → has_slot c.done t ≡ has_id (early ++ front) d.id
  pub names : Renaming w calls
  pub within : (t : ℕ) (d f : Command) → IsLostAt w calls t d → has_slot c.done t ≡ true → calls (names.renamed t) ≡ Some f
      → has_id (early ++ front) f.id ≡ true
  pub free : (t : ℕ) → calls t ≡ None → has_slot c.done t ≡ false
  pub current : IsCurrent w log early key (value_at key (commands_of w front)) rest c

-- for each linearization of the whole log, some configuration stands for its first commands
abbrev pub AreCovering : Log → Log → List Observation → List ℕ → (ℕ → Option Command) → List Configuration → Type 0
AreCovering w u log key calls configurations =
    (order : List CommandId) → IsLinearization w order
    → (front : List CommandId) × (c : Configuration) × IsOneOf configurations c × IsReached w u log key calls order front c
