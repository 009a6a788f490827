-- The orders that lead to the configurations of a key, after a part of the log.
use Rattle.std.specs.Prelude.{◌≡◌, ◌≢◌, ◌<◌, ◌≤◌, ◌⊎◌, ℕ, suc, Bool, true, false, List, [], ◌∷◌, ◌++◌, Option, Some, None, Contains, is_some, length, reverse, slice_get}
use Rattle.std.specs.BTreeMap.{get_by_text}
use Rattle.mencius_base.specs.declared.command.Command.{Command}
use Rattle.mencius_base.specs.declared.command.CommandId.{CommandId}
use Rattle.mencius_model.specs.KeyMap.{key_of, value_at}
use Rattle.mencius_log.specs.declared.observation.Answer.{Answer}
use Rattle.mencius_log.specs.declared.observation.Observation.{Observation}
use Rattle.mencius_log.specs.declared.observation.Observation.TheVariants.{Reply}
use Rattle.mencius_judge.specs.Answers.{IsRight}
use Rattle.mencius_judge.specs.Log.{Log, acknowledged, command_of, commands_of, has_id}
use Rattle.mencius_clients.specs.declared.configuration.Configuration.{Configuration}
use Rattle.mencius_clients.specs.declared.key_search.KeySearch.{KeySearch}
use Rattle.mencius_clients.specs.declared.search.Search.{Search}
use Rattle.mencius_clients.specs.declared.steps.Step.{Step}
use Rattle.mencius_clients.specs.Configurations.{Calls, IsOneOf, IsUnacknowledged, IsWaitingAt, become, has_slot, submitted_by, text_at, waiting}
use Rattle.mencius_clients.specs.KeyOrders.{AreSteps, IsLineOf, ids_at}
use Rattle.mencius_clients.specs.Locality.{acknowledged_at}
use Rattle.mencius_clients.specs.Searched.{configurations_of, slots_of}

-- The commands that these lines submit are an order of commands of the key. `u` is the part of the log that was taken,
-- with the newest line first. `calls` has the waiting commands by their slots, and `taken` says which slots have taken
-- effect. After the order, the key holds the text `held`
pub record IsOrderSoFar (log : List Observation) (u : Log) (key : List ℕ) (calls : Calls) (taken : ℕ → Bool)
    (held : Option (List ℕ)) (lines : List ℕ) : Type 0 where
  -- each line was taken, and submits a command of the key
  pub each : (line : ℕ) → Contains lines line → IsLineOf log key line × (line < length u)
  pub called : (id : CommandId) → has_id (ids_at log lines) id ≡ true → is_some (command_of u id) ≡ true
  -- no command appears twice
  pub once : (place other : ℕ) (id : CommandId) → slice_get (ids_at log lines) place ≡ Some id
      → slice_get (ids_at log lines) other ≡ Some id → place ≡ other
  -- each command of the key that was acknowledged so far is in the order
  pub complete : (id : CommandId) (command : Command) → has_id (acknowledged u) id ≡ true
      → command_of (reverse log) id ≡ Some command → key_of command.op ≡ key → has_id (ids_at log lines) id ≡ true
  -- of the waiting commands, the order has those that have taken effect
  pub effect : (t : ℕ) (command : Command) → calls t ≡ Some command → taken t ≡ has_id (ids_at log lines) command.id
  pub free : (t : ℕ) → calls t ≡ None → taken t ≡ false
  -- each reply of the whole log is right
  pub answers : (front back : List CommandId) (id : CommandId) (command : Command) (reply : Answer)
      → ids_at log lines ≡ front ++ id ∷ back → command_of (reverse log) id ≡ Some command
      → Contains (reverse log) (Reply id reply)
      → IsRight command.op (value_at key (commands_of (reverse log) front)) reply
  pub text : held ≡ value_at key (commands_of (reverse log) (ids_at log lines))
  -- no command was acknowledged before the submission of a command that comes before it
  pub in_time : (front back : List ℕ) (line later : ℕ) (command : Command) → lines ≡ front ++ line ∷ back
      → Contains (line ∷ back) later → submitted_by (slice_get log later) ≡ Some command
      → has_id (acknowledged (reverse log)) command.id ≡ true → line ≤ acknowledged_at (reverse log) command.id

-- the trail of the configuration is such an order
abbrev pub HasOrderSoFar : List Observation → Log → List ℕ → List (Option ℕ) → List Step → Configuration → Type 0
HasOrderSoFar log u key slots trail c =
    (lines : List ℕ) × AreSteps trail c.trail lines
    × IsOrderSoFar log u key (waiting log slots) (λ t. has_slot c.done t) (text_at log c.text) (reverse lines)

-- this holds for all configurations
abbrev pub HaveOrdersSoFar : List Observation → Log → List ℕ → List (Option ℕ) → List Step → List Configuration → Type 0
HaveOrdersSoFar log u key slots trail cs =
    (c : Configuration) → IsOneOf cs c → HasOrderSoFar log u key slots trail c

-- ---- what a search has to promise

-- a command waits in each of these slots that has a line. It was first submitted at that line
pub record AreSlots (log : List Observation) (u : Log) (key : List ℕ) (slots : List (Option ℕ)) : Type 0 where
  pub each : (t line : ℕ) (command : Command) → slice_get slots t ≡ Some (Some line)
      → submitted_by (slice_get log line) ≡ Some command → IsLineOf log key line × (line < length u)
  pub open_yet : (t : ℕ) (command : Command) → waiting log slots t ≡ Some command
      → has_id (acknowledged u) command.id ≡ false
  pub called : (t : ℕ) (command : Command) → waiting log slots t ≡ Some command
      → is_some (command_of u command.id) ≡ true
  pub apart : (t s : ℕ) (c d : Command) → waiting log slots t ≡ Some c → waiting log slots s ≡ Some d → c.id ≡ d.id
      → t ≡ s
  -- a waiting command that is never acknowledged has no reply
  pub silent : (t : ℕ) (command : Command) (reply : Answer) → waiting log slots t ≡ Some command
      → IsUnacknowledged log command.id → Contains log (Reply command.id reply) → ⊥

-- the trail gets d from c by a step of a waiting command. A reply to the command is right, or it has no reply other than
-- `failed`
pub record IsSoundStep (log : List Observation) (slots : List (Option ℕ)) (trail : List Step) (c d : Configuration)
    : Type 0 where
  pub slot : ℕ
  pub line : ℕ
  pub command : Command
  pub waits : slice_get slots slot ≡ Some (Some line)
  pub submits : submitted_by (slice_get log line) ≡ Some command
  pub was : has_slot c.done slot ≡ false
  pub here : has_slot d.done slot ≡ true
  pub elsewhere : (t : ℕ) → t ≢ slot → has_slot d.done t ≡ has_slot c.done t
  pub text : text_at log d.text ≡ become (text_at log c.text) command.op
  pub right : ((reply : Answer) × Contains log (Reply command.id reply) × IsRight command.op (text_at log c.text) reply)
      ⊎ IsUnacknowledged log command.id
  pub number : ℕ
  pub last : d.trail ≡ suc number
  pub there : slice_get trail number ≡ Some (record { line = line; before = c.trail })
  pub older : c.trail ≤ number

-- d follows from c by sound steps, with these configurations after them
abbrev pub Follows : List Observation → List (Option ℕ) → List Step → Configuration → List Configuration → Configuration
    → Type 0
Follows log slots trail c [] d = c ≡ d
Follows log slots trail c (e ∷ es) d = IsSoundStep log slots trail c e × Follows log slots trail e es d

-- the configuration follows from one of `cs` by sound steps
abbrev pub IsReachable : List Observation → List (Option ℕ) → List Step → List Configuration → Configuration → Type 0
IsReachable log slots trail cs d =
    (c : Configuration) × IsOneOf cs c × (es : List Configuration) × Follows log slots trail c es d

-- each configuration of `work` follows from one of `cs` by sound steps
abbrev pub AreReachable : List Observation → List (Option ℕ) → List Step → List Configuration → List Configuration → Type 0
AreReachable log slots trail cs work = (d : Configuration) → IsOneOf work d → IsReachable log slots trail cs d

-- d is c, with the slot free
pub record IsSoundlyFreed (slot : ℕ) (c d : Configuration) : Type 0 where
  pub was : has_slot c.done slot ≡ true
  pub here : has_slot d.done slot ≡ false
  pub elsewhere : (t : ℕ) → t ≢ slot → has_slot d.done t ≡ has_slot c.done t
  pub text : d.text ≡ c.text
  pub trail : d.trail ≡ c.trail

-- each configuration of `next` follows from one of `cs` by sound steps, one of them in the slot, which is then free
abbrev pub AreSoundlySettled : List Observation → List (Option ℕ) → List Step → List Configuration → ℕ
    → List Configuration → Type 0
AreSoundlySettled log slots trail cs slot next =
    (d : Configuration) → IsOneOf next d
    → (c : Configuration) × IsReachable log slots trail cs c × IsSoundlyFreed slot c d

-- the steps of a trail keep their numbers, and others may be added
abbrev pub IsLongerTrail : List Step → List Step → Type 0
IsLongerTrail old new = (n : ℕ) (s : Step) → slice_get old n ≡ Some s → slice_get new n ≡ Some s

-- d is c after the command in a slot has taken effect. A reply to the command is right, or it has no reply other than
-- `failed`
pub record IsSoundEffect (log : List Observation) (slot : ℕ) (command : Command) (c d : Configuration) : Type 0 where
  pub here : has_slot d.done slot ≡ true
  pub elsewhere : (t : ℕ) → t ≢ slot → has_slot d.done t ≡ has_slot c.done t
  pub text : text_at log d.text ≡ become (text_at log c.text) command.op
  pub right : ((reply : Answer) × Contains log (Reply command.id reply) × IsRight command.op (text_at log c.text) reply)
      ⊎ IsUnacknowledged log command.id

-- d is c after the waiting read in the slot has taken effect
pub record IsSoundRead (log : List Observation) (slots : List (Option ℕ)) (slot : ℕ) (c d : Configuration) : Type 0 where
  pub line : ℕ
  pub command : Command
  pub waits : slice_get slots slot ≡ Some (Some line)
  pub submits : submitted_by (slice_get log line) ≡ Some command
  pub was : has_slot c.done slot ≡ false
  pub effect : IsSoundEffect log slot command c d

-- the trail, with this step after it if there is one
abbrev pub trail_with : List Step → Option Step → List Step
trail_with trail None = trail
trail_with trail (Some step) = trail ++ step ∷ []

-- the configuration after this step, which has the number. Without a step, it stays as it is
abbrev pub numbered : Configuration → Option Step → ℕ → Configuration
numbered c None number = c
numbered c (Some step) number = record c { trail = number }

-- the last step of each configuration is in the trail
abbrev pub AreWithin : List Configuration → List Step → Type 0
AreWithin cs trail = (c : Configuration) → IsOneOf cs c → c.trail ≤ length trail

-- the slots and configurations of a key before and after a reply to a command. The command waits, and has taken effect in
-- each configuration afterwards
pub record IsSoundReply (log : List Observation) (id : CommandId) (old : List (Option ℕ)) (cs : List Configuration)
    (new : List (Option ℕ)) (next : List Configuration) (trail more : List Step) : Type 0 where
  pub slot : ℕ
  pub waited : IsWaitingAt log old id slot
  pub here : slice_get new slot ≡ Some None
  pub elsewhere : (t : ℕ) → t ≢ slot → slice_get new t ≡ slice_get old t
  pub settled : AreWithin cs trail → AreSoundlySettled log old more cs slot next
  pub some : (c : Configuration) × IsOneOf next c

-- if no such command waits, nothing changes
abbrev pub IsSoundlyAnswered : List Observation → CommandId → List (Option ℕ) → List Configuration → List (Option ℕ)
    → List Configuration → List Step → List Step → Type 0
IsSoundlyAnswered log id old cs new next trail more =
    (((t : ℕ) → IsWaitingAt log old id t → ⊥) × (new ≡ old) × (next ≡ cs))
    ⊎ IsSoundReply log id old cs new next trail more

-- ---- the whole search

-- after the part `u` of the log, the search of a key has an order for each configuration, and it has a configuration
pub record IsFoundBy (log : List Observation) (u : Log) (key : List ℕ) (trail : List Step) (s : Option KeySearch)
    : Type 0 where
  -- the lines of the slots were taken
  pub seen : (t line : ℕ) → slice_get (slots_of s) t ≡ Some (Some line) → line < length u
  -- a waiting command that is never acknowledged has no reply
  pub silent : (t : ℕ) (command : Command) (reply : Answer) → waiting log (slots_of s) t ≡ Some command
      → IsUnacknowledged log command.id → Contains log (Reply command.id reply) → ⊥
  pub orders : HaveOrdersSoFar log u key (slots_of s) trail (configurations_of s)
  pub some : (c : Configuration) × IsOneOf (configurations_of s) c

-- this holds for each key
abbrev pub HasFound : List Observation → Log → Search → Type 0
HasFound log u s = (key : List ℕ) → IsFoundBy log u key s.trail.items (get_by_text s.by_key key)
