-- The orders that a search found for the keys.
use Rattle.std.specs.Prelude.{◌≡◌, ◌≤◌, ℕ, zero, suc, max, List, [], ◌∷◌, ◌++◌, Option, Some, None, IsTrue, IsSome, Contains, if◌then◌else◌, length, nat_le, reverse, slice_get}
use Rattle.std.specs.BTreeMap.{get_by_text}
use Rattle.mencius_base.specs.declared.command.Command.{Command}
use Rattle.mencius_base.specs.declared.command.CommandId.{CommandId}
use Rattle.mencius_model.specs.KeyMap.{key_of, value_at}
use Rattle.mencius_log.specs.declared.observation.Answer.{Answer}
use Rattle.mencius_log.specs.declared.observation.Observation.{Observation}
use Rattle.mencius_log.specs.declared.observation.Observation.TheVariants.{Reply}
use Rattle.mencius_judge.specs.Answers.{IsRight}
use Rattle.mencius_judge.specs.Log.{acknowledged, command_of, commands_of, has_id}
use Rattle.mencius_clients.specs.declared.configuration.Configuration.{Configuration}
use Rattle.mencius_clients.specs.declared.key_search.KeySearch.{KeySearch}
use Rattle.mencius_clients.specs.declared.search.Search.{Search}
use Rattle.mencius_clients.specs.declared.steps.Step.{Step}
use Rattle.mencius_clients.specs.declared.timed_command.TimedCommand.{TimedCommand}
use Rattle.mencius_clients.specs.Configurations.{submitted_by}
use Rattle.mencius_clients.specs.Locality.{acknowledged_at, ids_of}

-- ---- the trail of a search

-- the step with a number. The numbers count from 1, and 0 stands for no step
abbrev pub step_of : List Step → ℕ → Option Step
step_of trail zero = None
step_of trail (suc n) = slice_get trail n

abbrev pub after_step : Option Step → (Step → List ℕ) → List ℕ
after_step None lines = []
after_step (Some step) lines = lines step

-- the lines of a step and of those before it, up to `most` of them, with the last step first
abbrev pub lines_back : List Step → ℕ → ℕ → List ℕ
lines_back trail zero number = []
lines_back trail (suc most) number =
    after_step (step_of trail number) (λ step. step.line ∷ lines_back trail most step.before)

-- the number of the last step that led to the first configuration
abbrev pub last_step : List Configuration → ℕ
last_step [] = 0
last_step (c ∷ cs) = c.trail

-- the lines of the commands that lead to the first configuration of a key, in their order
abbrev pub lines_of : List Step → KeySearch → List ℕ
lines_of trail search = reverse (lines_back trail (length trail) (last_step search.configurations.items))

-- ---- moments

abbrev pub timed_one : Option Command → ℕ → List TimedCommand → List TimedCommand
timed_one None moment rest = rest
timed_one (Some command) moment rest = record { moment = moment; id = command.id } ∷ rest

-- the commands that these lines submit. The moment of each one is the latest line up to its own
abbrev pub timed_lines : List Observation → ℕ → List ℕ → List TimedCommand
timed_lines log moment [] = []
timed_lines log moment (line ∷ lines) =
    timed_one (submitted_by (slice_get log line)) (max moment line) (timed_lines log (max moment line) lines)

-- the commands of all keys, one key after the other
abbrev pub gathered : List Observation → List Step → List KeySearch → List TimedCommand
gathered log trail [] = []
gathered log trail (search ∷ searches) = timed_lines log 0 (lines_of trail search) ++ gathered log trail searches

-- the list with one command more, before the first one that has no earlier moment
abbrev pub insert : TimedCommand → List TimedCommand → List TimedCommand
insert c [] = c ∷ []
insert c (d ∷ ds) = if nat_le c.moment d.moment then c ∷ d ∷ ds else d ∷ insert c ds

-- the commands sorted by moments. Commands with the same moment keep their order
abbrev pub sorted : List TimedCommand → List TimedCommand
sorted [] = []
sorted (c ∷ cs) = insert c (sorted cs)

-- ---- what has to hold for the order of a key

-- the identities of the commands that these lines submit
abbrev pub ids_at : List Observation → List ℕ → List CommandId
ids_at log lines = ids_of (timed_lines log 0 lines)

-- these are the lines of a step and of all steps before it, with the last step first
abbrev pub AreSteps : List Step → ℕ → List ℕ → Type 0
AreSteps trail number [] = number ≡ 0
AreSteps trail number (line ∷ lines) =
    (n : ℕ) × (before : ℕ) × (number ≡ suc n) × (slice_get trail n ≡ Some (record { line = line; before = before }))
    × (before ≤ n) × AreSteps trail before lines

-- the command of a line of the order
pub record IsLineOf (log : List Observation) (key : List ℕ) (line : ℕ) : Type 0 where
  pub command : Command
  pub submits : submitted_by (slice_get log line) ≡ Some command
  pub first : command_of (reverse log) command.id ≡ Some command
  pub of_key : key_of command.op ≡ key

-- the commands that these lines submit are an order of the commands of the key
pub record IsKeyOrder (log : List Observation) (key : List ℕ) (lines : List ℕ) : Type 0 where
  pub each : (line : ℕ) → Contains lines line → IsLineOf log key line
  -- no command appears twice
  pub once : (place other : ℕ) (id : CommandId) → slice_get (ids_at log lines) place ≡ Some id
      → slice_get (ids_at log lines) other ≡ Some id → place ≡ other
  -- each acknowledged command of the key is in the order
  pub complete : (id : CommandId) (command : Command) → IsTrue (has_id (acknowledged (reverse log)) id)
      → command_of (reverse log) id ≡ Some command → key_of command.op ≡ key → IsTrue (has_id (ids_at log lines) id)
  -- each reply is right
  pub answers : (front back : List CommandId) (id : CommandId) (command : Command) (reply : Answer)
      → ids_at log lines ≡ front ++ id ∷ back → command_of (reverse log) id ≡ Some command
      → Contains (reverse log) (Reply id reply)
      → IsRight command.op (value_at key (commands_of (reverse log) front)) reply
  -- no command was acknowledged before the submission of a command that comes before it
  pub in_time : (front back : List ℕ) (line later : ℕ) (command : Command) → lines ≡ front ++ line ∷ back
      → Contains (line ∷ back) later → submitted_by (slice_get log later) ≡ Some command
      → IsTrue (has_id (acknowledged (reverse log)) command.id) → line ≤ acknowledged_at (reverse log) command.id

-- a key without a search has the empty order
abbrev pub HasKeyOrder : List Observation → List Step → List ℕ → Option KeySearch → Type 0
HasKeyOrder log trail key None = IsKeyOrder log key []
HasKeyOrder log trail key (Some search) =
    (lines : List ℕ) × AreSteps trail (last_step search.configurations.items) lines × IsKeyOrder log key (reverse lines)

-- the search has an order of each key, and each acknowledged command was submitted
pub record HaveKeyOrders (log : List Observation) (search : Search) : Type 0 where
  pub submitted : (id : CommandId) → IsTrue (has_id (acknowledged (reverse log)) id) → IsSome (command_of (reverse log) id)
  pub keys : (key : List ℕ) → HasKeyOrder log search.trail.items key (get_by_text search.by_key key)
