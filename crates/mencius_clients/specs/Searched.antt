-- What holds for a search after a part of the log.
use Rattle.std.specs.Prelude.{◌≡◌, ℕ, ◌<◌, true, false, List, [], ◌∷◌, Option, Some, None, is_some, slice_get}
use Rattle.std.specs.BTreeMap.{get, get_by_text}
use Rattle.std.specs.Ordering.{nat_cmp}
use Rattle.mencius_base.specs.declared.command.Command.{Command}
use Rattle.mencius_base.specs.declared.command.CommandId.{CommandId}
use Rattle.mencius_log.specs.declared.observation.Observation.{Observation}
use Rattle.mencius_log.specs.declared.observation.Answer.{Answer}
use Rattle.mencius_log.specs.declared.observation.Observation.TheVariants.{Reply}
use Rattle.mencius_judge.specs.Log.{Log, acknowledged, command_of, has_id, is_failed}
use Rattle.mencius_judge.specs.Tables.{identity_key, number_count}
use Rattle.mencius_clients.specs.declared.configuration.Configuration.{Configuration}
use Rattle.mencius_clients.specs.declared.key_search.KeySearch.{KeySearch}
use Rattle.mencius_clients.specs.declared.outcome.Outcome.{Outcome}
use Rattle.mencius_clients.specs.declared.outcome.Outcome.TheVariants.{Goes, Unexplained, Waiting, Configurations}
use Rattle.mencius_clients.specs.declared.search.Search.{Search}
use Rattle.mencius_clients.specs.Configurations.{no_slots, submitted_by, waiting}
use Rattle.mencius_clients.specs.Explained.{AreManyWaiting, IsLinearizable}
use Rattle.mencius_clients.specs.Reached.{AreCovering, AreWaiting}

abbrev pub called_at : List Observation → Option ℕ → Option Command
called_at log None = None
called_at log (Some line) = submitted_by (slice_get log line)

-- a key without a search has no slots, and one configuration, in which no command has taken effect
abbrev pub slots_of : Option KeySearch → List (Option ℕ)
slots_of None = []
slots_of (Some s) = s.slots.items

abbrev pub configurations_of : Option KeySearch → List Configuration
configurations_of None = record { done = no_slots; text = 0; unseen = false; trail = 0 } ∷ []
configurations_of (Some s) = s.configurations.items

pub record IsSearched (w u : Log) (log : List Observation) (key : List ℕ) (slots : List (Option ℕ)) (cs : List Configuration)
    : Type 0 where
  pub waits : AreWaiting log u key (waiting log slots)
  pub covering : AreCovering w u log key (waiting log slots) cs

-- what holds for the search of one key after the part `u` of the log
abbrev pub IsSearchedBy : Log → Log → List Observation → List ℕ → Option KeySearch → Type 0
IsSearchedBy w u log key s = IsSearched w u log key (slots_of s) (configurations_of s)

pub record HasSearched (w u : Log) (log : List Observation) (s : Search) : Type 0 where
  pub calls : (id : CommandId) → id.number < number_count
      → called_at log (get nat_cmp s.calls (identity_key id)) ≡ command_of u id
  pub submitted : (id : CommandId) → has_id (acknowledged u) id ≡ true → is_some (command_of u id) ≡ true
  pub keys : (key : List ℕ) → IsSearchedBy w u log key (get_by_text s.by_key key)

-- the newest line is a reply other than `failed`
abbrev pub HasReplied : Log → Type 0
HasReplied u = (id : CommandId) × (x : Answer) × (v : Log) × (u ≡ Reply id x ∷ v) × (is_failed x ≡ false)

-- what is true after one line more, with this outcome
abbrev pub IsAfter : Log → Log → List Observation → Search → Outcome → Type 0
IsAfter w u log s Goes = HasSearched w u log s
IsAfter w u log s Unexplained = IsLinearizable w → ⊥
IsAfter w u log s Waiting = AreManyWaiting u
IsAfter w u log s Configurations = HasReplied u
