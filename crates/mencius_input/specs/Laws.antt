-- A fact about the texts of all scenarios.
use Rattle.std.specs.Prelude.{ℕ, ◌≡◌, List, true, is_some, Result, Err}
use Rattle.mencius_io.specs.declared.fault.IoFault.{IoFault}
use Rattle.mencius_io.specs.declared.fault.IoFault.TheVariants.{BadLimit, BadShape}
use Rattle.mencius_input.specs.declared.kind.Kind.{Kind}
use Rattle.mencius_input.specs.declared.kind.Kind.TheVariants.{Replay, Run}
use Rattle.mencius_input.specs.Places.{first_place}
use Rattle.mencius_input.specs.Plan.{plan}
use Rattle.mencius_input.specs.Scenario.{scenario}

-- if the result for the bytes is `BadShape` or `BadLimit`, they have a place with this fault as a scenario of the kind
abbrev pub HasPlace : {X : Type 0} → Kind → List ℕ → Result X IoFault → Type 0
HasPlace kind bytes (Err BadShape) = is_some (first_place kind BadShape bytes) ≡ true
HasPlace kind bytes (Err BadLimit) = is_some (first_place kind BadLimit bytes) ≡ true
HasPlace kind bytes said = Unit {0}

-- each `BadShape` or `BadLimit` of bytes that are read as a scenario of `replay` or of a run has a place in these bytes
abbrev pub FaultsHavePlaces : Type 0
FaultsHavePlaces = (bytes : List ℕ) → (HasPlace Replay bytes (scenario bytes)) × (HasPlace Run bytes (plan bytes))
