-- A check finds the kind of a scenario, and its result or fault is right for this kind.
use Rattle.mencius_app.proofs.Words.{◌≡◌, ◌≢◌, ◌⊎◌, inl, inr, ℕ, List, Option, IfSome, Result, Ok, Err, String, Global, string_bytes, ap, sym, subst, ◌∙◌, IfSome_then, IoFault, BadShape, NoMemory, Kind, FailsBy, kind_in, plan, scenario, Scenario, Event, PlanState, Bool, true, false, cond, not, Some, None, is_some, codes, refl, ◌&&◌, option_map_or, Data, NotJson, Replay, Run, value_or_fault, has_run_field, is_crowded, kind_said, is_within_limits, json_of, written_of}
use Rattle.mencius_format.specs.ValuesOrFaults.{map_ok}
use Rattle.mencius_input.specs.declared.kind.Kind.TheVariants as kind
use Rattle.mencius_input.specs.Explanations.{Explains}
use Rattle.mencius_app.specs.Check.{either_scenario, replay_scenario, run_scenario, scenario_of_kind}
use Rattle.mencius_app.proofs.inputs.Inputs.{IsBadInput, failing, plan_bad, scenario_bad}
use Rattle.serde_json.specs.Find.{get}
use Rattle.mencius_input.proofs.objects.ScenarioFields.{no_events_said}

has_none : (o : Option Data) (other : Bool) → cond (not (is_some o) && other) Run Replay ≡ Run → o ≡ None
has_none None other e = refl
has_none (Some x) other e = absurd (cc)

run_said : (o : Option Data) → kind_said o ≡ Run
    → option_map_or (λ d. value_or_fault is_within_limits (written_of d)) o (Err NotJson) ≡ Err BadShape
run_said None e = absurd (cc)
run_said (Some d) e =
    ap (value_or_fault is_within_limits) (no_events_said d (has_none (get (codes "events") d) (has_run_field d) e))

-- bytes that are meant as a scenario of `run` do not have the shape of a scenario of `replay`
pub run_misshapen : (bytes : List ℕ) → kind_in bytes ≡ Run → scenario bytes ≡ Err BadShape
run_misshapen bytes e = by_count (is_crowded bytes) e where
  by_count : (many : Bool) → cond many Replay (kind_said (json_of bytes)) ≡ Run → scenario bytes ≡ Err BadShape
  by_count true e = absurd (cc)
  by_count false e = run_said (json_of bytes) e

pub meant_as_replay : (bytes : List ℕ) → scenario bytes ≢ Err BadShape → kind_in bytes ≡ Replay
meant_as_replay bytes other = by_kind (kind_in bytes) refl where
  by_kind : (kind : Kind) → kind_in bytes ≡ kind → kind_in bytes ≡ Replay
  by_kind Replay e = e
  by_kind Run e = absurd (other (run_misshapen bytes e))

-- ---- by kind

-- the words explain the fault of these bytes as the scenario that they are meant as
abbrev pub AreWordsByFields : IoFault → List ℕ → Option (String Global) → Type 0
AreWordsByFields fault bytes words = IfSome words (λ said. Explains (kind_in bytes) fault bytes (string_bytes said))

-- bytes that are read as a scenario of `replay` are checked as such a scenario
pub replay_checked : (bytes : List ℕ) (written : Scenario (List Event)) → scenario bytes ≡ Ok written
    → either_scenario bytes ≡ Ok (replay_scenario written)
replay_checked bytes written e =
    let meant = meant_as_replay bytes (λ bad. (let other = sym e ∙ bad in absurd (cc))) in
    subst (λ k. scenario_of_kind k bytes ≡ Ok (replay_scenario written)) (sym meant) (ap (map_ok replay_scenario) e)

-- bytes that are meant as a scenario of `run` are checked as such a scenario
pub run_checked : (bytes : List ℕ) (written : Scenario PlanState) → kind_in bytes ≡ kind.Run → plan bytes ≡ Ok written
    → either_scenario bytes ≡ Ok (run_scenario written)
run_checked bytes written meant e =
    subst (λ k. scenario_of_kind k bytes ≡ Ok (run_scenario written)) (sym meant) (ap (map_ok run_scenario) e)

-- a fault other than `BadShape` is the fault of a scenario of `replay`, unless memory ran out
module _ (bytes : List ℕ) (fault : IoFault) (other : fault ≢ BadShape) (fails : FailsBy fault (scenario bytes)) where
  meant : scenario bytes ≡ Err fault → kind_in bytes ≡ kind.Replay
  meant e = meant_as_replay bytes (λ bad. other (let same = sym e ∙ bad in cc))

  pub other_fault : (fault ≡ NoMemory) ⊎ (either_scenario bytes ≡ Err fault)
  other_fault = elim (failing fault (scenario bytes) fails) [
    | inl memory ↦ inl memory
    | inr e ↦ inr (subst (λ k. scenario_of_kind k bytes ≡ Err fault) (sym (meant e)) (ap (map_ok replay_scenario) e))
  ]

  pub other_words : (words : Option (String Global))
      → IfSome words (λ said. Explains kind.Replay fault bytes (string_bytes said)) → AreWordsByFields fault bytes words
  other_words words h = IfSome_then words h (λ said told. elim (failing fault (scenario bytes) fails) [
    | inl memory ↦ subst (λ f. Explains (kind_in bytes) f bytes (string_bytes said)) (sym memory) tt
    | inr e ↦ subst (λ k. Explains k fault bytes (string_bytes said)) (sym (meant e)) told
  ])

-- ---- the faults

of_mapped : {X Y : Type 0} (f : X → Y) (r : Result X IoFault) (fault : IoFault) → map_ok f r ≡ Err fault → r ≡ Err fault
of_mapped f (Ok written) fault e = absurd (cc)
of_mapped f (Err other) fault e = cc

pub checked_bad : (bytes : List ℕ) (fault : IoFault) → either_scenario bytes ≡ Err fault → IsBadInput fault
checked_bad bytes fault e = by_kind (kind_in bytes) e where
  by_kind : (k : Kind) → scenario_of_kind k bytes ≡ Err fault → IsBadInput fault
  by_kind kind.Replay e = scenario_bad bytes fault (of_mapped replay_scenario (scenario bytes) fault e)
  by_kind kind.Run e = plan_bad bytes fault (of_mapped run_scenario (plan bytes) fault e)
