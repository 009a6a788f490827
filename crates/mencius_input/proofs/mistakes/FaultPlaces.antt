-- A search through items or fields in order finds the first place with a fault.
use Rattle.std.proofs.Common.{◌≡◌, ◌<◌, ◌+◌, ◌∙◌, ◌&&◌, ℕ, Bool, true, false, not, cond, List, length, drop, get_or, ◌≤◌, is_some, option_map, Option, Some, None, Result, Err, refl, sym, ap}
use Rattle.std.specs.Option.{option_or}
use Rattle.std.specs.Float.{binary64, two_to}
use Rattle.std.specs.Float.Ieee.{le, of_bits}
use Rattle.std.specs.Prelude.{Float}
use Rattle.std.specs.Result.{result_err}
use Rattle.std.proofs.lemmas.List.{drop_all, drop_more}
use Rattle.serde_json.specs.Data.{Data, Num}
use Rattle.serde_json.specs.Find.{as_u64, to_float}
use Rattle.serde_json.specs.View.{items_view, view}
use Rattle.serde_json.specs.declared.value.Value.{Value}
use Rattle.mencius_io.specs.declared.fault.IoFault.{IoFault}
use Rattle.mencius_io.specs.declared.fault.IoFault.TheVariants.{BadShape}
use Rattle.mencius_input.specs.declared.kind.Kind.{Kind}
use Rattle.mencius_input.specs.declared.kind.Kind.TheVariants.{Replay, Run}
use Rattle.mencius_format.specs.Grammar.{may_stand_in, newest_version}
use Rattle.mencius_input.specs.declared.places.Place.{Place}
use Rattle.mencius_input.specs.Places.{PlaceState, first_of, is_great_number, item_fault, item_version, place_state}
use Rattle.mencius_input.specs.Plan.{command_said}
use Rattle.mencius_input.specs.Scenario.{item_said}
use Rattle.mencius_input.proofs.lists.VersionItems.{command_said_in, item_said_in}

fault_of : {X : Type 0} (stands : Bool) (r s : Result X IoFault) → cond stands r (Err BadShape) ≡ s
    → cond (not stands) (Some BadShape) (result_err r) ≡ result_err s
fault_of true r s e = ap result_err e
fault_of false r s e = ap result_err e

-- the fault of an item in a version is its fault in the newest version, or `BadShape` if the version does not allow it
pub item_fault_in : (kind : Kind) (version : ℕ) (d : Data)
    → cond (not (may_stand_in (item_version kind d) version)) (Some BadShape) (item_fault kind newest_version d)
    ≡ item_fault kind version d
item_fault_in Replay version d =
    fault_of (may_stand_in (item_version Replay d) version) (item_said newest_version d) (item_said version d)
    (item_said_in version d)
item_fault_in Run version d =
    fault_of (may_stand_in (item_version Run d) version) (command_said newest_version d) (command_said version d)
    (command_said_in version d)

-- a search from an index on examines the item at the index, and then the items after it
pub first_step : {X : Type 0} (ask : ℕ → Data → Option X) (values : List Value) (n : ℕ) (value : Value)
    → value ≡ get_or values n value → n < length values
    → first_of ask n (items_view (drop n values))
    ≡ option_or (ask n (view value)) (first_of ask (n + 1) (items_view (drop (n + 1) values)))
unfolding first_of
first_step ask values n value is less =
    ap (λ vs. first_of ask n (items_view vs)) (drop_more values n value less)
    ∙ ap (λ v. option_or (ask n (view v)) (first_of ask (n + 1) (items_view (drop (n + 1) values)))) (sym is)

module _ {X : Type 0} (ask : ℕ → Data → Option X) (values : List Value) (n : ℕ) where
  -- a search ends at an item that gives a result
  pub first_found : (value : Value) (x : X) → value ≡ get_or values n value → n < length values
      → ask n (view value) ≡ Some x → first_of ask n (items_view (drop n values)) ≡ Some x
  first_found value x is less found =
      first_step ask values n value is less
      ∙ ap (λ o. option_or o (first_of ask (n + 1) (items_view (drop (n + 1) values)))) found

  -- a search continues after an item that gives no result
  pub first_passed : (value : Value) → value ≡ get_or values n value → n < length values
      → ask n (view value) ≡ None
      → first_of ask n (items_view (drop n values)) ≡ first_of ask (n + 1) (items_view (drop (n + 1) values))
  first_passed value is less none =
      first_step ask values n value is less
      ∙ ap (λ o. option_or o (first_of ask (n + 1) (items_view (drop (n + 1) values)))) none

  -- a search finds no result if no items are left
  pub first_none : length values ≤ n → first_of ask n (items_view (drop n values)) ≡ None
  unfolding first_of
  first_none over = ap (λ vs. first_of ask n (items_view vs)) (drop_all n values over)

-- a place that is found here is the first place
pub place_first : (found : Option Place) (here behind : Option PlaceState) → is_some found ≡ true
    → option_map place_state found ≡ here → option_map place_state found ≡ option_or here behind
place_first None here behind some is = absurd cc
place_first (Some x) here behind some is = ap (λ o. option_or o behind) is

-- without a place here, the first place is the first place after it
pub place_behind : (found : Option Place) (here behind : Option PlaceState) → is_some found ≡ false
    → option_map place_state found ≡ here → option_or here behind ≡ behind
place_behind None here behind none is = ap (λ o. option_or o behind) (sym is)
place_behind (Some x) here behind none is = absurd cc

-- a number that is not a `u64` is too great exactly if it is at least 2 to the 64th as a float
pub great : (o : Option Num) (n : Num) (x : Float) → Some n ≡ o → None ≡ as_u64 n → x ≡ to_float n
    → le (of_bits binary64 4895412794951729152) x ≡ is_great_number o
unfolding le of_bits
great o n x some none is =
    ap (le (of_bits binary64 4895412794951729152)) is
    ∙ ap (λ whole. not (is_some whole) && le (two_to 64) (to_float n)) none
    ∙ ap is_great_number some

pub no_place : (o : Option Place) → is_some o ≡ false → o ≡ None
no_place None none = refl
no_place (Some x) none = absurd cc
