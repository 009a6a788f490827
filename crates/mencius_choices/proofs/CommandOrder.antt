-- A search from place to place finds a worker's commands in their order.
use Rattle.std.proofs.Common.{◌≡◌, ℕ, suc, ◌+◌, ◌-◌, ◌<◌, ◌≤◌, List, [], ◌∷◌, ◌++◌, Option, Some, None, is_some, false}
use Rattle.std.proofs.Common.{length, refl, sym, ap, ◌∙◌, arith, filter_map}
use Rattle.std.specs.List.{cons_option, flat_map, range_with_len}
use Rattle.mencius_base.specs.declared.command.Command.{Command}
use Rattle.mencius_choices.specs.declared.order.CommandPlace.{CommandPlace}
use Rattle.mencius_base.specs.Plan.{PlanState}
use Rattle.mencius_choices.specs.Order.{BeginsWith, IsNextPlace, after_place, from_to, own_command, row_count, row_from}
use Rattle.mencius_choices.specs.Order.{rows_from}
use Rattle.mencius_choices.specs.Choices.{left_at, behind_first}

from_to-more : (first stop : ℕ) → first < stop → from_to first stop ≡ first ∷ from_to (first + 1) stop
from_to-more first stop h =
    let one : stop - first ≡ suc (stop - (first + 1)) = omega arith in ap (range_with_len first) one

from_to-none : (first stop : ℕ) → stop ≤ first → from_to first stop ≡ []
from_to-none first stop h = let none : stop - first ≡ 0 = omega arith in ap (range_with_len first) none

-- the commands of a row from server p on are p's command, if there is one, and then the commands from p + 1 on
row_from-more : (plan : PlanState) (worker row p : ℕ) → p < length plan.commands
    → row_from plan worker row p ≡ cons_option (own_command plan worker row p) (row_from plan worker row (p + 1))
row_from-more plan worker row p h =
    ap (filter_map (own_command plan worker row)) (from_to-more p (length plan.commands) h)

pub row_from-none : (plan : PlanState) (worker row p : ℕ) → length plan.commands ≤ p → row_from plan worker row p ≡ []
row_from-none plan worker row p h =
    ap (filter_map (own_command plan worker row)) (from_to-none p (length plan.commands) h)

-- a server is skipped if the worker has no command at this row of its list
pub row_from-skip : (plan : PlanState) (worker row p : ℕ) → p < length plan.commands
    → own_command plan worker row p ≡ None → row_from plan worker row p ≡ row_from plan worker row (p + 1)
row_from-skip plan worker row p h none = row_from-more plan worker row p h
    ∙ ap (λ o. cons_option o (row_from plan worker row (p + 1))) none

pub row_from-first : (plan : PlanState) (worker row p : ℕ) (x : ℕ × Command) → p < length plan.commands
    → own_command plan worker row p ≡ Some x
    → row_from plan worker row p ≡ x ∷ row_from plan worker row (p + 1)
row_from-first plan worker row p x h some = row_from-more plan worker row p h
    ∙ ap (λ o. cons_option o (row_from plan worker row (p + 1))) some

-- the commands from a row on are the commands of that row, and then the commands of the later rows
pub rows_from-more : (plan : PlanState) (worker row : ℕ) → row < row_count plan.commands
    → rows_from plan worker row ≡ row_from plan worker row 0 ++ rows_from plan worker (row + 1)
rows_from-more plan worker row h =
    ap (flat_map (λ r. row_from plan worker r 0)) (from_to-more row (row_count plan.commands) h)

pub rows_from-none : (plan : PlanState) (worker row : ℕ) → row_count plan.commands ≤ row
    → rows_from plan worker row ≡ []
rows_from-none plan worker row h =
    ap (flat_map (λ r. row_from plan worker r 0)) (from_to-none row (row_count plan.commands) h)

-- a row without a command of the worker is skipped
pub rows_from-skip : (plan : PlanState) (worker row : ℕ) → row < row_count plan.commands
    → row_from plan worker row 0 ≡ [] → rows_from plan worker row ≡ rows_from plan worker (row + 1)
rows_from-skip plan worker row h none =
    rows_from-more plan worker row h ∙ ap (λ xs. xs ++ rows_from plan worker (row + 1)) none

-- a place that begins the first part of a list begins the whole list
pub led_more : (plan : PlanState) (worker : ℕ) (place : CommandPlace) (all rest more : List (ℕ × Command))
    → BeginsWith plan worker place all rest → BeginsWith plan worker place (all ++ more) (rest ++ more)
led_more plan worker place all rest more h =
    record { first = h.first; there = h.there; is = ap (λ xs. xs ++ more) h.is }

-- the commands left from a found place on are the whole list that was searched
pub left_found : (plan : PlanState) (worker : ℕ) (o : Option CommandPlace) (all : List (ℕ × Command))
    → IsNextPlace plan worker o all → left_at plan worker o ≡ all
left_found plan worker None all h = sym h
left_found plan worker (Some place) all h = ap (λ x. behind_first x (after_place plan worker place)) h.there ∙ sym h.is

-- the place of the first command of a row begins the list of that row and all later rows
pub led_row : (plan : PlanState) (worker : ℕ) (place : CommandPlace) (start row : ℕ) → row < row_count plan.commands
    → rows_from plan worker start ≡ rows_from plan worker row → place.row ≡ row
    → BeginsWith plan worker place (row_from plan worker row 0) (row_from plan worker row (place.server + 1))
    → BeginsWith plan worker place (rows_from plan worker start) (after_place plan worker place)
led_row plan worker place start row lt same at h = record {
  first = h.first;
  there = h.there;
  is = same
      ∙ (rows_from-more plan worker row lt
      ∙ (ap (λ xs. xs ++ rows_from plan worker (row + 1)) h.is
      ∙ ap (λ r. h.first ∷ (row_from plan worker r (place.server + 1) ++ rows_from plan worker (r + 1))) (sym at)));
}

pub none_from : {A : Type 0} (o : Option A) → is_some o ≡ false → o ≡ None
none_from None h = refl
none_from (Some x) h = absurd (cc)
