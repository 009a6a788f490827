-- The number of instances where a new skipped interval is news follows from the added length.
use Rattle.std.proofs.Common.{◌≡◌, ℕ, ◌+◌, ◌*◌, ◌/◌, ◌<◌, ◌≤◌, Bool, true, false, ◌&&◌, ◌||◌, not, List, Option, eqb, sym, ◌∙◌, ap, arith, inl, inr}
use Rattle.std.specs.Prelude.{nat_le, nat_lt}
use Rattle.std.specs.List.{count_by}
use Rattle.std.proofs.Math.Nat.{mul-div_cancel_left}
use Rattle.std.proofs.lemmas.Bool.{cases_Bool, and_left, and_parts, and_right, leb-true, ltb-true}
use Rattle.mencius_base.specs.Members.{numbers_below, first_owned, instances, owner}
use Rattle.mencius_model.proofs.trace.NumberLists.{instances-below}
use Rattle.coord_paxos.specs.SlotState.{SlotState}
use Rattle.mencius_server.specs.Intervals.{IsOwned, IsRising, is_between, is_in_any, reach_of, with_interval}
use Rattle.mencius_server.specs.Slots.{is_in, is_learned, is_learned_before, stored_at}
use Rattle.mencius_server.specs.Instances.{is_newly_skipped_in}
use Rattle.mencius_server.specs.declared.skipped_intervals.Interval.{Interval}
use Rattle.mencius_server.specs.declared.owned_interval.OwnedInterval.{OwnedInterval}
use Rattle.mencius_server.proofs.intervals.IntervalCounts.{bit, count_covered, count_split}
use Rattle.mencius_server.proofs.stored.InstanceGaps.{count_gap}
use Rattle.mencius_model.proofs.trace.Lists.{eqb_swap}
use Rattle.mencius_server.proofs.stored.SkipLoop.{count_none}
use Rattle.mencius_server.proofs.intervals.RisingIntervals.{in_any_with_interval, owned_with_interval, rising_with_interval}
use Rattle.mencius_base.specs.Limits.{instance_count}

more_or_old : (a d : Bool) → bit (a || d) ≡ bit a + bit (d && not a)
more_or_old true true = omega arith
more_or_old true false = omega arith
more_or_old false true = omega arith
more_or_old false false = omega arith

-- Whether an instance of the interval's server lies in the new interval and in no earlier interval.
abbrev is_fresh : OwnedInterval → List Interval → ℕ → Bool
is_fresh a rs j = eqb (owner a.members j) a.server && (is_between a.first a.stop j && not (is_in_any rs j))

-- An instance that is covered after the interval is added was covered before or is fresh, and not both.
covered_split : (a : OwnedInterval) (rs : List Interval) (j : ℕ)
    → bit (eqb (owner a.members j) a.server && is_in_any (with_interval rs a.first a.stop) j)
    ≡ bit (eqb (owner a.members j) a.server && is_in_any rs j) + bit (is_fresh a rs j)
covered_split a rs j = go (eqb (owner a.members j) a.server)
  where
    go : (o : Bool)
        → bit (o && is_in_any (with_interval rs a.first a.stop) j) ≡ bit (o && is_in_any rs j)
        + bit (o && (is_between a.first a.stop j && not (is_in_any rs j)))
    go true = rw (in_any_with_interval rs a.first a.stop j) (more_or_old (is_in_any rs j) (is_between a.first a.stop j))
    go false = omega arith

-- A fresh instance was learned before or is newly skipped, and not both.
fresh_split : (a : OwnedInterval) (rs : List Interval) (ss : List (Option SlotState)) (j : ℕ)
    → bit (is_fresh a rs j) ≡ bit (is_learned_before a rs ss j) + bit (is_newly_skipped_in a rs ss j)
fresh_split a rs ss j =
    ap (λ (o : Bool). bit (o && (is_between a.first a.stop j && not (is_in_any rs j))))
    (eqb_swap (owner a.members j) a.server)
    ∙ split (eqb a.server (owner a.members j)) (nat_le a.first j) (nat_lt j a.stop) (is_in_any rs j)
    (is_learned (stored_at ss j))
  where
    split : (o d x y e : Bool)
        → bit (o && ((d && x) && not y)) ≡ bit (((o && d) && x) && (not y && e))
        + bit (((o && d) && x) && (not y && not e))
    split true true true true e = omega arith
    split true true true false true = omega arith
    split true true true false false = omega arith
    split true true false y e = omega arith
    split true false x y e = omega arith
    split false d x y e = omega arith

-- The added length, divided by the number of servers, is the number of fresh instances that were learned before plus
-- the number of newly skipped instances.
pub news_count : (a : OwnedInterval) (rs : List Interval) (ss : List (Option SlotState)) (further learned_before : ℕ)
    → a.server < a.members.count → owner a.members a.first ≡ a.server → owner a.members a.stop ≡ a.server
    → a.first < a.stop → a.stop ≤ first_owned a.members a.server instance_count → IsRising 0 rs
    → IsOwned a.members a.server (first_owned a.members a.server instance_count) rs
    → further + reach_of rs ≡ reach_of (with_interval rs a.first a.stop)
    → learned_before ≡ count_by (is_learned_before a rs ss) instances
    → further / a.members.count ≡ learned_before + count_by (is_newly_skipped_in a rs ss) instances
news_count a rs ss further learned_before member own_a own_b some low rising owned reach learned_before_is =
    let m = a.members in
    let q = a.server in
    let now = count_covered m q instance_count 0 (with_interval rs a.first a.stop) member
    (rising_with_interval 0 rs a.first a.stop (omega arith) some rising)
    (owned_with_interval m q (first_owned m q instance_count) rs a.first a.stop own_a own_b low owned) in
    let old = count_covered m q instance_count 0 rs member rising owned in
    let more = count_split (λ j. eqb (owner m j) q && is_in_any (with_interval rs a.first a.stop) j)
    (λ j. eqb (owner m j) q && is_in_any rs j) (is_fresh a rs) instance_count (λ j l. covered_split a rs j) in
    let split = count_split (is_fresh a rs) (is_learned_before a rs ss) (is_newly_skipped_in a rs ss) instance_count
    (λ j l. fresh_split a rs ss j) in
    let all = ap (λ x. m.count * x) more in
    let is : further ≡ m.count * count_by (is_fresh a rs) (numbers_below instance_count) =
    omega (
      arith,
      now,
      old,
      all,
      reach,
      distribute m.count (count_by (λ j. eqb (owner m j) q && is_in_any rs j) (numbers_below instance_count))
          (count_by (is_fresh a rs) (numbers_below instance_count)),
    ) in
    ap (λ x. x / m.count) is ∙ mul-div_cancel_left (count_by (is_fresh a rs) (numbers_below instance_count)) (omega arith)
    ∙ split
    ∙ ap (λ x. x + count_by (is_newly_skipped_in a rs ss) (numbers_below instance_count))
    (ap (count_by (is_learned_before a rs ss)) (sym instances-below) ∙ sym learned_before_is)
    ∙ ap (λ xs. learned_before + count_by (is_newly_skipped_in a rs ss) xs) (sym instances-below)
  where
    distribute : (n x y : ℕ) → n * (x + y) ≡ n * x + n * y
    distribute n x y = grind arith

-- An interval that was covered before is news at no instance.
pub old_news : (a : OwnedInterval) (rs : List Interval) (ss : List (Option SlotState))
    → ((j : ℕ) → a.first ≤ j → j < a.stop → is_in_any rs j ≡ true)
    → 0 ≡ count_by (is_newly_skipped_in a rs ss) instances
old_news a rs ss covered =
    (count_gap (is_newly_skipped_in a rs ss) 0 instance_count 0 (omega arith) (λ j low high. none j)
    (count_none _)).counted
    ∙ ap (count_by (is_newly_skipped_in a rs ss)) (sym instances-below)
  where
    none : (j : ℕ) → is_newly_skipped_in a rs ss j ≡ false
    none j = elim (cases_Bool (is_in a j)) [
      | inl e ↦
          let parts = and_parts _ _ e in
          let from = leb-true a.first j (and_parts _ _ parts.0).1 in
          let to = ltb-true j a.stop parts.1 in
          and_right _ _ (and_left _ _ (ap not (covered j from to)))
      | inr e ↦ and_left _ _ e
    ]
