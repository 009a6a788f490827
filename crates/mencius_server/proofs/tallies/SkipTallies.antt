-- The tally of a server stays right when no-op is learned at the instances of an interval.
use Rattle.std.proofs.Common.{◌≡◌, ℕ, ◌+◌, ◌<◌, ◌≤◌, Bool, true, false, ◌&&◌, not, min, refl, sym, ◌∙◌, ap, arith, ⊎_elim}
use Rattle.std.specs.Prelude.{is_none}
use Rattle.std.specs.List.{count_by}
use Rattle.std.proofs.lemmas.Bool.{cases_eq, cases_lt, eq-eqb, ne_eqb}
use Rattle.mencius_base.specs.Members.{numbers_below, owner}
use Rattle.mencius_model.proofs.trace.NumberLists.{count_by-below_le}
use Rattle.coord_paxos.specs.SlotState.{SlotState}
use Rattle.mencius_server.specs.Intervals.{is_between}
use Rattle.mencius_server.specs.Slots.{is_in, slot_after_skip_in}
use Rattle.mencius_server.specs.Tallies.{IsTally, IsTallyFrom, is_open_of, is_spent_of, tally_difference}
use Rattle.mencius_server.specs.declared.owned_interval.OwnedInterval.{OwnedInterval}
use Rattle.mencius_server.specs.declared.tally.Tally.{Tally}
use Rattle.mencius_server.proofs.intervals.IntervalCounts.{bit, count_same, count_split, count_within}
use Rattle.mencius_server.proofs.stored.SkipStored.{learned_noop}
use Rattle.mencius_server.proofs.intervals.RisingIntervals.{within_before, within_past}
use Rattle.mencius_server.specs.Machine.{is_spent}

-- If the places of an interval no longer pass a test, its count falls by the number of these places that passed it.
count_after_skip : (test r : ℕ → Bool) (first stop n end count some : ℕ) → first ≤ stop → first ≤ n → end ≡ min stop n
    → some + count_by test (numbers_below first) ≡ count_by test (numbers_below end) → count ≡ count_by test (numbers_below n)
    → ((j : ℕ) → j < n → r j ≡ (test j && not (is_between first stop j)))
    → count_by r (numbers_below n) + some ≡ count
count_after_skip test r first stop n end count some order low at some_is count_is rest =
    let low_is : min n first ≡ first = omega arith in
    let high_is : min n stop ≡ end = omega (arith, at) in
    let within : count_by (λ j. test j && is_between first stop j) (numbers_below n) + count_by test (numbers_below first)
    ≡ count_by test (numbers_below end) = rw (low_is, high_is) at (count_within test first stop n order) in
    let split = count_split test (λ j. test j && is_between first stop j) (λ j. test j && not (is_between first stop j))
    n
    (λ j l. both (test j) (is_between first stop j)) in
    let same = count_same r (λ j. test j && not (is_between first stop j)) n rest in
    omega (arith, within, split, same, some_is, count_is)
  where
    both : (a d : Bool) → bit a ≡ bit (a && d) + bit (a && not d)
    both true true = omega arith
    both true false = omega arith
    both false d = omega arith

and-false : (a : Bool) → (a && false) ≡ false
and-false true = refl
and-false false = refl

and-true : (a : Bool) → (a && true) ≡ a
and-true true = refl
and-true false = refl

module _ (a : OwnedInterval) (f : ℕ → SlotState) where
  abbrev after : ℕ → SlotState
  after j = slot_after_skip_in a j (f j)

  in_own : (j : ℕ) → owner a.members j ≡ a.server → is_in a j ≡ is_between a.first a.stop j
  in_own j own = rw (eq-eqb a.server (owner a.members j) (sym own)) refl

  -- After the call, an instance is open exactly if it was open before and lies outside the interval.
  after_skip_open : (j : ℕ) → is_open_of a.members after a.server j
      ≡ (is_open_of a.members f a.server j && not (is_between a.first a.stop j))
  after_skip_open j =
      ⊎_elim
      (λ (own : owner a.members j ≡ a.server).
      let e = eq-eqb (owner a.members j) a.server own in
      rw e (go (is_between a.first a.stop j) (in_own j own)))
      (λ (other : owner a.members j ≡ a.server → ⊥).
      rw (ne_eqb (owner a.members j) a.server other) refl)
      (cases_eq (owner a.members j) a.server)
    where
      go : (d : Bool) → is_in a j ≡ d → is_none (after j).learned ≡ (is_none (f j).learned && not d)
      go true e = rw e (learned_noop (f j) ∙ sym (and-false (is_none (f j).learned)))
      go false e = rw e (sym (and-true (is_none (f j).learned)))

  after_skip_spent : (j : ℕ) → is_spent_of a.members after a.server j
      ≡ (is_spent_of a.members f a.server j && not (is_between a.first a.stop j))
  after_skip_spent j = ap (λ bit. bit && is_spent a.members (after j)) (after_skip_open j) ∙ ⊎_elim
      (λ (own : owner a.members j ≡ a.server).
      go (is_open_of a.members f a.server j) (is_between a.first a.stop j) (in_own j own))
      (λ (other : owner a.members j ≡ a.server → ⊥).
      rw (ne_eqb (owner a.members j) a.server other) refl)
      (cases_eq (owner a.members j) a.server)
    where
      go : (o d : Bool) → is_in a j ≡ d
          → ((o && not d) && is_spent a.members (after j)) ≡ ((o && is_spent a.members (f j)) && not d)
      go true true e = sym (and-false (is_spent a.members (f j)))
      go true false e = rw e (sym (and-true (is_spent a.members (f j))))
      go false d e = refl

  -- If no place of the interval is below the end of the tally, the tally stays as it was.
  pub less_none : (y : Tally) → min a.stop y.stop ≤ a.first → IsTally a.members f a.server y
      → IsTally a.members after a.server y
  less_none y none h = record {
    small = h.small;
    open_count = h.open_count ∙ count_same (is_open_of a.members f a.server) (is_open_of a.members after a.server)
        y.stop (λ j l. sym (after_skip_open j ∙ ap (λ bit. is_open_of a.members f a.server j && not bit) (out j l)
        ∙ and-true (is_open_of a.members f a.server j)));
    spent_count = h.spent_count ∙ count_same (is_spent_of a.members f a.server) (is_spent_of a.members after a.server)
        y.stop (λ j l. sym (after_skip_spent j ∙ ap (λ bit. is_spent_of a.members f a.server j && not bit) (out j l)
        ∙ and-true (is_spent_of a.members f a.server j)));
  }
    where
      out : (j : ℕ) → j < y.stop → is_between a.first a.stop j ≡ false
      out j l =
          ⊎_elim (λ (before : j < a.first). within_before a.first a.stop j before)
          (λ (from : a.first ≤ j). within_past a.first a.stop j (omega (arith, none)))
          (cases_lt j a.first)

  -- If a place of the interval is below the end of the tally, the tally loses the counts of the interval below that
  -- end.
  pub less_some : (y some : Tally) → a.first < min a.stop y.stop → some.stop ≡ min a.stop y.stop
      → IsTallyFrom a.members f a.server a.first some → IsTally a.members f a.server y
      → IsTally a.members after a.server (tally_difference y some)
  less_some y some order at counted h =
      let order_open : a.first ≤ a.stop = omega arith in
      let low : a.first ≤ y.stop = omega arith in
      let opens = count_after_skip (is_open_of a.members f a.server) (is_open_of a.members after a.server) a.first
      a.stop
      y.stop some.stop y.open_count some.open_count order_open low at counted.open_count h.open_count
      (λ j l. after_skip_open j) in
      let spent = count_after_skip (is_spent_of a.members f a.server) (is_spent_of a.members after a.server) a.first
      a.stop
      y.stop some.stop y.spent_count some.spent_count order_open low at counted.spent_count h.spent_count
      (λ j l. after_skip_spent j) in
      record { small = h.small; open_count = omega (arith, opens); spent_count = omega (arith, spent) }

  -- The counts of the interval are at most the counts of the tally.
  pub less_fits : (y some : Tally) → a.first < min a.stop y.stop → some.stop ≡ min a.stop y.stop
      → IsTallyFrom a.members f a.server a.first some → IsTally a.members f a.server y
      → (some.open_count ≤ y.open_count) × (some.spent_count ≤ y.spent_count)
  less_fits y some order at counted h =
      let below_end : some.stop ≤ y.stop = omega (arith, at) in (
        omega (
          arith,
          counted.open_count,
          h.open_count,
          count_by-below_le (is_open_of a.members f a.server) some.stop y.stop below_end,
        ),
        omega (
          arith,
          counted.spent_count,
          h.spent_count,
          count_by-below_le (is_spent_of a.members f a.server) some.stop y.stop below_end,
        ),
      )
