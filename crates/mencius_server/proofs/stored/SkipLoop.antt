-- A loop over slots counts the places that pass a test, one after the other.
use Rattle.std.proofs.Common.{◌≡◌, ℕ, ◌+◌, Bool, cond, sym}
use Rattle.std.specs.List.{count_by}
use Rattle.mencius_base.specs.Members.{numbers_below}
use Rattle.mencius_model.proofs.trace.NumberLists.{count_by-below_more, count_by-below_zero}

-- `count` is the number of places below i that pass the test.
pub record IsCountUpTo (test : ℕ → Bool) (i count : ℕ) : Type 0 where
  pub counted : count ≡ count_by test (numbers_below i)

pub count_none : (test : ℕ → Bool) → IsCountUpTo test 0 0
count_none test = record { counted = sym (count_by-below_zero test) }

pub count_more : (test : ℕ → Bool) (i count n : ℕ) → n ≡ cond (test i) 1 0 → IsCountUpTo test i count
    → IsCountUpTo test (i + 1) (count + n)
count_more test i count n here before = record {
  counted = rw (here, before.counted) (sym (count_by-below_more test i));
}
