-- Intervals of learned instances of one server, which suspicions record when they pass them.
use Rattle.std.specs.Prelude.{◌≡◌, ◌<◌, ◌≤◌, Bool, false, List, slice_index_or}
use Rattle.mencius_base.specs.Limits.{greatest_front, instance_count}
use Rattle.mencius_base.specs.Members.{Membership, owner}
use Rattle.mencius_base.specs.Numbers.{Inst}

-- The end of the interval that is known to begin at instance i, or 0 if no interval is known to begin there.
abbrev pub interval_end : List Inst → Inst → Inst
interval_end ends i = slice_index_or ends i 0

-- Each interval ends at an instance of the server that owns its first instance, and at most at 4,102. None of this
-- server's instances in the interval is open.
pub record AreLearnedIntervals (m : Membership) (opens : Inst → Bool) (ends : List Inst) : Type 0 where
  pub own : (i : Inst) → i < interval_end ends i → owner m (interval_end ends i) ≡ owner m i
  pub near : (i : Inst) → interval_end ends i ≤ greatest_front
  pub closed : (i j : Inst) → i ≤ j → j < interval_end ends i → owner m j ≡ owner m i → j < instance_count
      → opens j ≡ false
