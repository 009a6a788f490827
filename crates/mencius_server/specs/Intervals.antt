-- Intervals of the instances that one server skipped.
use Rattle.std.specs.Prelude.{◌≡◌, ℕ, ◌+◌, ◌-◌, ◌<◌, ◌≤◌, Bool, false, List, [], ◌∷◌, nat_lt, nat_le, if◌then◌else◌, ◌&&◌, ◌||◌, max, min}
use Rattle.mencius_base.specs.Limits.{instance_count}
use Rattle.mencius_base.specs.Members.{Membership, first_owned, owner}
use Rattle.mencius_base.specs.Numbers.{Inst, ServerId}
use Rattle.mencius_server.specs.declared.skipped_intervals.Interval.{Interval}

-- Whether instance j is at least `first` and less than `stop`.
abbrev pub is_between : Inst → Inst → Inst → Bool
is_between first stop j = nat_le first j && nat_lt j stop

-- Whether instance j lies in one of the intervals.
abbrev pub is_in_any : List Interval → Inst → Bool
is_in_any [] j = false
is_in_any (r ∷ rs) j = is_between r.first r.stop j || is_in_any rs j

-- No interval is empty. The first interval begins at or above `low`, and each other interval begins above the `stop` of
-- the interval before it.
abbrev pub IsRising : Inst → List Interval → Type 0
IsRising low [] = Unit {0}
IsRising low (r ∷ rs) = (low ≤ r.first) × (r.first < r.stop) × IsRising (r.stop + 1) rs

-- Each interval begins and ends at an instance of server q, and ends at or below `top`.
abbrev pub IsOwned : Membership → ServerId → Inst → List Interval → Type 0
IsOwned m q top [] = Unit {0}
IsOwned m q top (r ∷ rs) = (owner m r.first ≡ q) × (owner m r.stop ≡ q) × (r.stop ≤ top) × IsOwned m q top rs

-- `rs` are intervals of instances that server q skipped. They are in rising order, begin and end at instances of q, and
-- end at most at q's first instance past 4,095.
pub record AreSkippedIntervals (m : Membership) (q : ServerId) (rs : List Interval) : Type 0 where
  pub rising : IsRising 0 rs
  pub owned : IsOwned m q (first_owned m q instance_count) rs

-- The intervals after another one is added. It is joined with all intervals that it overlaps or touches.
abbrev pub with_interval : List Interval → Inst → Inst → List Interval
with_interval [] first stop = record { first = first; stop = stop } ∷ []
with_interval (r ∷ rs) first stop =
    if nat_lt r.stop first then r ∷ with_interval rs first stop
    else (if nat_lt stop r.first then record { first = first; stop = stop } ∷ r ∷ rs
    else with_interval rs (min first r.first) (max stop r.stop))

-- The total length of the intervals. The length of an interval is its `stop` minus its `first`.
abbrev pub reach_of : List Interval → ℕ
reach_of [] = 0
reach_of (r ∷ rs) = (r.stop - r.first) + reach_of rs
