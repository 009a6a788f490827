-- A text is allowed in the version that introduced it and in the newest version.
use Rattle.std.proofs.Common.{◌≡◌, ℕ, ◌&&◌, Bool, true, false, cond, max, nat_le, refl, arith}
use Rattle.std.proofs.lemmas.Bool.{and_parts}
use Rattle.std.proofs.lemmas.Bool.Decides.{nat_tests}
use Rattle.mencius_format.specs.Versions.{first_version, is_version, may_stand_in, newest_version}

-- every version allows a text of the first version
pub first_stands : (number : ℕ) → may_stand_in first_version number ≡ true
first_stands number = by_tests (nat_le first_version number) (nat_le number newest_version) refl
  where
    by_tests : (a d : Bool) → nat_le first_version number ≡ a
        → nat_le first_version (cond (a && d) number first_version) ≡ true
    by_tests true true e = e
    by_tests true false e = refl
    by_tests false d e = refl

-- each version allows the texts that it introduced
pub stands_in_itself : (version : ℕ) → is_version version ≡ true → may_stand_in version version ≡ true
stands_in_itself version is = rw is (same version)
  where
    same : (n : ℕ) → nat_le n n ≡ true
    same n = grind (arith, nat_tests)

pub stands_in_newest : (version : ℕ) → is_version version ≡ true → may_stand_in version newest_version ≡ true
stands_in_newest version is = (and_parts (nat_le first_version version) (nat_le version newest_version) is).1

-- ---- the greater of two

-- a version allows the greater of two versions exactly if it allows both
pub both_stand : (needed other number : ℕ)
    → may_stand_in (max needed other) number ≡ (may_stand_in needed number && may_stand_in other number)
both_stand needed other number = below _
  where
    below : (n : ℕ) → nat_le (max needed other) n ≡ (nat_le needed n && nat_le other n)
    below n = grind (arith, nat_tests)

pub is_version_greater : (version other : ℕ) → is_version version ≡ true → is_version other ≡ true
    → is_version (max version other) ≡ true
is_version_greater version other is also = grind (arith, nat_tests)
