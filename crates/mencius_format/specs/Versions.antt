-- The numbers of the versions of a scenario. The code has the same numbers in `src/version.rt`.
use Rattle.std.specs.Prelude.{ℕ, ◌&&◌, Bool, nat_le, if◌then◌else◌}

-- the first version of a scenario
abbrev pub first_version : ℕ
first_version = 1

-- the newest version of a scenario
abbrev pub newest_version : ℕ
newest_version = 2

-- the number is a version of a scenario
abbrev pub is_version : ℕ → Bool
is_version number = nat_le first_version number && nat_le number newest_version

-- whether a scenario with this version number may contain a text that needs the version `needed`. A number that is not a
-- version allows the same texts as the first version
abbrev pub may_stand_in : ℕ → ℕ → Bool
may_stand_in needed number = nat_le needed (if is_version number then number else first_version)
