-- The rows of the servers that have a history, and how a line changes them.
use Rattle.std.specs.Prelude.{◌≡◌, ◌≢◌, ℕ, ◌+◌, List, [], ◌∷◌, ◌++◌, Option, Some, None, MatchOption, length, slice_get, unwrap_or}
use Rattle.std.specs.BTreeMap.{get}
use Rattle.std.specs.Ordering.{nat_cmp}
use Rattle.mencius_base.specs.Numbers.{ServerId}
use Rattle.mencius_judge.specs.declared.histories.Row.{Row}
use Rattle.mencius_judge.specs.declared.histories.Snapshot.{Snapshot}
use Rattle.mencius_judge.specs.declared.places.Places.{Places}

-- the place of a server in the list of rows, if it has a row. The map has the servers that are not in the table
abbrev pub server_place : Places → ServerId → Option ℕ
server_place places p = unwrap_or (slice_get places.table.items p) (get nat_cmp places.others p)

-- the number of commands of the row's server
abbrev pub row_count : Row → ℕ
row_count row = row.count

-- the row at a place, if there is one
abbrev pub row_at : List Row → Option ℕ → Option Row
row_at rows None = None
row_at rows (Some n) = slice_get rows n

-- the row of a server, if it has a history
abbrev pub row_of : Places → List Row → ServerId → Option Row
row_of places rows p = row_at rows (server_place places p)

-- the number of commands of a row, or 0 without a row
abbrev pub count_in : Option Row → ℕ
count_in None = 0
count_in (Some row) = row.count

-- the number of commands of the server's history
abbrev pub count_of : Places → List Row → ServerId → ℕ
count_of places rows p = count_in (row_of places rows p)

-- ---- changes

-- the server has this place, and each other server has the place that it had
pub record IsPlaced (p : ServerId) (n : ℕ) (places new_places : Places) : Type 0 where
  pub own : server_place new_places p ≡ Some n
  pub others : (q : ServerId) → p ≢ q → server_place new_places q ≡ server_place places q

-- the row has this count, this snapshot and these lines
pub record IsRow (count : ℕ) (snapshot : Option Snapshot) (lines : List ℕ) (row : Row) : Type 0 where
  pub count_is : row.count ≡ count
  pub snapshot_is : row.snapshot ≡ snapshot
  pub lines_are : row.lines.items ≡ lines

-- the server gets a row, which is the last one, and no other row changes
pub record IsAdded (p : ServerId) (count : ℕ) (snapshot : Option Snapshot) (lines : List ℕ) (places : Places)
    (rows : List Row) (new_places : Places) (new_rows : List Row) : Type 0 where
  pub row : Row
  pub is : IsRow count snapshot lines row
  pub rows_are : new_rows ≡ rows ++ row ∷ []
  pub place : IsPlaced p (length rows) places new_places

-- the row at this place gets one more command, by the execution in this line, and no other row changes
pub record IsAdvanced (line n : ℕ) (rows new_rows : List Row) : Type 0 where
  pub size : length new_rows ≡ length rows
  pub others : (m : ℕ) → m ≢ n → slice_get new_rows m ≡ slice_get rows m
  pub own : (old : Row) → slice_get rows n ≡ Some old
      → (new : Row) × (slice_get new_rows n ≡ Some new)
      × IsRow (old.count + 1) old.snapshot (old.lines.items ++ line ∷ []) new

-- the server executes a command in this line. A server without a history gets a row
abbrev pub IsFollowed : ℕ → ServerId → Places → List Row → Places → List Row → Type 0
IsFollowed line p places rows new_places new_rows =
    MatchOption (server_place places p) (IsAdded p 1 None (line ∷ []) places rows new_places new_rows)
    (λ n. (new_places ≡ places) × IsAdvanced line n rows new_rows)
