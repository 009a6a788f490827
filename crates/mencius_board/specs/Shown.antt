-- The rule of the value that readers enter, and the guarantee of its steps.
use Rattle.std.specs.Prelude.{ℕ, ◌≡◌, ◌<◌, ◌^◌, List, Option, Some, None, length}
use mathlib.Core.Option.{some}
use mathlib.Core.List.{IsPrefix}
use lib.ListN.{get_elem?}
use Rattle.mencius_board.specs.Marks.{MarkState, Origin, VersionState}

-- the mark m follows the mark that was seen. Both belong to the same log, and the commands that were seen are a prefix
-- of the commands of m. If no mark was seen, any m follows
abbrev pub Follows : Option MarkState → MarkState → Type 0
Follows None m = Unit {0}
Follows (Some old) m = (old.book ≡ m.book) × IsPrefix old.log m.log

-- the list has exactly the commands of its mark, and its length fits in a `u32`
pub record IsWhole (x : VersionState) : Type 0 where
  pub log_is : x.mark.log ≡ x.list
  pub limit : length x.list < 2 ^ 32

-- the identity of the board whose mark was seen, if a mark was seen
abbrev pub book_of : Option MarkState → Option Origin
book_of None = None
book_of (Some shown) = Some shown.book

-- the value is whole, and its mark follows the mark that any seat has seen
abbrev pub Keeps : VersionState → List (Option MarkState) → Type 0
Keeps x views = IsWhole x
    × ((seat : ℕ) (z : Option MarkState) → get_elem? views seat ≡ some z → Follows z x.mark)

-- the step saw the value y, which is whole, and wrote down its mark. That mark follows the mark that was seen before
abbrev pub Shows : Option MarkState → VersionState → VersionState → Option MarkState → Type 0
Shows old x y written = IsWhole y × (written ≡ Some y.mark) × Follows old y.mark
