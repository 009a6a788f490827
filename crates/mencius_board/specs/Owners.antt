-- The invariant of a log's owner, and the mark that a prefix of a log gives.
use Rattle.std.specs.Prelude.{ℕ, ◌≡◌, List, length}
use Rattle.logbook.specs.Pages.{Book, Named, Nib, may_write}
use Rattle.mencius_board.specs.declared.shown_log.LogEntry.{LogEntry}
use Rattle.mencius_board.specs.Marks.{MarkState, mark_of}
use Rattle.mencius_board.specs.Rules.{commands_from, end_from, head_of, root_of}

-- the mark of the log that begins at the last root in `origin`, with the commands that this log has in `log`
abbrev pub mark_in : Book → List LogEntry → List LogEntry → MarkState
mark_in book origin log = mark_of (record { book = book; root = root_of origin }) (commands_from (root_of origin) log)

-- the owner of a log has the head of its book, and the pen of the cell where the log ends. The pen is the right to
-- bring that cell home, and so to add to the log. `count` is the number of commands in the log
pub record IsOwner (head : Named) (book : Book) (origin log : List LogEntry) (pen_book : Book) (nib : Nib) (count : ℕ)
    : Type 0 where
  pub head_is : head ≡ head_of book
  pub same_book : pen_book ≡ book
  pub may : nib.right ≡ may_write
  pub at_end : end_from (root_of origin) log ≡ nib.key
  pub many : count ≡ length (commands_from (root_of origin) log)
