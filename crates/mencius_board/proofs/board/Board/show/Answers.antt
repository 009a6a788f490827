use Rattle.std.specs.Prelude.{◌≡◌, [], Some}
use Rattle.std.proofs.Common.{rules, drop, ap, ◌∙◌}
use Rattle.left_right.specs.Sides.{view}
use Rattle.mencius_board.specs.Marks.{MarkState, mark_of}
use Rattle.mencius_board.specs.Pending.{added_commands}
use Rattle.mencius_board.specs.Shown.{book_of}
use Rattle.mencius_board.specs.Boards.{longest_of}
use Rattle.mencius_board.proofs.BoardInvariant.{sound_handed, sound_shown}
use Rattle.mencius_board.proofs.board.Board.show.Goals as goal

pub invariant_of-self-2 : goal.invariant_of-self-2
invariant_of-self-2 g c =
    let now = c.replace_with.new.dest in
    let mark : MarkState = c.mark-mark.result in
    let same : mark ≡ c.record.new.log = search rules in
    let whole : c.record.new.log.log ≡ c.in_ok-list.list.items = search rules in
    let all : c.in_ok-list.list.items ≡ longest_of c.self.inside.cluster = search rules in
    let opening : c.self.inside.opening ≡ mark_of c.record.new.log.book [] = search rules in
    let shown : now.desk.shown.value ≡ record { mark = mark; list = mark.log } = search rules in
    let none : added_commands (drop now.behind now.log.items) ≡ [] = search rules in
    let seen : book_of (view now.desk.place) ≡ Some mark.book = search rules in
    let was = c.hand_over.new.writer in
    sound_shown c.self.inside.cluster c.record.new.log c.self.inside.opening mark (view now.desk.place)
    now.desk.shown.value (drop now.behind now.log.items) c.hand_over.new.handed c.in_ok-list.list.items
    was.desk.shown.value.list (drop was.behind was.log.items) c.self.invariant.steady opening same whole all
    (search rules) (search rules) shown none seen

pub returns-clause-shown : goal.returns-clause-shown
returns-clause-shown g c = search rules

pub invariant_of-self : goal.invariant_of-self
invariant_of-self g c =
    sound_handed c.self.inside.cluster c.self.inside.log c.self.inside.opening _ _ _ _ _ _ _ _ c.as_slice.result.now
    (ap (λ d. view d.place) c.hand_over.ensures.desk) (ap (λ d. d.shown.value) c.hand_over.ensures.desk)
    c.hand_over.ensures.handed (c.as_slice.ensures.value ∙ c.in_ok-list.ensures.list) c.self.invariant
