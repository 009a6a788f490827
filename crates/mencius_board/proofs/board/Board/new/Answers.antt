use Rattle.std.proofs.Common.{◌≡◌, ℕ, List, [], ◌∙◌, ap, ap₂, arith}
use Rattle.mencius_base.specs.declared.command.Command.{Command}
use Rattle.mencius_cluster.specs.State.{ClusterState}
use Rattle.mencius_board.specs.Marks.{MarkState, VersionState}
use Rattle.mencius_board.specs.Boards.{BoardState, new_board}
use Rattle.mencius_board.proofs.BoardInvariant.{sound_new}
use Rattle.mencius_board.proofs.board.Board.new.Goals as goal

pub invariant_of-result : goal.invariant_of-result
invariant_of-result g c =
    sound_new _ c.new-log.result c.mark-opening.result _ _ _
    (record {
      some_server = omega (arith, c.servers.ensures.some, c.servers.ensures.count);
      replays = c.replays.ensures;
      grows = c.growth.ensures.commands;
    })
    c.new-log.ensures c.mark-opening.ensures c.in_ok-writer.ensures.seen c.in_ok-writer.ensures.shown
    c.in_ok-writer.ensures.pending

empty_board : (x : ClusterState) (log opening : MarkState) (shown : VersionState) (pending : List Command) (places : ℕ)
    → log.log ≡ [] → opening ≡ log → shown ≡ record { mark = opening; list = opening.log } → pending ≡ []
    → ◌≡◌ {A = BoardState}
    (record { book = log.book; cluster = x; shown = shown.list; pending = pending; places = places })
    (new_board log.book x places)
empty_board x log opening shown pending places empty same is none =
    ap₂ (λ list pending. record { book = log.book; cluster = x; shown = list; pending = pending; places = places })
    (ap (λ (s : VersionState). s.list) is ∙ (ap (λ (m : MarkState). m.log) same ∙ empty)) none

pub returns-clause-board : goal.returns-clause-board
returns-clause-board g c =
    empty_board c.args.cluster c.new-log.result c.mark-opening.result _ _ c.args.readers c.new-log.ensures
    c.mark-opening.ensures c.in_ok-writer.ensures.shown c.in_ok-writer.ensures.pending
