use Rattle.std.proofs.Common.{subst, IfOk}
use Rattle.mencius_cluster.specs.State.{IsStepped}
use Rattle.mencius_board.specs.Boards.{BoardState}
use Rattle.mencius_board.proofs.SteppedBoard.{answer_grows}
use Rattle.mencius_board.proofs.BoardInvariant.{sound_grows}
use Rattle.mencius_board.proofs.board.Board.step.Goals as goal

pub invariant_of-self : goal.invariant_of-self
invariant_of-self c =
    let x = c.self.inside.cluster in
    let y = c.step.new.self in
    sound_grows x y _ _ _ _ _ _ (answer_grows x y c.args.event c.step.result c.self.invariant.steady
    c.step.ensures.effect c.step.ensures.err) c.self.invariant

pub returns-clause-effect : goal.returns-clause-effect
returns-clause-effect c =
    subst (λ (s : BoardState). IfOk c.step.result (IsStepped s.cluster c.step.new.self c.args.event)) c.self.view_is
    c.step.ensures.effect
