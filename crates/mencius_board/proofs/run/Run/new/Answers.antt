use Rattle.std.proofs.Common.{subst}
use Rattle.mencius_board.specs.Boards.{BoardState}
use Rattle.mencius_board.specs.Runs.{IsRun}
use Rattle.mencius_board.proofs.runs.RunSteps.{begun}
use Rattle.mencius_board.proofs.run.Run.new.Goals as goal

pub invariant_of-result : goal.invariant_of-result
invariant_of-result g c =
    subst
    (λ (x : BoardState). IsRun g.J.Job.plan x c.args.board c.args.choosers.items c.args.ways.items c.args.turns)
    c.requires.first
    (begun g.J.Job.plan c.args.board c.args.choosers.items c.args.ways.items c.args.turns c.requires.turns
    c.requires.choosers c.requires.ways)
