use Rattle.std.proofs.Common.{◌≡◌}
use Rattle.mencius_choices.specs.Choices.{chooser_at, drawing_after, first_chooser}
use Rattle.mencius_board.specs.Workers.{TakesTurns}
use Rattle.mencius_board.proofs.workers.work.Given as goal

abbrev pub invariant-loop-turn : goal.invariant-loop-turn
invariant-loop-turn g l =
    (l.progress.drawing ≡ drawing_after l.plan.seed l.worker l.turn)
    × TakesTurns l.worker l.turn (first_chooser l.plan l.worker) (chooser_at l.plan l.progress)
