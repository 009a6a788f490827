use Rattle.std.proofs.Common.{◌≡◌, ap, sym, ◌∙◌}
use Rattle.mencius_choices.specs.Choices.{ChooserState, after_words, chooser_at, first_chooser}
use Rattle.mencius_choices.proofs.DrawnWords.{first_is, turn_more}
use Rattle.mencius_board.proofs.runs.WorkerTurns.{one_more}
use Rattle.mencius_board.proofs.workers.work.Goals as goal

pub loop-turn-init : goal.loop-turn-init
loop-turn-init g c =
    let from = c.into_progress-progress.ensures ∙ c.new.ensures in (
      ap (λ (x : ChooserState). x.drawing) from ∙ first_is c.args.plan.now.seed c.args.worker,
      ap (λ y. chooser_at y c.into_progress-progress.result) (sym (ap (λ (x : ChooserState). x.plan) c.new.ensures))
          ∙ from,
    )

pub loop-turn-preserved : goal.loop-turn-preserved
loop-turn-preserved g c =
    let post : c.lend-next.result.0.drawing
    ≡ after_words c.loop-turn.progress.drawing = c.lend-next.ensures.2.met.1 in (
      post ∙ (ap after_words c.loop-turn.invariant.0 ∙ turn_more c.args.plan.now.seed c.args.worker c.loop-turn.turn),
      one_more c.args.worker c.loop-turn.turn (first_chooser c.args.plan.now c.args.worker)
          (chooser_at c.args.plan.now c.loop-turn.progress) (chooser_at c.args.plan.now c.lend-next.result.0)
          c.lend-next.ensures.2.shown.now c.lend-next.ensures.2.left.now c.is_to_show-shows.result c.lend-next.result.1
          c.loop-turn.invariant.1 c.lend-next.ensures.2.met.0 c.is_to_show-shows.ensures c.in_ok-answer.was,
    )
