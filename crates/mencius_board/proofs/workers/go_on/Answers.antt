use Rattle.std.proofs.Common.{◌≡◌, sym, subst, ap, ◌∙◌}
use Rattle.mencius_choices.specs.Choices.{ChooserState, after_words, chooser_at}
use Rattle.mencius_board.specs.Turns.{TakesTurn}
use Rattle.mencius_board.proofs.runs.WorkerTurns.{turn_plan}
use Rattle.mencius_board.proofs.workers.go_on.Goals as goal

pub returns : goal.returns
returns g c =
    let before = c.args.board.now in let after = c.take_turn-answer.new.board in
    let d : ChooserState = c.take_turn-answer.new.chooser in
    let first : ChooserState = chooser_at c.args.plan.now c.args.progress in
    let last : ChooserState = chooser_at c.args.plan.now c.into_progress.result in
    let answer = c.take_turn-answer.result in
    let from : c.of-chooser.result ≡ first = c.of-chooser.ensures in
    let took : TakesTurn first d before after c.args.shows answer =
    subst (λ (y : ChooserState). TakesTurn y d before after c.args.shows answer) from c.take_turn-answer.ensures.turn in
    let plan : d.plan ≡ c.args.plan.now = turn_plan first d before took.board took.turned took.turn in
    let to : last ≡ d =
    ap (λ given. chooser_at given c.into_progress.result) (sym plan) ∙ c.into_progress.ensures in
    record {
      turn = subst (λ (y : ChooserState). TakesTurn first y before after c.args.shows answer) (sym to) took;
      drawn =
          ap (λ (y : ChooserState). y.drawing) to
          ∙ (c.take_turn-answer.ensures.drawn ∙ ap (λ (y : ChooserState). after_words y.drawing) from);
      fault = c.take_turn-answer.ensures.fault;
    }
