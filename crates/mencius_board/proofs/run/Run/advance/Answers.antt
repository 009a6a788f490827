use Rattle.std.proofs.Common.{◌≡◌, ◌<◌, ◌+◌, ◌∙◌, Ok, Err, ap, subst, sym, ℕ}
use Rattle.mencius_board.specs.Runs.{way_after}
use Rattle.mencius_board.specs.Turns.{TakesTurn, is_to_show}
use Rattle.mencius_board.proofs.runs.RunSteps.{turn_is_run, turned}
use Rattle.mencius_board.proofs.run.Run.advance.Goals as goal

pub invariant_of-self : goal.invariant_of-self
invariant_of-self g c =
    let seat : c.from-seat.result ≡ c.args.worker = c.from-seat.ensures in
    let seated : c.from-seat.result < g.J.Job.plan.workers =
    subst (λ (n : ℕ). n < g.J.Job.plan.workers) (sym seat) c.requires in
    turned g.J.Job.plan g.J.Job.first c.self.inside.board c.take_turn-answer.new.board c.self.inside.choosers.items
    c.index_mut.result.now c.take_turn-answer.new.chooser c.self.inside.ways.items c.self.inside.turns
    c.from-seat.result c.in-Ok.taken c.index.result.now (Ok (c.in-Ok.taken + 1)) c.is_to_show-shows.result
    c.take_turn-answer.result c.self.invariant seated c.index_mut.ensures.value c.index.ensures c.in-Ok.is
    (c.is_to_show-shows.ensures ∙ ap (λ (n : ℕ). is_to_show n c.in-Ok.taken) (sym seat))
    c.take_turn-answer.ensures.turn (ap (λ answer. way_after answer (Ok c.in-Ok.taken)) (sym c.in-Ok-answer.is)) tt

pub invariant_of-self-in-Err : goal.invariant_of-self-in-Err
invariant_of-self-in-Err g c =
    let seat : c.from-seat.result ≡ c.args.worker = c.from-seat.ensures in
    let seated : c.from-seat.result < g.J.Job.plan.workers =
    subst (λ (n : ℕ). n < g.J.Job.plan.workers) (sym seat) c.requires in
    let shows = c.is_to_show-shows.ensures ∙ ap (λ (n : ℕ). is_to_show n c.in-Ok.taken) (sym seat) in
    turned g.J.Job.plan g.J.Job.first c.self.inside.board c.take_turn-answer.new.board c.self.inside.choosers.items
    c.index_mut.result.now c.take_turn-answer.new.chooser c.self.inside.ways.items c.self.inside.turns
    c.from-seat.result c.in-Ok.taken c.index.result.now (Err c.in-Err.fault) c.is_to_show-shows.result
    c.take_turn-answer.result c.self.invariant seated c.index_mut.ensures.value c.index.ensures c.in-Ok.is shows
    c.take_turn-answer.ensures.turn (ap (λ answer. way_after answer (Ok c.in-Ok.taken)) (sym c.in-Err.is))
    (turn_is_run c.from-seat.result c.in-Ok.taken c.self.inside.turns c.is_to_show-shows.result c.in-Err.fault shows
    c.if-taken-self.false c.in-Err.ensures.fault)

pub returns-in-Ok-answer : goal.returns-in-Ok-answer
returns-in-Ok-answer g c =
    let old = c.index_mut.result.now in
    let new = c.take_turn-answer.new.chooser in
    let after = c.take_turn-answer.new.board in
    let from = subst (λ before. TakesTurn old new before after c.is_to_show-shows.result c.take_turn-answer.result)
    c.self.view_is c.take_turn-answer.ensures.turn in
    let turn = subst (λ shows. TakesTurn old new c.args.self.now after shows c.take_turn-answer.result)
    c.is_to_show-shows.ensures from in (
      old,
      new,
      c.in-Ok.taken,
      subst (λ answer. TakesTurn old new c.args.self.now after (is_to_show c.args.worker c.in-Ok.taken) answer)
          c.in-Ok-answer.is turn,
    )
