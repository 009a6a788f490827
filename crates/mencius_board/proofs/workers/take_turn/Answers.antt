use Rattle.mencius_board.specs.Turns.{TakesTurn}
use Rattle.mencius_board.proofs.runs.WorkerTurns.{turn_fault}
use Rattle.mencius_board.proofs.workers.take_turn.Goals as goal

pub returns : goal.returns
returns g c =
    let turn : TakesTurn c.args.chooser.now c.worker_turn-turned.new.chooser c.args.board.now c.show_after.new.board
    c.args.shows c.show_after.result = record {
      board = c.worker_turn-turned.new.board;
      turned = c.worker_turn-turned.result;
      turn = c.worker_turn-turned.ensures.turn;
      then_is = c.show_after.ensures;
    } in
    record {
      turn = turn;
      drawn = c.worker_turn-turned.ensures.drawn;
      fault = turn_fault c.args.chooser.now c.worker_turn-turned.new.chooser c.args.board.now c.show_after.new.board
          c.args.shows c.show_after.result turn;
    }
