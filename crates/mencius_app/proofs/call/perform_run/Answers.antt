use Rattle.mencius_app.proofs.Words.{◌∙◌, subst, sym}
use Rattle.mencius_app.specs.Calls.{EndsTask, task_with}
use Rattle.mencius_app.specs.Tasks.{streams}
use Rattle.mencius_app.proofs.inputs.TaskEnds.{board_of_run, run_ended}
use Rattle.mencius_app.proofs.call.perform_run.Goals as goal

pub returns : goal.returns
returns g c =
    let options = c.args.options.now in
    let ran = c.run_explained in
    let key = c.as_deref-key.ensures.value in
    let s = streams (g.R.Source.state c.args.source.now) (g.R.Source.state ran.new.source)
    (g.W.Sink.state c.args.sink.now) (g.W.Sink.state ran.new.sink) in
    record {
      ended = subst (EndsTask (task_with options) s) (sym c.ending_of_run.ensures)
          (run_ended options s ran.result (rw key at ran.ensures.done) (rw key at ran.ensures.fault));
      asked = (ran.ensures.asked.reader, ran.ensures.asked.tried);
      board = λ e. ran.ensures.board (board_of_run ran.result (sym c.ending_of_run.ensures ∙ e));
    }
