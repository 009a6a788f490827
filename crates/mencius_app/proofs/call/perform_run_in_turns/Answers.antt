use Rattle.mencius_app.proofs.Words.{◌∙◌, false, refl, subst, sym}
use Rattle.mencius_app.specs.Calls.{EndsTask, task_with}
use Rattle.mencius_app.specs.Tasks.{streams}
use Rattle.mencius_app.proofs.inputs.TaskEnds.{no_board, task_done}
use Rattle.mencius_app.proofs.call.perform_run_in_turns.Goals as goal

pub returns : goal.returns
returns g c =
    let task = task_with c.args.options.now in
    let from = g.R.Source.state c.args.source.now in
    let read = c.read_turns-made in
    let written = c.deliver in
    record {
      ended = subst (EndsTask task (streams from (g.R.Source.state read.new.source) (g.W.Sink.state c.args.sink.now)
          (g.W.Sink.state written.new.sink))) (sym c.ending_of.ensures)
          (task_done g.W.Sink.state c.args.sink.now written.new.sink task from (g.R.Source.state read.new.source) false
          read.result written.result refl (rw c.as_deref-key.ensures.value at read.ensures.made) read.ensures.fault
          written.ensures.delivers written.ensures.unwritten);
      asked = (read.ensures.asked, written.ensures.tried);
      no_board = λ e. no_board false written.result (sym c.ending_of.ensures ∙ e);
    }
