use Rattle.mencius_app.proofs.Words.{subst, sym, ◌∙◌, task_state}
use Rattle.mencius_app.specs.Calls.{EndsTask}
use Rattle.mencius_app.specs.Tasks.{streams}
use Rattle.mencius_app.proofs.inputs.TaskEnds.{no_board, task_done}
use Rattle.mencius_app.proofs.call.begin_task.Goals as goal

pub returns-in-Text : goal.returns-in-Text
returns-in-Text g c =
    let from = g.R.Source.state c.args.source.now in
    let to = g.R.Source.state c.read_task.new.source in
    let read = c.in-Text.ensures in
    let done = c.deliver.ensures in (
      subst (EndsTask (task_state c.args.task)
          (streams from to (g.W.Sink.state c.args.sink.now) (g.W.Sink.state c.deliver.new.sink)))
          (sym c.ending_of.ensures)
          (task_done g.W.Sink.state c.args.sink.now c.deliver.new.sink (task_state c.args.task) from to
          c.is_reporting-is_reported.result c.in-Text.made c.deliver.result c.is_reporting-is_reported.ensures
          read.0 read.1 done.delivers done.unwritten),
      (read.2, done.tried),
      λ e. no_board c.is_reporting-is_reported.result c.deliver.result (sym c.ending_of.ensures ∙ e),
    )
