use Rattle.mencius_app.proofs.Words.{refl, bytes_of}
use Rattle.mencius_app.specs.Calls.{call_streams, task_with}
use Rattle.mencius_app.specs.Tasks.{used}
use Rattle.mencius_app.proofs.inputs.TaskEnds.{task_called}
use Rattle.mencius_app.proofs.call.perform.Goals as goal

pub returns-in-Ended : goal.returns-in-Ended
returns-in-Ended g c = record { call = c.in-Ended.ensures.0 }

pub returns-in-Run : goal.returns-in-Run
returns-in-Run g c =
    let was = c.in-Run.ensures in
    let begun = c.begin.new in
    let ran = c.perform_run in
    let s = call_streams (used g.R.Source.state begun.source ran.new.source)
    (used g.W.Sink.state begun.sink ran.new.sink) (used g.E.Sink.state begun.errors begun.errors) in
    record {
      call = rw (← was.1, ← was.2, ← was.3) (task_called (bytes_of c.args.arguments.now) (task_with c.in-Run.options) s
          ran.result was.0 ran.ensures.ended ran.ensures.asked ran.ensures.board refl);
    }
