use Rattle.mencius_app.proofs.Words.{refl, bytes_of}
use Rattle.mencius_app.specs.Calls.{call_streams, task_with}
use Rattle.mencius_app.specs.Tasks.{used}
use Rattle.mencius_app.proofs.inputs.TaskEnds.{task_called}
use Rattle.mencius_app.proofs.call.perform_in_turns.Goals as goal

pub returns-in-Ended-clause-call : goal.returns-in-Ended-clause-call
returns-in-Ended-clause-call g c = c.in-Ended.ensures.0

pub returns-in-Ended-clause-no_board : goal.returns-in-Ended-clause-no_board
returns-in-Ended-clause-no_board g c = c.in-Ended.ensures.1

pub returns-in-Run-clause-call : goal.returns-in-Run-clause-call
returns-in-Run-clause-call g c =
    let was = c.in-Run.ensures in
    let begun = c.begin.new in
    let ran = c.perform_run_in_turns in
    let s = call_streams (used g.R.Source.state begun.source ran.new.source)
    (used g.W.Sink.state begun.sink ran.new.sink) (used g.E.Sink.state begun.errors begun.errors) in
    rw (← was.1, ← was.2, ← was.3) (task_called (bytes_of c.args.arguments.now) (task_with c.in-Run.options) s
    ran.result was.0 ran.ensures.ended ran.ensures.asked (λ e. absurd (ran.ensures.no_board e)) refl)
