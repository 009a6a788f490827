use Rattle.mencius_app.proofs.Words.{◌≡◌, arith, inl, inr, refl, rules, sym, false, true, kind_of, are_texts, bytes_of, line_of, task_in, task_state}
use Rattle.mencius_app.specs.Tasks.{used}
use Rattle.mencius_app.specs.Calls.{AsksFor, call_streams}
use Rattle.mencius_app.proofs.inputs.ArgumentAnswers.{answered}
use Rattle.mencius_app.proofs.inputs.TaskEnds.{asks_nothing, task_begun}
use Rattle.mencius_app.proofs.call.begin.Goals as goal

pub returns-in-Ok : goal.returns-in-Ok
returns-in-Ok g c =
    let arguments = bytes_of c.args.arguments.now in
    let task = task_state c.in-Ok.task in
    let texts : are_texts arguments ≡ true = cc in
    let asks : AsksFor arguments task = (texts, c.in-Ok.ensures.faults, sym c.in-Ok.ensures.task) in
    let s = call_streams (used g.R.Source.state c.args.source.now c.begin_task.new.source)
    (used g.W.Sink.state c.args.sink.now c.begin_task.new.sink)
    (used g.E.Sink.state c.args.errors.now c.args.errors.now) in
    task_begun arguments task s c.begin_task.result asks refl c.begin_task.ensures

pub returns-in-Err : goal.returns-in-Err
returns-in-Err g c =
    let arguments = bytes_of c.args.arguments.now in
    let texts : are_texts arguments ≡ true = cc in
    let answer = c.answer_command_line in
    let h = answer.ensures in (
      record {
        call = answered g.W.Sink.state arguments (kind_of c.in-Err.error) (g.R.Source.state c.args.source.now)
            c.args.sink.now answer.new.sink answer.result c.in-Err.ensures.faults texts h.done h.plain.0 h.plain.1
            h.misused h.fault h.tried;
        unread = λ _. refl;
        unwritten = λ either. elim either [ inl e ↦ (h.misused e).2 | inr e ↦ absurd (h.plain.1 e) ];
        complaint = λ refused. let told = h.complaint refused in (told.0, inr (texts, told.1), told.2);
        quiet = h.quiet;
      },
      h.plain.1,
    )

pub returns-then-not-are_texts : goal.returns-then-not-are_texts
returns-then-not-are_texts g c =
    let arguments = bytes_of c.args.arguments.now in
    let not_text : are_texts arguments ≡ false = cc in (
      record {
        call = record {
          done = λ e. absurd (cc);
          refused = λ e. absurd (cc);
          not_text = λ _. refl;
          mistaken = λ _. inl not_text;
          cause = tt;
          words = tt;
          board = λ e. absurd (cc);
          asked = (asks_nothing (task_in (line_of arguments)) (g.R.Source.state c.args.source.now), omega arith);
        };
        unread = λ _. refl;
        unwritten = λ _. refl;
        complaint = search rules;
        quiet = λ other. absurd (other refl);
      },
      λ e. absurd (cc),
    )
