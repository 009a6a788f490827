use Rattle.std.proofs.Common.{◌∙◌, sym}
use Rattle.mencius_exports.proofs.JudgeSteps.{ended}
use Rattle.mencius_exports.proofs.mencius_judge_verdict.Goals as goal

pub returns-in-Some : goal.returns-in-Some
returns-in-Some c = (
  c.put_back.ensures.whole,
  c.put_back.ensures.put ∙ sym c.in-Some.ensures.found,
  ended c.args.judge.now.held.value c.in-Some.judging.value c.deref.result.now c.tell_end.new.answer
      c.args.printed.now c.tell_end.new.printed c.args.said.now c.tell_end.new.said c.in-Some.ensures.found
      c.deref.ensures c.tell_end.ensures,
)
