use Rattle.std.proofs.Common.{subst}
use Rattle.mencius_exports.specs.LiveJudges.{HasReadUpTo}
use Rattle.mencius_exports.proofs.JudgeSteps.{judged_at_end, right_with}
use Rattle.mencius_exports.proofs.log_judge.LogJudge.tell_end.Goals as goal

pub returns-in-Some : goal.returns-in-Some
returns-in-Some c =
    let old = c.args.self.now in
    let called = c.in-Some.called in
    λ bytes read. (called, right_with old bytes old.verdict called c.in-Some.is read, c.tell_texts.ensures)

pub returns-in-None : goal.returns-in-None
returns-in-None c =
    let old = c.args.self.now in
    let ended = c.end-judgement in
    λ bytes read. (
      c.report-called.result,
      c.report-called.ensures bytes
          (judged_at_end old.reader ended.result ended.ensures.kept ended.ensures.fault bytes
          (subst (HasReadUpTo old bytes) c.in-None.is read)),
      c.tell_texts-in-None.ensures,
    )
