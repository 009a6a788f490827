use Rattle.std.proofs.Common.{◌++◌, ◌∙◌, sym}
use Rattle.mencius_exports.proofs.JudgeSteps.{taken_with, taken_without}
use Rattle.mencius_exports.proofs.log_judge.LogJudge.take.Goals as goal

pub returns-then-is_some-clause-taken : goal.returns-then-is_some-clause-taken
returns-then-is_some-clause-taken c =
    let old = c.args.self.now in
    λ before read.
    taken_with old before c.args.bytes.now old.verdict (sym c.if-is_some.true ∙ c.is_some.ensures) read

pub returns-in-Some-clause-taken : goal.returns-in-Some-clause-taken
returns-in-Some-clause-taken c =
    let old = c.args.self.now in
    λ before read rest.
    c.report.ensures ((before ++ c.args.bytes.now) ++ rest)
    (c.in-Some.ensures before (taken_without old before old.verdict (sym c.if-is_some.false ∙ c.is_some.ensures) read) rest)
