use Rattle.std.proofs.Common.{◌++◌, subst}
use Rattle.mencius_judge.specs.Taken.{Takes}
use Rattle.mencius_exports.proofs.JudgeSteps.{broken_with}
use Rattle.mencius_exports.proofs.log_judge.take_piece.Goals as goal

pub returns-in-Ok-Some : goal.returns-in-Ok-Some
returns-in-Ok-Some c =
    λ before taken rest.
    let bytes = before ++ c.args.bytes.now in
    broken_with (bytes ++ rest) c.in-Ok-Some.breach.value c.into_inner.result c.into_inner.ensures
    (subst (λ x. Takes bytes x c.take.new.self) c.in-Ok-Some.field-0-is (c.in-Ok-Some.ensures.taken before taken) rest)
