use Rattle.std.proofs.Common.{subst}
use Rattle.mencius_exports.specs.LiveJudges.{TakesPiece}
use Rattle.mencius_exports.proofs.JudgeSteps.{took}
use Rattle.mencius_exports.proofs.mencius_judge_take.Goals as goal

pub returns-in-Some : goal.returns-in-Some
returns-in-Some c =
    let piece = c.args.bytes.now in
    let next = c.take.new.self in (
      c.put_back.ensures.whole,
      took piece c.args.judge.now.held.value c.put_back.new.judge.held.value c.in-Some.judging.value next
          c.deref.result.now c.tell_verdict.new.answer c.args.printed.now c.tell_verdict.new.printed c.args.said.now
          c.tell_verdict.new.said c.in-Some.ensures.found c.put_back.ensures.put
          (subst (λ old. TakesPiece piece old next) c.deref_mut.ensures.value (record {
            keeps = record {
              brief = c.take.ensures.brief;
              json = c.take.ensures.json;
              verdict = c.take.ensures.kept;
            };
            taken = c.take.ensures.taken;
          }))
          c.deref.ensures c.tell_verdict.ensures,
    )
