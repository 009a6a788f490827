use Rattle.std.proofs.Common.{◌∙◌, Err, Ok, ap, refl, subst}
use Rattle.mencius_exports.specs.LiveJudges.{IsJudgement}
use Rattle.mencius_exports.proofs.JudgeSteps.{called_with}
use Rattle.mencius_exports.proofs.log_judge.print.Goals as goal

pub returns-in_ok-text-in-Ok : goal.returns-in_ok-text-in-Ok
returns-in_ok-text-in-Ok c =
    let ended = c.end_judgement in
    called_with (λ bytes. IsJudgement bytes c.args.judgement) ended.result (Ok c.is_kept.result)
    c.into_bytes.result.items c.args.is_brief c.args.is_json ended.ensures.status ended.ensures.printed
    ended.ensures.said ended.ensures.wants_nothing
    (λ bytes judged. record {
      verdict = c.in-Ok.verdict;
      on = (bytes, refl, subst (IsJudgement bytes) c.in-Ok.is judged);
      is = ap (λ b. b.items) c.into_bytes.ensures.value ∙ c.in_ok-text-in-Ok.ensures;
      says = c.is_kept.ensures;
    })

pub returns-in-Err : goal.returns-in-Err
returns-in-Err c =
    let ended = c.end_judgement-in-Err in
    called_with (λ bytes. IsJudgement bytes c.args.judgement) ended.result (Err c.in-Err.failure)
    c.new.result.items c.args.is_brief c.args.is_json ended.ensures.status ended.ensures.printed
    ended.ensures.said ended.ensures.wants_nothing
    (λ bytes judged. (subst (IsJudgement bytes) c.in-Err.is judged, c.new.ensures.items))
