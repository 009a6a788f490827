use Rattle.std.proofs.Common.{◌++◌, string_bytes, ap, append_assoc, ◌∙◌}
use Rattle.std.proofs.lemmas.Result.{on_ok_weaker}
use Rattle.mencius_verdict.specs.VerdictLines.{details_text, subject_text}
use Rattle.mencius_verdict.proofs.verdict_lines.push_violation.Goals as goal

pub returns : goal.returns
returns c =
    let old = string_bytes c.args.text.now in
    let subject = subject_text c.args.violation.now in
    let details = details_text c.args.violation.now in
    on_ok_weaker c.push_details.result
    (λ h. h ∙ ap (λ xs. xs ++ details) c.in_ok-push_subject.ensures ∙ append_assoc old subject details)
    c.push_details.ensures
