use Rattle.std.proofs.Common.{◌++◌, ◌∙◌, ap, codes, string_bytes}
use Rattle.std.proofs.lemmas.Result.{on_ok_weaker}
use Rattle.mencius_verdict.specs.VerdictJson.{text_field}
use Rattle.mencius_verdict.proofs.verdict_json.push_promise.Goals as goal

pub returns : goal.returns
returns c =
    on_ok_weaker c.write.result
    (λ h. h ∙ ap (λ p. string_bytes c.args.text.now ++ text_field (codes "promise") p) c.promise_name-promise.ensures)
    c.write.ensures.bytes
