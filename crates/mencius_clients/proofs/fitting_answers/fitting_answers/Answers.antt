use Rattle.std.proofs.Common.{reverse}
use Rattle.std.proofs.lemmas.Result.{IfOk-weaker}
use Rattle.mencius_clients.proofs.KeyParts.{fit_at}
use Rattle.mencius_clients.proofs.fitting_answers.fitting_answers.Goals as goal

pub returns : goal.returns
returns c =
    IfOk-weaker c.fitting_after.result _ _
    (λ answers all. fit_at c.args.key.now c.args.log.now c.args.line c.in-Some.id c.in-Some.ensures.0
    (reverse c.in_ok-lines.lines.items) c.in-Some.ensures.1 c.in_ok-lines.ensures answers.items all)
    c.fitting_after.ensures
