use Rattle.std.proofs.Common.{ap, sym, slice_get, ◌∙◌}
use Rattle.mencius_clients.proofs.SoundSteps.{one_of_more}
use Rattle.mencius_clients.proofs.steps.push_better.Goals as goal

pub returns-clause-within : goal.returns-clause-within
returns-clause-within c d one =
    one_of_more c.args.best.now.configurations.items c.args.new d
    (one.0, sym (ap (λ xs. slice_get xs one.0) c.in_ok-push.ensures) ∙ one.1)
