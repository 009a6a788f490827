use Rattle.std.specs.Prelude.{◌≡◌, length, vec_len}
use Rattle.std.proofs.Common.{sym, ◌∙◌}
use Rattle.mencius_board.proofs.runs.WorkerEnds.{come_to}
use Rattle.mencius_board.proofs.workers.run_workers.Goals as goal

pub returns : goal.returns
returns g c =
    let ended = c.in_ok-ends.ensures.1 in let ends = c.in_ok-ends.ends in
    let many : length ends.items ≡ c.args.plan.now.workers = sym ends.ok.0 ∙ ended.0 in
    let all =
    come_to c.args.plan.now ends.items (λ list. list.items) vec_len c.settle.result (λ list. list.ok.0) many ended.1
    c.settle.ensures in
    record { len = all.0; each = all.1; failed = all.2; fault = all.3 }
