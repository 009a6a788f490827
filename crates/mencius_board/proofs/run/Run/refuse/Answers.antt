use Rattle.std.proofs.Common.{◌≡◌, ◌<◌, subst, sym, ℕ}
use Rattle.mencius_board.proofs.runs.RunSteps.{refused}
use Rattle.mencius_board.proofs.run.Run.refuse.Goals as goal

pub invariant_of-self : goal.invariant_of-self
invariant_of-self g c =
    let seat : c.from-seat.result ≡ c.args.worker = c.from-seat.ensures in
    let seated : c.from-seat.result < g.J.Job.plan.workers =
    subst (λ (n : ℕ). n < g.J.Job.plan.workers) (sym seat) c.requires in
    refused g.J.Job.plan g.J.Job.first c.self.inside.board c.self.inside.choosers.items c.self.inside.ways.items
    c.self.inside.turns c.from-seat.result c.index.result.now c.is_ok.result c.self.invariant seated c.index.ensures
    c.is_ok.ensures.value c.if-is_ok.true
