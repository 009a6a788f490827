-- The lines so far, and the lines of the steps that are left, are all lines.
use Rattle.std.proofs.Common.{◌+◌, ◌-◌, ◌++◌, length, arith, sym, ap, ◌∙◌}
use Rattle.mencius_clients.specs.KeyOrders.{lines_back}
use Rattle.mencius_clients.proofs.KeyOrderSteps.{back_ends, back_step}
use Rattle.mencius_clients.proofs.orders.lines_back.Goals as goal

pub returns-in_default : goal.returns-in_default
returns-in_default c =
    back_ends c.args.trail.now c.loop.lines.items _ _ c.loop.next (sym c.step_of.ensures ∙ c.in_default.is) c.loop.invariant

pub loop-preserved : goal.loop-preserved
loop-preserved c =
    ap (λ ls. ls ++ lines_back c.args.trail.now (length c.args.trail.now - (c.loop.counter + 1)) c.in-Some.step.before) c.in_ok-push.ensures.items
    ∙ back_step c.args.trail.now c.loop.lines.items _ _ (length c.args.trail.now - (c.loop.counter + 1)) c.loop.next
    c.in-Some.step (omega arith) (sym c.step_of.ensures ∙ c.in-Some.is) c.loop.invariant
