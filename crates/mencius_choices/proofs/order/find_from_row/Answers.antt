use Rattle.std.proofs.Common.{◌≡◌, ◌<◌, [], ap, subst, ◌∙◌}
use Rattle.mencius_choices.specs.Order.{row_count, row_from}
use Rattle.mencius_choices.proofs.CommandOrder.{led_row, rows_from-skip}
use Rattle.mencius_choices.proofs.order.find_from_row.Goals as goal

pub returns-in-Some : goal.returns-in-Some
returns-in-Some c =
    let plan = c.args.plan.now in
    let there : c.loop-at.at < row_count plan.commands = subst (λ n. c.loop-at.at < n)
    (c.count_rows-rows.ensures ∙ ap row_count c.commands-lists.ensures.lists) c.loop-at-test.true in
    led_row plan c.args.worker c.in-Some.place c.args.row c.loop-at.at there c.loop-at.invariant c.in-Some.ensures.row
    c.in-Some.ensures.led

pub loop-at-preserved : goal.loop-at-preserved
loop-at-preserved c =
    let plan = c.args.plan.now in
    let there : c.loop-at.at < row_count plan.commands = subst (λ n. c.loop-at.at < n)
    (c.count_rows-rows.ensures ∙ ap row_count c.commands-lists.ensures.lists) c.loop-at-test.true in
    let none : row_from plan c.args.worker c.loop-at.at 0 ≡ [] = c.in_default.ensures.led in
    c.loop-at.invariant ∙ rows_from-skip plan c.args.worker c.loop-at.at there none
