use Rattle.std.proofs.Common.{◌≡◌, ◌<◌, None, option_map, option_copied, length, map, sym, ap, subst, ◌∙◌, arith}
use Rattle.std.proofs.lemmas.List.{length-map}
use Rattle.mencius_choices.specs.Order.{own_command}
use Rattle.mencius_choices.proofs.CommandOrder.{none_from, row_from-skip}
use Rattle.mencius_choices.proofs.order.find_in_row.Goals as goal

pub loop-server-preserved : goal.loop-server-preserved
loop-server-preserved c =
    let plan = c.args.plan.now in
    let s = c.loop-server.server in
    let none : c.own_command.result ≡ None =
    none_from c.own_command.result (sym c.is_some.ensures ∙ c.if-is_some.false) in
    let absent : own_command plan c.args.worker c.args.row s ≡ None = sym c.own_command.ensures.command
    ∙ ap (λ o. option_map (λ x. (s, x)) (option_copied o)) none in
    let lists = c.commands-lists.result.now in
    let inside : s < length (map (λ l. l.items) lists) =
    omega (arith, length-map lists (λ l. l.items), c.loop-server-test.true, c.commands-lists.ensures.few) in
    let there : s < length plan.commands = subst (λ xs. s < length xs) c.commands-lists.ensures.lists inside in
    c.loop-server.invariant ∙ row_from-skip plan c.args.worker c.args.row s there absent
