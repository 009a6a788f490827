-- A stable sort by moments gives the sorted list of the specification.
use Rattle.std.proofs.Common.{rules, ap, ◌∙◌}
use Rattle.std.proofs.lemmas.List.Sorted.{IsNonDecreasingBy-from_sort_by_key, answers_always}
use Rattle.mencius_clients.specs.declared.timed_command.TimedCommand.{TimedCommand}
use Rattle.mencius_clients.specs.KeyOrders.{sorted}
use Rattle.mencius_clients.proofs.KeyOrderSorting.{from_sort}
use Rattle.mencius_clients.proofs.orders.sorted_commands.Goals as goal

pub returns-clause-commands : goal.returns-clause-commands
returns-clause-commands c =
    from_sort c.in_ok-commands.commands.items c.sort_by_key.new.self.items
    (IsNonDecreasingBy-from_sort_by_key (λ (x : TimedCommand). x.moment) _ c.in_ok-sort_by_key.ensures.sorted
    (λ a r q k. search rules))
    (c.in_ok-sort_by_key.ensures.stable (λ (x : TimedCommand). x.moment)
    (answers_always _ _ _ (λ f a r q k. search rules)))
    ∙ ap sorted c.in_ok-commands.ensures.commands
