-- The sorted commands are a linearization if the order of each key is right.
use Rattle.std.proofs.Common.{List, reverse, subst, sym, ap, ◌∙◌}
use Rattle.mencius_base.specs.declared.command.CommandId.{CommandId}
use Rattle.mencius_judge.specs.Linearization.{IsLinearization}
use Rattle.mencius_clients.specs.Locality.{ids_of}
use Rattle.mencius_clients.proofs.KeyOrderEntries.{merged_right}
use Rattle.mencius_clients.proofs.orders.merged_order.Goals as goal

pub returns : goal.returns
returns c = λ h.
    subst (λ (order : List CommandId). IsLinearization (reverse c.args.log.now) order)
    (sym (c.in_ok-order.ensures ∙ ap ids_of (c.as_slice.ensures.value ∙ c.in_ok-commands.ensures.commands)))
    (merged_right c.args.log.now c.args.search.now c.in_ok-commands.ensures.ordered h)
