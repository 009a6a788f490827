use Rattle.std.proofs.Common.{◌≡◌, map, take}
use Rattle.mencius_choices.specs.Order.{row_count}
use Rattle.mencius_choices.proofs.order.count_rows.Given as goal

abbrev pub invariant-loop-list : goal.invariant-loop-list
invariant-loop-list l = l.most ≡ row_count (map (λ x. x.items) (take l.list-index l.lists))
