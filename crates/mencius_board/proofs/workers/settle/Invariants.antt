use Rattle.std.specs.Prelude.{◌≡◌, ◌+◌, ◌≤◌, vec_items, vec_len, vec_capacity}
use Rattle.std.specs.Vec.Iter.{into_iter_items, into_iter_len}
use Rattle.mencius_board.specs.Workers.{choosers_behind, choosers_or_fault}
use Rattle.mencius_board.proofs.workers.settle.Given as goal

abbrev pub invariant-loop-end : goal.invariant-loop-end
invariant-loop-end l =
    let rest = l.end-iterator in
    (vec_len l.choosers + into_iter_len rest ≤ vec_capacity l.choosers)
    × (choosers_or_fault l.plan l.fn.ends.items ≡ choosers_behind l.plan (vec_items l.choosers) (into_iter_items rest))
