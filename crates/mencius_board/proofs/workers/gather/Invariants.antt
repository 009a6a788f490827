use Rattle.std.specs.Prelude.{◌≡◌, ℕ, ◌+◌, ◌<◌, ◌≤◌, get_or, vec_items, vec_len, vec_capacity}
use Rattle.std.specs.Vec.Iter.{into_iter_items, into_iter_len}
use Rattle.mencius_board.specs.Workers.{Answers, HaveEnded}
use Rattle.mencius_board.proofs.workers.gather.Given as goal

abbrev pub invariant-loop-child : goal.invariant-loop-child
invariant-loop-child g l =
    let done = vec_len l.ends in let rest = l.child-iterator in
    (done + into_iter_len rest ≡ vec_len l.fn.running)
    × (vec_len l.fn.running ≤ vec_capacity l.ends)
    × ((n : ℕ) (d : _) → n < into_iter_len rest
    → Answers l.plan (done + n) (get_or (into_iter_items rest) n d))
    × HaveEnded (vec_items l.ends) l.plan done
