use Rattle.std.proofs.Common.{◌≡◌, ℕ, ◌<◌, ◌≤◌, get_or, replicate, ◌∙◌, ap, ⊎_elim, arith}
use Rattle.std.proofs.lemmas.Bool.{cases_lt}
use Rattle.std.proofs.lemmas.List.{get_or-replicate, get_or_past, length-replicate}
use Rattle.mencius_base.specs.Limits.{instance_count}
use Rattle.mencius_server.proofs.learned_intervals.LearnedIntervals.new.Goals as goal

-- A list of zeros gives 0 at every place, also past its end.
zeros : (n i : ℕ) → ◌≡◌ {A = ℕ} (get_or (replicate n 0) i 0) 0
zeros n i = ⊎_elim
    (λ (less : i < n). get_or-replicate n i 0 0 less)
    (λ (past : n ≤ i). get_or_past (replicate n 0) i 0 (omega (arith, length-replicate {A = ℕ} n 0, past)))
    (cases_lt i n)

pub returns : goal.returns
returns c = λ i. ap (λ xs. get_or xs i 0) (c.in_ok-vec.ensures.items_if_clones_equal (λ y same. same)) ∙ zeros instance_count i
