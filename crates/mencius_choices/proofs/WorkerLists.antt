-- A list with an item for each of the first workers grows by one worker at a time.
use Rattle.std.proofs.Common.{◌≡◌, ℕ, ◌+◌, [], ◌∷◌, ◌++◌, map, refl, ap, sym, ◌∙◌, zero-add}
use Rattle.std.proofs.lemmas.List.FromFn.{map-range_with_len_more}
use Rattle.mencius_base.specs.Members.{numbers_below}

-- the list of no worker is empty
pub no_worker : {X : Type 0} (f : ℕ → X) → [] ≡ map f (numbers_below 0)
unfolding numbers_below
no_worker f = refl

-- the list of n workers and the item of the next worker are the list of n + 1 workers
pub one_worker : {X : Type 0} (f : ℕ → X) (n : ℕ) (x : X) → x ≡ f n → map f (numbers_below n) ++ x ∷ [] ≡ map f (numbers_below (n + 1))
unfolding numbers_below
one_worker f n x e = ap (λ y. map f (numbers_below n) ++ y ∷ []) e ∙ sym (map-range_with_len_more f 0 n n (zero-add n))
