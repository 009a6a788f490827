-- A property of all elements of a list carries over to the rest of the list, and to the list with another element.
use Rattle.std.proofs.Common.{◌≡◌, ℕ, zero, suc, ◌+◌, ◌<◌, List, [], ◌∷◌, ◌++◌, length, get_or, refl, subst, arith}
use Rattle.std.proofs.Common.{add-one}

-- a property of each element and its place holds for the first element, and for the others with their places
pub first_of : {A : Type 0} (P : ℕ → A → Type 0) (n m : ℕ) (xs rest : List A) (x : A) → xs ≡ x ∷ rest → m + 1 ≡ n
    → ((place : ℕ) (d : A) → place < n → P place (get_or xs place d))
    → P 0 x × ((place : ℕ) (d : A) → place < m → P (place + 1) (get_or rest place d))
first_of {A = A} P n m xs rest x e len all = (
  subst (λ (l : List A). P 0 (get_or l 0 x)) e (all 0 x (omega arith)),
  λ place d below.
      let h : P (place + 1) (get_or (x ∷ rest) (place + 1) d) =
      subst (λ (l : List A). P (place + 1) (get_or l (place + 1) d)) e (all (place + 1) d (omega arith)) in
      let same : get_or (x ∷ rest) (place + 1) d ≡ get_or rest place d = rw add-one refl in
      subst (λ (y : A). P (place + 1) y) same h,
)

-- a property of each element and its place also holds for the longer list, if it holds for the new last element
pub more_of : {A : Type 0} (P : ℕ → A → Type 0) (n : ℕ) (xs : List A) (x d : A)
    → ((n : ℕ) (d : A) → n < length xs → P n (get_or xs n d)) → P (length xs) x → n < length xs + 1
    → P n (get_or (xs ++ x ∷ []) n d)
more_of P zero [] x d all is below = is
more_of P (suc n) [] x d all is below = absurd (omega arith)
more_of P zero (y ∷ xs) x d all is below = all 0 d (omega arith)
more_of P (suc n) (y ∷ xs) x d all is below =
    more_of (λ l. P (suc l)) n xs x d (λ m e below. all (suc m) e (omega arith)) is (omega arith)
