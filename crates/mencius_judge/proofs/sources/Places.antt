-- Items and places of lists.
use Rattle.std.proofs.Common.{◌≡◌, inl, inr, ℕ, zero, suc, ◌<◌, List, [], ◌∷◌, ◌++◌, Option, Some, None, length, map, slice_get, arith, refl, ap, ⊎_elim, ◌≤◌, subst, get_or, sym, ◌∙◌}
use Rattle.std.specs.List.{Contains}
use Rattle.std.proofs.lemmas.Option.{slice_get-get_or, slice_get_within}
use Rattle.mencius_judge.proofs.observations.RowSteps.{at_end}
use Rattle.mencius_judge.proofs.promises.Logs.{contains_cons, contains_here, contains_later, contains_none}

pub same_some : {A : Type 0} {x y : A} → ◌≡◌ {A = Option A} (Some x) (Some y) → x ≡ y
same_some e = cc

pub none_some : {A : Type 0} {x : A} → ◌≡◌ {A = Option A} None (Some x) → ⊥
none_some e = cc

pub same_head : {A : Type 0} {x y : A} {xs ys : List A} → ◌≡◌ {A = List A} (x ∷ xs) (y ∷ ys) → x ≡ y
same_head e = cc

pub same_tail : {A : Type 0} {x y : A} {xs ys : List A} → ◌≡◌ {A = List A} (x ∷ xs) (y ∷ ys) → xs ≡ ys
same_tail e = cc

pub not_empty : {A : Type 0} {x : A} {xs : List A} → ◌≡◌ {A = List A} [] (x ∷ xs) → ⊥
not_empty e = cc

-- ---- lists with one more item

pub item_within : {A : Type 0} (xs : List A) (i : ℕ) (x : A) → slice_get xs i ≡ Some x → i < length xs
item_within xs i x e = slice_get_within xs i x e

-- a place before the last one has the same item in the shorter list
pub item_before : {A : Type 0} (xs : List A) (y : A) (i : ℕ) (x : A) → i < length xs
    → slice_get (xs ++ y ∷ []) i ≡ Some x → slice_get xs i ≡ Some x
item_before xs y i x less e =
    ⊎_elim (λ (r : slice_get xs i ≡ Some x). r)
    (λ (r : (i ≡ length xs) × (y ≡ x)). absurd (omega (arith, r.0, less)))
    (at_end xs y i x e)

pub item_there : {A : Type 0} (xs : List A) (i : ℕ) → i < length xs → (x : A) × (slice_get xs i ≡ Some x)
item_there [] i less = absurd (omega arith)
item_there (x ∷ xs) zero less = (x, refl)
item_there (x ∷ xs) (suc i) less = item_there xs i (omega arith)

-- an item at a place splits the list there
pub split_at : {A : Type 0} (xs : List A) (i : ℕ) (x : A) → slice_get xs i ≡ Some x
    → (front : List A) × (back : List A) × (xs ≡ front ++ x ∷ back) × (length front ≡ i)
split_at [] i x e = absurd (none_some e)
split_at (y ∷ xs) zero x e = ([], xs, ap (λ z. z ∷ xs) (same_some e), refl)
split_at (y ∷ xs) (suc i) x e =
    let r = split_at xs i x e in (y ∷ r.0, r.1, ap (λ zs. y ∷ zs) r.2, ap suc r.3)

-- what a read of a list gave is an item of an equal list
pub read_item : {A : Type 0} (xs ys : List A) (i : ℕ) (x : A) → i < length xs → x ≡ get_or xs i x → xs ≡ ys
    → slice_get ys i ≡ Some x
read_item xs ys i x less is same =
    ap (λ zs. slice_get zs i) (sym same) ∙ slice_get-get_or xs i x less ∙ ap Some (sym is)

pub read_past : {A : Type 0} (xs ys : List A) (i : ℕ) → length xs ≤ i → xs ≡ ys → length ys ≤ i
read_past xs ys i past same = subst (λ zs. length zs ≤ i) same past

-- ---- items anywhere in a list

pub contains_middle : {A : Type 0} (xs : List A) (x : A) (ys : List A) → Contains (xs ++ x ∷ ys) x
contains_middle [] x ys = contains_here x ys x refl
contains_middle (z ∷ xs) x ys = contains_later z (xs ++ x ∷ ys) x (contains_middle xs x ys)

pub contains_map : {A B : Type 0} (f : A → B) (xs : List A) (x : A) → Contains xs x → Contains (map f xs) (f x)
contains_map f [] x h = absurd (contains_none x h)
contains_map f (y ∷ xs) x h =
    elim (contains_cons y xs x h) [
      | inl e ↦ (0, omega arith, ap f e)
      | inr later ↦ contains_later (f y) (map f xs) (f x) (contains_map f xs x later)
    ]

-- an item has a place, and an item at a place is in the list
pub place_of_item : {A : Type 0} (xs : List A) (x : A) → Contains xs x → (i : ℕ) × (slice_get xs i ≡ Some x)
place_of_item [] x h = absurd (contains_none x h)
place_of_item (y ∷ xs) x h =
    elim (contains_cons y xs x h) [
      | inl e ↦ (0, ap Some e)
      | inr later ↦ let r = place_of_item xs x later in (suc r.0, r.1)
    ]

pub item_contained : {A : Type 0} (xs : List A) (i : ℕ) (x : A) → slice_get xs i ≡ Some x → Contains xs x
item_contained [] i x e = absurd (none_some e)
item_contained (y ∷ xs) zero x e = (0, omega arith, same_some e)
item_contained (y ∷ xs) (suc i) x e = contains_later y xs x (item_contained xs i x e)
