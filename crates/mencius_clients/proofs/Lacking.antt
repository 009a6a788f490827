-- Places in an order that contains each command once.
use Rattle.std.proofs.Common.{◌≡◌, ◌⊎◌, inl, inr, ℕ, zero, suc, true, false, List, [], ◌∷◌, ◌++◌, Some, length, slice_get, arith, sym, ap, ◌∙◌, ⊎_elim, append_assoc, length-append}
use Rattle.std.proofs.lemmas.Bool.{cases_Bool, or_cases, or_left, or_right}
use Rattle.mencius_base.specs.Command.{is_same_id}
use Rattle.mencius_base.specs.declared.command.CommandId.{CommandId}
use Rattle.mencius_judge.specs.Log.{has_id}
use Rattle.mencius_judge.proofs.observations.OrderSteps.{item_here}
use Rattle.mencius_judge.proofs.promises.Identities.{has_place, place_has}

abbrev pub IsOnce : List CommandId → Type 0
IsOnce order = (n m : ℕ) (id : CommandId) → slice_get order n ≡ Some id → slice_get order m ≡ Some id → n ≡ m

pub get_front : {A : Type 0} (xs ys : List A) (n : ℕ) (x : A) → slice_get xs n ≡ Some x → slice_get (xs ++ ys) n ≡ Some x
get_front [] ys n x e = absurd (cc)
get_front (z ∷ xs) ys zero x e = e
get_front (z ∷ xs) ys (suc n) x e = get_front xs ys n x e

-- what stands before an item lacks it
pub lacks : (order front middle back : List CommandId) (id : CommandId) → IsOnce order
    → order ≡ front ++ (middle ++ id ∷ back) → has_id front id ≡ false
lacks order front middle back id once e =
    ⊎_elim
    (λ (h : has_id front id ≡ true).
    let place = has_place front id h in
    let first : slice_get order place.0 ≡ Some id =
    ap (λ xs. slice_get xs place.0) e ∙ get_front front (middle ++ id ∷ back) place.0 id place.2 in
    let second : slice_get order (length (front ++ middle)) ≡ Some id =
    ap (λ xs. slice_get xs (length (front ++ middle))) (e ∙ sym (append_assoc front middle (id ∷ back)))
    ∙ item_here (front ++ middle) back id in
    let same = once place.0 (length (front ++ middle)) id first second in
    let less = place.1 in
    absurd (omega (arith, same, less, length-append front middle)))
    (λ (h : has_id front id ≡ false). h)
    (cases_Bool (has_id front id))

pub has_item : (order front back : List CommandId) (id : CommandId) → order ≡ front ++ id ∷ back → has_id order id ≡ true
has_item order front back id e =
    place_has order id (length front) (ap (λ xs. slice_get xs (length front)) e ∙ item_here front back id)

pub has_either : (xs ys : List CommandId) (id : CommandId) → has_id (xs ++ ys) id ≡ true
    → (has_id xs id ≡ true) ⊎ (has_id ys id ≡ true)
has_either [] ys id h = inr h
has_either (x ∷ xs) ys id h =
    elim (or_cases (is_same_id x id) (has_id (xs ++ ys) id) h) [
      | inl e ↦ inl (or_left (is_same_id x id) (has_id xs id) e)
      | inr later ↦ elim (has_either xs ys id later) [
        | inl e ↦ inl (or_right (is_same_id x id) (has_id xs id) e)
        | inr e ↦ inr e
      ]
    ]

pub has_front : (xs ys : List CommandId) (id : CommandId) → has_id xs id ≡ true → has_id (xs ++ ys) id ≡ true
has_front [] ys id h = absurd (cc)
has_front (x ∷ xs) ys id h =
    elim (or_cases (is_same_id x id) (has_id xs id) h) [
      | inl e ↦ or_left (is_same_id x id) (has_id (xs ++ ys) id) e
      | inr later ↦ or_right (is_same_id x id) (has_id (xs ++ ys) id) (has_front xs ys id later)
    ]

pub has_back : (xs ys : List CommandId) (id : CommandId) → has_id ys id ≡ true → has_id (xs ++ ys) id ≡ true
has_back [] ys id h = h
has_back (x ∷ xs) ys id h = or_right (is_same_id x id) (has_id (xs ++ ys) id) (has_back xs ys id h)

-- what both lists lack
pub lacks_back : (xs ys : List CommandId) (id : CommandId) → has_id (xs ++ ys) id ≡ false → has_id ys id ≡ false
lacks_back xs ys id none = ⊎_elim
    (λ (there : has_id ys id ≡ true). let both = has_back xs ys id there in absurd (cc))
    (λ (gone : has_id ys id ≡ false). gone)
    (cases_Bool (has_id ys id))

pub lacks_both : (xs ys : List CommandId) (id : CommandId) → has_id xs id ≡ false → has_id ys id ≡ false
    → has_id (xs ++ ys) id ≡ false
lacks_both xs ys id first second = ⊎_elim
    (λ (there : has_id (xs ++ ys) id ≡ true).
    elim (has_either xs ys id there) [ inl e ↦ absurd (cc) | inr e ↦ absurd (cc) ])
    (λ (gone : has_id (xs ++ ys) id ≡ false). gone)
    (cases_Bool (has_id (xs ++ ys) id))
