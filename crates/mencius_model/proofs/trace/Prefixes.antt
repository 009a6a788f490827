-- Prefixes of lists.
use Rattle.std.proofs.Common.{◌≡◌, ℕ, zero, suc, ◌≤◌, List, [], ◌∷◌, ◌++◌, take, length, refl, ap, sym, ◌∙◌, inl}
use Rattle.std.proofs.Common.{inr, ⊎_elim, arith, append_assoc, length-append}
use Rattle.std.proofs.lemmas.List.{append-nil}
use Rattle.mencius_model.specs.Executed.{IsComparable, IsPrefix}

pub prefix_self : {A : Type 0} (xs : List A) → IsPrefix xs xs
prefix_self xs = ([], append-nil xs)

pub prefix_empty : {A : Type 0} (xs : List A) → IsPrefix [] xs
prefix_empty xs = (xs, refl)

pub prefix_append : {A : Type 0} (xs ys : List A) → IsPrefix xs (xs ++ ys)
prefix_append xs ys = (ys, refl)

pub prefix_trans : {A : Type 0} (xs ys zs : List A) → IsPrefix xs ys → IsPrefix ys zs → IsPrefix xs zs
prefix_trans xs ys zs h prefix =
    (h.0 ++ prefix.0, sym (append_assoc xs h.0 prefix.0) ∙ (ap (λ l. l ++ prefix.0) h.1 ∙ prefix.1))

pub prefix_length : {A : Type 0} (xs ys : List A) → IsPrefix xs ys → length xs ≤ length ys
prefix_length xs ys h = omega (arith, sym (ap length h.1) ∙ length-append xs h.0)

-- One of two prefixes of a list is a prefix of the other.
pub prefix_either : {A : Type 0} (xs ys zs : List A) → IsPrefix xs zs → IsPrefix ys zs → IsComparable xs ys
prefix_either [] ys zs h prefix = inl (ys, refl)
prefix_either (x ∷ xs) [] zs h prefix = inr (x ∷ xs, refl)
prefix_either (x ∷ xs) (y ∷ ys) [] h prefix = absurd (cc (h.1))
prefix_either (x ∷ xs) (y ∷ ys) (z ∷ zs) h prefix =
    let heads : x ≡ y = cc (h.1, prefix.1) in
    ⊎_elim (λ (r : IsPrefix xs ys). inl (r.0, cc (heads, r.1))) (λ (r : IsPrefix ys xs). inr (r.0, cc (heads, r.1)))
    (prefix_either xs ys zs (h.0, cc (h.1)) (prefix.0, cc (prefix.1)))

-- A prefix that is as long as the whole list is the whole list.
pub prefix_whole : {A : Type 0} (xs ys : List A) → IsPrefix xs ys → length ys ≤ length xs → xs ≡ ys
prefix_whole [] [] h le = refl
prefix_whole [] (y ∷ ys) h le = absurd (omega arith)
prefix_whole (x ∷ xs) [] h le = absurd (cc (h.1))
prefix_whole (x ∷ xs) (y ∷ ys) h le =
    let rest = prefix_whole xs ys (h.0, cc (h.1)) (omega arith) in cc (h.1, rest)

-- If one of two lists is a prefix of the other, the shorter list is a prefix of the longer list.
pub shorter_begins : {A : Type 0} (xs ys : List A) → IsComparable xs ys → length xs ≤ length ys
    → IsPrefix xs ys
shorter_begins xs ys either le =
    ⊎_elim (λ (h : IsPrefix xs ys). h)
    (λ (h : IsPrefix ys xs). ([], append-nil xs ∙ sym (prefix_whole ys xs h le))) either

pub take_begins : {A : Type 0} (n : ℕ) (xs : List A) → IsPrefix (take n xs) xs
take_begins zero xs = (xs, refl)
take_begins (suc n) [] = ([], refl)
take_begins (suc n) (x ∷ xs) = let r = take_begins n xs in (r.0, ap (λ ys. x ∷ ys) r.1)
