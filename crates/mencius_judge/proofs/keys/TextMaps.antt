-- Changing one entry of a map by texts leaves the other entries unchanged.
use Rattle.std.proofs.Common.{◌≡◌, ◌≢◌, ℕ, true, false, cond, List, Option, None, OnOk, Result, Ok, Err, Global, String, refl, sym, ap, ◌∙◌, ⊎_elim, string_bytes}
use Rattle.std.specs.BTreeMap as tree
use Rattle.std.specs.BTreeMap.{BTreeMap, get_by_text, is_at}
use Rattle.std.specs.Map.{lookup}
use Rattle.std.specs.Ordering.{nat_cmp}
use Rattle.std.specs.Str.{bytes_eq}
use Rattle.std.specs.String.{string_cmp}
use Rattle.std.specs.Cmp.Lexicographic.{slice_cmp}
use Rattle.std.proofs.lemmas.Bool.{cases_Bool}
use Rattle.std.proofs.lemmas.Map.Text.{btree_map_updates_text}
use Rattle.std.proofs.lemmas.Slice.Eq.{bytes_eq-Decides}

pub other_bytes : (xs ys : List ℕ) → ys ≢ xs → bytes_eq xs ys ≡ false
other_bytes xs ys ne = ⊎_elim
    (λ (e : bytes_eq xs ys ≡ true). absurd (ne (sym ((bytes_eq-Decides xs ys).0 e))))
    (λ (e : bytes_eq xs ys ≡ false). e)
    (cases_Bool (bytes_eq xs ys))

pub same_bytes : (xs : List ℕ) → bytes_eq xs xs ≡ true
same_bytes xs = (bytes_eq-Decides xs xs).1 refl

-- an update does not change the entry of another text
pub text_elsewhere : {X : Type 0} (xs : List ℕ) (m n : BTreeMap (String Global) X) (y : Option X)
    → tree.UpdatesBy string_cmp (λ k. slice_cmp nat_cmp xs (string_bytes k)) m n y
    → (ys : List ℕ) → ys ≢ xs → get_by_text n ys ≡ get_by_text m ys
text_elsewhere xs m n y h ys ne =
    btree_map_updates_text xs m n y h ys
    ∙ ap (λ d. cond d y (get_by_text m ys)) (other_bytes xs ys ne)

pub no_text : {X : Type 0} (m : BTreeMap (String Global) X) (xs : List ℕ) → tree.IsEmpty m → get_by_text m xs ≡ None
no_text m xs e = ap (λ es. lookup (is_at (λ k. slice_cmp nat_cmp xs (string_bytes k))) es) e

-- if P implies Q, a result that satisfies P on `Ok` satisfies Q on `Ok`
pub on_ok : {X E : Type 0} {P Q : Type 0} (r : Result X E) → (P → Q) → OnOk r P → OnOk r Q
on_ok (Ok x) f h = f h
on_ok (Err e) f h = h

-- two facts about the value of a result give a third one
pub on_both : {X E : Type 0} {P Q R : Type 0} (r : Result X E) → (P → Q → R) → OnOk r P → OnOk r Q → OnOk r R
on_both (Ok x) f p q = f p q
on_both (Err e) f p q = p
