-- The rows of a judge stay right when a server gets commands.
use Rattle.std.proofs.Common.{◌≡◌, ◌≢◌, ◌⊎◌, inl, inr, ℕ, zero, suc, ◌+◌, ◌==◌, Bool, true, false, cond, List, [], ◌∷◌, ◌++◌, Option, Some, None, IsSome, length, map, option_map, slice_get, arith, refl, sym, subst, ap, ◌∙◌, ⊎_elim}
use Rattle.std.specs.List.{list_any}
use Rattle.std.proofs.lemmas.Bool.{cases_eq, eq-eqb, eqb-true, or_cases, or_left, or_right}
use Rattle.std.proofs.lemmas.List.{length-map, map-append}
use Rattle.std.proofs.lemmas.Option.{slice_get-map}
use Rattle.mencius_base.specs.Numbers.{ServerId}
use Rattle.mencius_base.specs.declared.command.CommandId.{CommandId}
use Rattle.mencius_judge.specs.declared.histories.Row.{Row}
use Rattle.mencius_judge.specs.declared.histories.Snapshot.{Snapshot}
use Rattle.mencius_judge.specs.declared.places.Places.{Places}
use Rattle.mencius_judge.specs.Log.{with_server}
use Rattle.mencius_judge.specs.Rows.{IsAdded, IsAdvanced, count_in, count_of, row_at, row_count, server_place}

-- ---- lists

pub end_of : {A : Type 0} (xs : List A) (x : A) → slice_get (xs ++ x ∷ []) (length xs) ≡ Some x
end_of [] x = refl
end_of (y ∷ xs) x = end_of xs x

-- an item of a list with another item at the end is an item of the list, or this last item
pub at_end : {A : Type 0} (xs : List A) (y : A) (n : ℕ) (x : A) → slice_get (xs ++ y ∷ []) n ≡ Some x
    → (slice_get xs n ≡ Some x) ⊎ ((n ≡ length xs) × (y ≡ x))
at_end [] y zero x e = inr (refl, cc)
at_end [] y (suc n) x e = absurd (cc)
at_end (z ∷ xs) y zero x e = inl e
at_end (z ∷ xs) y (suc n) x e = ⊎_elim (λ (r : slice_get xs n ≡ Some x). inl r)
    (λ (r : (n ≡ length xs) × (y ≡ x)). inr (ap suc r.0, r.1)) (at_end xs y n x e)

pub still_item : {A : Type 0} (xs ys : List A) (n : ℕ) (x : A) → slice_get xs n ≡ Some x → slice_get (xs ++ ys) n ≡ Some x
still_item [] ys n x e = absurd (cc)
still_item (z ∷ xs) ys zero x e = e
still_item (z ∷ xs) ys (suc n) x e = still_item xs ys n x e

-- each item is at one place of the list only
abbrev pub IsOnce : {A : Type 0} → List A → Type 0
IsOnce {A = A} xs = (n m : ℕ) (x : A) → slice_get xs n ≡ Some x → slice_get xs m ≡ Some x → n ≡ m

pub once_more : {A : Type 0} (xs : List A) (y : A) → IsOnce xs → ((n : ℕ) → slice_get xs n ≡ Some y → ⊥)
    → IsOnce (xs ++ y ∷ [])
once_more {A = A} xs y once absent n m x e f = by_places (at_end xs y n x e) (at_end xs y m x f)
  where
    by_places : (slice_get xs n ≡ Some x) ⊎ ((n ≡ length xs) × (y ≡ x))
        → (slice_get xs m ≡ Some x) ⊎ ((m ≡ length xs) × (y ≡ x)) → n ≡ m
    by_places (inl a) (inl d) = once n m x a d
    by_places (inl a) (inr d) = absurd (absent n (a ∙ ap Some (sym d.1)))
    by_places (inr a) (inl d) = absurd (absent m (d ∙ ap Some (sym a.1)))
    by_places (inr a) (inr d) = a.0 ∙ sym d.0

same_items : {A : Type 0} (xs ys : List A) → ((n : ℕ) → slice_get xs n ≡ slice_get ys n) → xs ≡ ys
same_items [] [] h = refl
same_items [] (y ∷ ys) h = let e : None ≡ Some y = h 0 in absurd (cc)
same_items (x ∷ xs) [] h = let e : Some x ≡ None = h 0 in absurd (cc)
same_items (x ∷ xs) (y ∷ ys) h =
    let first : Some x ≡ Some y = h 0 in
    let heads : x ≡ y = cc in
    let tails : xs ≡ ys = same_items xs ys (λ n. h (suc n)) in
    cc (heads, tails)

map_same : {A X : Type 0} (f g : A → X) (xs : List A) → ((n : ℕ) (x : A) → slice_get xs n ≡ Some x → f x ≡ g x)
    → map f xs ≡ map g xs
map_same f g [] h = refl
map_same f g (x ∷ xs) h =
    let heads : f x ≡ g x = h 0 x refl in
    let tails : map f xs ≡ map g xs = map_same f g xs (λ n y e. h (suc n) y e) in
    cc (heads, tails)

-- ---- the servers that have a history

pub is_listed : (servers : List ServerId) (p : ServerId) (n : ℕ) → slice_get servers n ≡ Some p
    → list_any (λ (q : ServerId). q == p) servers ≡ true
is_listed [] p n e = absurd (cc)
is_listed (q ∷ servers) p zero e =
    let same : q ≡ p = cc in or_left (q == p) (list_any (λ (q : ServerId). q == p) servers) (eq-eqb q p same)
is_listed (q ∷ servers) p (suc n) e =
    or_right (q == p) (list_any (λ (q : ServerId). q == p) servers) (is_listed servers p n e)

pub listed_place : (servers : List ServerId) (p : ServerId) → list_any (λ (q : ServerId). q == p) servers ≡ true
    → (n : ℕ) × (slice_get servers n ≡ Some p)
listed_place [] p h = absurd (cc)
listed_place (q ∷ servers) p h =
    elim (or_cases (q == p) (list_any (λ (q : ServerId). q == p) servers) h) [
      | inl e ↦ (0, ap Some (eqb-true q p e))
      | inr later ↦ let r = listed_place servers p later in (suc r.0, r.1)
    ]

pub with_server_none : (servers : List ServerId) (p : ServerId) (ids : List CommandId) → ids ≡ []
    → with_server servers p ids ≡ servers
with_server_none servers p ids e = ap (with_server servers p) e

-- a server that is listed stays where it is
pub with_server_same : (servers : List ServerId) (p : ServerId) (ids : List CommandId) (n : ℕ) → slice_get servers n ≡ Some p
    → with_server servers p ids ≡ servers
with_server_same servers p [] n e = refl
with_server_same servers p (id ∷ ids) n e =
    ap (λ d. cond d servers (servers ++ p ∷ [])) (is_listed servers p n e)

-- a server that is not listed gets the last place
pub with_server_new : (servers : List ServerId) (p : ServerId) (ids : List CommandId) → ids ≢ []
    → ((n : ℕ) → slice_get servers n ≡ Some p → ⊥) → with_server servers p ids ≡ servers ++ p ∷ []
with_server_new servers p [] ne absent = absurd (ne refl)
with_server_new servers p (id ∷ ids) ne absent =
    by_test (list_any (λ (q : ServerId). q == p) servers) refl
  where
    by_test : (d : Bool) → list_any (λ (q : ServerId). q == p) servers ≡ d
        → cond d servers (servers ++ p ∷ []) ≡ servers ++ p ∷ []
    by_test true e = let r = listed_place servers p e in absurd (absent r.0 r.1)
    by_test false e = refl

pub with_server_once : (servers : List ServerId) (p : ServerId) (ids : List CommandId) → IsOnce servers
    → IsOnce (with_server servers p ids)
with_server_once servers p [] once = once
with_server_once servers p (id ∷ ids) once = by_test (list_any (λ (q : ServerId). q == p) servers) refl
  where
    by_test : (d : Bool) → list_any (λ (q : ServerId). q == p) servers ≡ d → IsOnce (cond d servers (servers ++ p ∷ []))
    by_test true e = once
    by_test false e =
        once_more servers p once (λ n g. let there : list_any (λ (q : ServerId). q == p) servers ≡ true = is_listed servers p n g in (cc))

-- the other servers are listed as before
pub with_server_other : (servers : List ServerId) (p : ServerId) (ids : List CommandId) (n : ℕ) (q : ServerId)
    → slice_get (with_server servers p ids) n ≡ Some q → p ≢ q → slice_get servers n ≡ Some q
with_server_other servers p [] n q e ne = e
with_server_other servers p (id ∷ ids) n q e ne = by_test (list_any (λ (r : ServerId). r == p) servers) e
  where
    by_test : (d : Bool) → slice_get (cond d servers (servers ++ p ∷ [])) n ≡ Some q → slice_get servers n ≡ Some q
    by_test true g = g
    by_test false g = ⊎_elim (λ (r : slice_get servers n ≡ Some q). r)
        (λ (r : (n ≡ length servers) × (p ≡ q)). absurd (ne r.1)) (at_end servers p n q g)

-- ---- rows

-- each server with commands has a row, at its place among the servers. The row has the number of its commands
pub record AreRows (size : ServerId → ℕ) (servers : List ServerId) (places : Places) (rows : List Row) : Type 0 where
  pub lengths : map row_count rows ≡ map size servers
  pub there : (p : ServerId) (n : ℕ) → server_place places p ≡ Some n → slice_get servers n ≡ Some p
  pub known : (p : ServerId) → size p ≢ 0 → IsSome (server_place places p)

module _ (size : ServerId → ℕ) (servers : List ServerId) (places : Places) (rows : List Row)
    (h : AreRows size servers places rows) where
  count_at : (n : ℕ) (p : ServerId) → slice_get servers n ≡ Some p → option_map row_count (slice_get rows n) ≡ Some (size p)
  count_at n p e =
      sym (slice_get-map row_count rows n) ∙ ap (λ ns. slice_get ns n) h.lengths ∙ slice_get-map size servers n
      ∙ ap (option_map size) e

  pub row_there : (n : ℕ) (p : ServerId) → slice_get servers n ≡ Some p
      → (row : Row) × (slice_get rows n ≡ Some row) × (row.count ≡ size p)
  row_there n p e = by_row (slice_get rows n) refl (count_at n p e)
    where
      by_row : (o : Option Row) → slice_get rows n ≡ o → option_map row_count o ≡ Some (size p)
          → (row : Row) × (slice_get rows n ≡ Some row) × (row.count ≡ size p)
      by_row None is e = absurd (cc)
      by_row (Some row) is e = (row, is, cc)

  -- a server without a place has no command
  pub none_placed : (p : ServerId) → server_place places p ≡ None → size p ≡ 0
  none_placed p none = by_size (size p) refl
    where
      not_some : (o : Option ℕ) → o ≡ None → IsSome o → ⊥
      not_some None e some = cc
      not_some (Some n) e some = cc

      by_size : (n : ℕ) → size p ≡ n → size p ≡ 0
      by_size zero e = e
      by_size (suc n) e = absurd (not_some (server_place places p) none (h.known p (λ z. omega (arith, e, z))))

  -- the row of a server has the number of its commands
  pub counted : (p : ServerId) → count_of places rows p ≡ size p
  counted p = by_place (server_place places p) refl
    where
      by_place : (o : Option ℕ) → server_place places p ≡ o → count_of places rows p ≡ size p
      by_place None e = ap (λ o. count_in (row_at rows o)) e ∙ sym (none_placed p e)
      by_place (Some n) e =
          let r = row_there n p (h.there p n e) in
          ap (λ o. count_in (row_at rows o)) e ∙ ap count_in r.1 ∙ r.2

  pub rows_length : length rows ≡ length servers
  rows_length = sym (length-map rows row_count) ∙ ap length h.lengths ∙ length-map servers size

  pub rows_same : (new_size : ServerId → ℕ) → ((q : ServerId) → new_size q ≡ size q) → AreRows new_size servers places rows
  rows_same new_size same = record {
    lengths = h.lengths ∙ map_same size new_size servers (λ n q e. sym (same q));
    there = h.there;
    known = λ q ne. h.known q (λ z. ne (same q ∙ z));
  }

  module _ (new_size : ServerId → ℕ) (p : ServerId) (others : (q : ServerId) → p ≢ q → new_size q ≡ size q) where
    -- a server that was not listed gets the last row
    pub added : (count : ℕ) (snapshot : Option Snapshot) (lines : List ℕ) (new_places : Places) (new_rows : List Row)
        → ((n : ℕ) → slice_get servers n ≡ Some p → ⊥)
        → IsAdded p count snapshot lines places rows new_places new_rows → new_size p ≡ count
        → AreRows new_size (servers ++ p ∷ []) new_places new_rows
    added count snapshot lines new_places new_rows absent a size_is = record {
      lengths = ap (map row_count) a.rows_are ∙ map-append row_count rows (a.row ∷ [])
          ∙ ap (λ ns. ns ++ a.row.count ∷ []) (h.lengths ∙ map_same size new_size servers (λ n q e.
          sym (others q (λ same. absent n (e ∙ ap Some (sym same))))))
          ∙ ap (λ (n : ℕ). map new_size servers ++ n ∷ []) (a.is.count_is ∙ sym size_is)
          ∙ sym (map-append new_size servers (p ∷ []));
      there = λ q n e. ⊎_elim
          (λ (same : p ≡ q).
          let at : Some (length rows) ≡ Some n =
          sym a.place.own ∙ ap (server_place new_places) same ∙ e in
          let place : n ≡ length servers = (let m : length rows ≡ n = cc in sym m ∙ rows_length) in
          subst (λ (r : ServerId). slice_get (servers ++ p ∷ []) n ≡ Some r) same
          (ap (slice_get (servers ++ p ∷ [])) place ∙ end_of servers p))
          (λ (ne : p ≢ q). still_item servers (p ∷ []) n q
          (h.there q n (sym (a.place.others q ne) ∙ e)))
          (cases_eq p q);
      known = λ q more. ⊎_elim
          (λ (same : p ≡ q). some_is (server_place new_places q) (length rows)
          (ap (server_place new_places) (sym same) ∙ a.place.own))
          (λ (ne : p ≢ q). subst IsSome (sym (a.place.others q ne))
          (h.known q (λ z. more (others q ne ∙ z))))
          (cases_eq p q);
    }
      where
        some_is : (o : Option ℕ) (n : ℕ) → o ≡ Some n → IsSome o
        some_is None n e = absurd (cc)
        some_is (Some m) n e = refl

    -- a server with a row gets one more command
    pub advanced : (line n : ℕ) (new_rows : List Row) → IsOnce servers → server_place places p ≡ Some n
        → IsAdvanced line n rows new_rows → new_size p ≡ size p + 1 → AreRows new_size servers places new_rows
    advanced line n new_rows once placed a size_is = record {
      lengths = same_items (map row_count new_rows) (map new_size servers) (λ m.
          slice_get-map row_count new_rows m ∙ item m ∙ sym (slice_get-map new_size servers m));
      there = h.there;
      known = λ q more. ⊎_elim
          (λ (same : p ≡ q). some_is (server_place places q) (ap (server_place places) (sym same) ∙ placed))
          (λ (ne : p ≢ q). h.known q (λ z. more (others q ne ∙ z)))
          (cases_eq p q);
    }
      where
        some_is : (o : Option ℕ) → o ≡ Some n → IsSome o
        some_is None e = absurd (cc)
        some_is (Some m) e = refl

        here : slice_get servers n ≡ Some p
        here = h.there p n placed

        own : option_map row_count (slice_get new_rows n) ≡ option_map new_size (slice_get servers n)
        own =
            let old = row_there n p here in
            let new = a.own old.0 old.1 in
            ap (option_map row_count) new.1
            ∙ ap Some (new.2.count_is ∙ ap (λ (k : ℕ). k + 1) old.2 ∙ sym size_is)
            ∙ sym (ap (option_map new_size) here)

        other : (m : ℕ) → n ≢ m → (o : Option ServerId) → slice_get servers m ≡ o → option_map size o ≡ option_map new_size o
        other m ne None e = refl
        other m ne (Some q) e =
            ap Some (sym (others q (λ same. ne (once n m p here (e ∙ ap Some (sym same))))))

        item : (m : ℕ) → option_map row_count (slice_get new_rows m) ≡ option_map new_size (slice_get servers m)
        item m = ⊎_elim
            (λ (same : n ≡ m). subst (λ (k : ℕ). option_map row_count (slice_get new_rows k)
            ≡ option_map new_size (slice_get servers k)) same own)
            (λ (ne : n ≢ m). ap (option_map row_count) (a.others m (λ e. ne (sym e)))
            ∙ sym (slice_get-map row_count rows m) ∙ ap (λ ns. slice_get ns m) h.lengths
            ∙ slice_get-map size servers m ∙ other m ne (slice_get servers m) refl)
            (cases_eq n m)
