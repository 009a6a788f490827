-- The number of open replies says whether each acknowledged command is in a history.
use Rattle.std.proofs.Common.{◌≡◌, ◌≢◌, ◌<◌, ◌≤◌, ◌+◌, ℕ, zero, suc, Bool, true, false, cond, not, List, [], ◌∷◌, Some, count_by, length, slice_get, arith, rules, refl, sym, ap, ◌∙◌, ⊎_elim}
use Rattle.std.specs.Prelude.{IsTrue}
use Rattle.std.proofs.lemmas.List.Sums.{sum_by-cons}
use Rattle.mencius_base.specs.declared.command.CommandId.{CommandId}
use Rattle.mencius_model.specs.Executed.{IsPrefix}
use Rattle.mencius_model.proofs.replies.RepliesAfterEvents.{slice_get-append}
use Rattle.mencius_judge.specs.declared.counts.Counts.{Counts}
use Rattle.mencius_judge.specs.Counts.{AreCounts}
use Rattle.mencius_judge.specs.Log.{Log, acknowledged, has_id, history}
use Rattle.mencius_judge.specs.Promises.{AreComparable, WasJudged}
use Rattle.mencius_judge.proofs.promises.Identities.{has_place, place_has}

-- ---- tests

pub is_true : (d : Bool) → IsTrue d → d ≡ true
is_true d t = search rules

pub as_true : (d : Bool) → d ≡ true → IsTrue d
as_true d t = search rules

passes : (d : Bool) → not d ≡ false → d ≡ true
passes true e = refl
passes false e = absurd (cc)

-- ---- items that pass a test

abbrev one_if : Bool → ℕ
one_if d = cond d 1 0

count_cons : {A : Type 0} (f : A → Bool) (x : A) (xs : List A) → count_by f (x ∷ xs) ≡ one_if (f x) + count_by f xs
count_cons f x xs = sum_by-cons (λ y. one_if (f y)) x xs

-- if no item passes, the count is 0
pub none_passes : {A : Type 0} (f : A → Bool) (xs : List A) → ((n : ℕ) (x : A) → slice_get xs n ≡ Some x → f x ≡ false)
    → count_by f xs ≡ 0
none_passes f [] h = refl
none_passes f (x ∷ xs) h =
    let head : one_if (f x) ≡ 0 = ap one_if (h 0 x refl) in
    let rest : count_by f xs ≡ 0 = none_passes f xs (λ n y e. h (suc n) y e) in
    count_cons f x xs ∙ omega (arith, head, rest)

is_zero : (d : Bool) → one_if d ≡ 0 → d ≡ false
is_zero false e = refl
is_zero true e = absurd (omega arith)

-- if the count is 0, no item passes
pub none_counted : {A : Type 0} (f : A → Bool) (xs : List A) → count_by f xs ≡ 0 → (n : ℕ) (x : A)
    → slice_get xs n ≡ Some x → f x ≡ false
none_counted f [] empty n x e = absurd (cc)
none_counted f (y ∷ xs) empty zero x e =
    let same : y ≡ x = cc in
    ap f (sym same) ∙ is_zero (f y) (omega (arith, count_cons f y xs, empty))
none_counted f (y ∷ xs) empty (suc n) x e =
    none_counted f xs (omega (arith, count_cons f y xs, empty)) n x e

-- ---- the longest history

-- a list that is comparable to another one and is not longer is a prefix of it
item_of_longer : (xs ys : List CommandId) → length xs ≤ length ys → (n : ℕ) (id : CommandId) → slice_get xs n ≡ Some id
    → n < length xs → IsPrefix ys xs → slice_get ys n ≡ Some id
item_of_longer xs ys most n id there within r =
    let less : n < length ys = omega (arith, most, within) in
    sym (slice_get-append ys r.0 n less) ∙ ap (λ (zs : List CommandId). slice_get zs n) r.1 ∙ there

item_of_prefix : (xs ys : List CommandId) → (n : ℕ) (id : CommandId) → slice_get xs n ≡ Some id
    → n < length xs → IsPrefix xs ys → slice_get ys n ≡ Some id
item_of_prefix xs ys n id there within r =
    ap (λ (zs : List CommandId). slice_get zs n) (sym r.1) ∙ slice_get-append xs r.0 n within ∙ there

-- if histories are comparable, a command of a history is in each history that is not shorter
pub in_longest : (w : Log) (p q : ℕ) (id : CommandId) → AreComparable w → length (history w p) ≤ length (history w q)
    → has_id (history w p) id ≡ true → has_id (history w q) id ≡ true
in_longest w p q id comparable most inside =
    let place = has_place (history w p) id inside in
    place_has (history w q) id place.0
    (⊎_elim (λ (r : IsPrefix (history w p) (history w q)). item_of_prefix (history w p) (history w q) place.0 id place.2 place.1 r)
    (λ (r : IsPrefix (history w q) (history w p)). item_of_longer (history w p) (history w q) most place.0 id place.2 place.1 r)
    (comparable p q))

-- ---- whether something was judged

pub was_judged : (w : Log) (c : Counts) → AreCounts w c → 0 < c.executed → c.open_replies ≡ 0 → WasJudged w
was_judged w c counts some none = record {
  server = counts.longest;
  some = λ e.
      let size : length (history w counts.longest) ≡ 0 = ap length e in
      let same = counts.executed in omega (arith, size, same, some);
  every = λ id inside. (counts.longest, as_true (has_id (history w counts.longest) id) (there id (is_true (has_id (acknowledged w) id) inside)));
}
  where
    there : (id : CommandId) → has_id (acknowledged w) id ≡ true → has_id (history w counts.longest) id ≡ true
    there id inside =
        let place = has_place (acknowledged w) id inside in
        passes (has_id (history w counts.longest) id)
        (none_counted (λ x. not (has_id (history w counts.longest) x)) (acknowledged w) (sym counts.open_replies ∙ none)
        place.0 id place.2)

pub judged_some : (w : Log) (c : Counts) → AreCounts w c → WasJudged w → 0 < c.executed
judged_some w c counts was =
    let most = counts.within was.server in
    let same = counts.executed in
    let more = not_empty (history w was.server) was.some in
    omega (arith, most, same, more)
  where
    not_empty : (xs : List CommandId) → xs ≢ [] → 0 < length xs
    not_empty [] ne = absurd (ne refl)
    not_empty (x ∷ xs) ne = omega arith

pub judged_all : (w : Log) (c : Counts) → AreComparable w → AreCounts w c → WasJudged w → c.open_replies ≡ 0
judged_all w c comparable counts was =
    counts.open_replies ∙ none_passes (λ id. not (has_id (history w counts.longest) id)) (acknowledged w) (λ n id there.
    let server = was.every id (as_true (has_id (acknowledged w) id) (place_has (acknowledged w) id n there)) in
    let inside : has_id (history w server.0) id ≡ true = is_true (has_id (history w server.0) id) server.1 in
    ap not (in_longest w server.0 counts.longest id comparable (counts.within server.0) inside))
