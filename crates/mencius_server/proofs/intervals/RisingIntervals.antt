-- In rising intervals, an instance is found by a search, and an interval is added by joining it with the intervals that
-- it meets.
use Rattle.std.proofs.Common.{◌≡◌, ℕ, zero, suc, ◌+◌, ◌-◌, ◌<◌, ◌≤◌, Bool, true, false, ◌||◌, List, [], ◌∷◌, ◌++◌, length, ◌⊎◌, inl, inr, ⊎_elim, get_or, take, drop, min, max, refl, sym, ◌∙◌, ap, subst, arith, length-append}
use Rattle.std.proofs.lemmas.Bool.{cases_lt, le-leb, le-ltb, lt-leb, lt-ltb, and_left, and_right}
use Rattle.mencius_base.specs.Members.{Membership, owner}
use Rattle.mencius_server.specs.declared.skipped_intervals.Interval.{Interval}
use Rattle.mencius_server.specs.Intervals.{IsOwned, IsRising, is_between, is_in_any, reach_of, with_interval}

-- ---- rising lists, by position

pub rising_at : (low : ℕ) (rs : List Interval) → IsRising low rs → (n : ℕ) (d : Interval) → n < length rs
    → (low ≤ (get_or rs n d).first) × ((get_or rs n d).first < (get_or rs n d).stop)
rising_at low [] h n d below = absurd (omega arith)
rising_at low (r ∷ rs) h zero d below = (h.0, h.1)
rising_at low (r ∷ rs) h (suc n) d below =
    let rises = rising_at (r.stop + 1) rs h.2 n d (omega arith) in (omega (arith, rises.0, h.0, h.1), rises.1)

pub rising_stop : (low : ℕ) (rs : List Interval) → IsRising low rs → (m n : ℕ) (d : Interval) → m ≤ n → n < length rs
    → (get_or rs m d).stop ≤ (get_or rs n d).stop
rising_stop low [] h m n d l below = absurd (omega arith)
rising_stop low (r ∷ rs) h zero zero d l below = omega arith
rising_stop low (r ∷ rs) h zero (suc n) d l below =
    let rises = rising_at (r.stop + 1) rs h.2 n d (omega arith) in omega (arith, rises.0, rises.1)
rising_stop low (r ∷ rs) h (suc m) zero d l below = absurd (omega arith)
rising_stop low (r ∷ rs) h (suc m) (suc n) d l below = rising_stop (r.stop + 1) rs h.2 m n d (omega arith) (omega arith)

pub rising_first : (low : ℕ) (rs : List Interval) → IsRising low rs → (m n : ℕ) (d : Interval) → m ≤ n → n < length rs
    → (get_or rs m d).first ≤ (get_or rs n d).first
rising_first low [] h m n d l below = absurd (omega arith)
rising_first low (r ∷ rs) h zero zero d l below = omega arith
rising_first low (r ∷ rs) h zero (suc n) d l below =
    let rises = rising_at (r.stop + 1) rs h.2 n d (omega arith) in omega (arith, rises.0, h.1)
rising_first low (r ∷ rs) h (suc m) zero d l below = absurd (omega arith)
rising_first low (r ∷ rs) h (suc m) (suc n) d l below =
    rising_first (r.stop + 1) rs h.2 m n d (omega arith) (omega arith)

-- Each interval begins above the ends of all intervals before it.
rising_gap : (low : ℕ) (rs : List Interval) → IsRising low rs → (m n : ℕ) (d : Interval) → m < n → n < length rs
    → (get_or rs m d).stop < (get_or rs n d).first
rising_gap low [] h m n d l below = absurd (omega arith)
rising_gap low (r ∷ rs) h zero zero d l below = absurd (omega arith)
rising_gap low (r ∷ rs) h zero (suc n) d l below =
    let rises = rising_at (r.stop + 1) rs h.2 n d (omega arith) in omega (arith, rises.0)
rising_gap low (r ∷ rs) h (suc m) zero d l below = absurd (omega arith)
rising_gap low (r ∷ rs) h (suc m) (suc n) d l below = rising_gap (r.stop + 1) rs h.2 m n d (omega arith) (omega arith)

-- The lower bound of a rising list may be lowered.
pub rising_from : (low less : ℕ) (rs : List Interval) → less ≤ low → IsRising low rs → IsRising less rs
rising_from low less [] le h = tt
rising_from low less (r ∷ rs) le h = (omega (arith, h.0), h.1, h.2)

-- ---- whether an instance is covered

or-true : (a : Bool) → (a || true) ≡ true
or-true true = refl
or-true false = refl

or-false : (a : Bool) → (a || false) ≡ a
or-false true = refl
or-false false = refl

or-assoc : (a d x : Bool) → (a || (d || x)) ≡ ((a || d) || x)
or-assoc true d x = refl
or-assoc false d x = refl

or-swap : (a d x : Bool) → (a || (d || x)) ≡ ((d || x) || a)
or-swap true d x = sym (or-true (d || x))
or-swap false d x = sym (or-false (d || x))

or-middle : (a d x : Bool) → (a || (d || x)) ≡ ((d || a) || x)
or-middle true true x = refl
or-middle true false x = refl
or-middle false true x = refl
or-middle false false x = refl

pub within_yes : (first stop j : ℕ) → first ≤ j → j < stop → is_between first stop j ≡ true
within_yes first stop j low high = rw (le-leb first j low, lt-ltb j stop high) refl

pub within_before : (first stop j : ℕ) → j < first → is_between first stop j ≡ false
within_before first stop j h = and_left _ _ (lt-leb first j h)

pub within_past : (first stop j : ℕ) → stop ≤ j → is_between first stop j ≡ false
within_past first stop j h = and_right _ _ (le-ltb j stop h)

pub in_any_at : (rs : List Interval) (at i : ℕ) (d : Interval) → at < length rs → (get_or rs at d).first ≤ i
    → i < (get_or rs at d).stop → is_in_any rs i ≡ true
in_any_at [] at i d below low high = absurd (omega arith)
in_any_at (r ∷ rs) zero i d below low high = rw (within_yes r.first r.stop i low high) refl
in_any_at (r ∷ rs) (suc at) i d below low high =
    rw (in_any_at rs at i d (omega arith) low high) (or-true (is_between r.first r.stop i))

outside : (r : Interval) (i : ℕ) → (r.stop ≤ i) ⊎ (i < r.first) → is_between r.first r.stop i ≡ false
outside r i (inl past) = within_past r.first r.stop i past
outside r i (inr before) = within_before r.first r.stop i before

pub in_any_out : (rs : List Interval) (i : ℕ) (d : Interval)
    → ((n : ℕ) → n < length rs → ((get_or rs n d).stop ≤ i) ⊎ (i < (get_or rs n d).first)) → is_in_any rs i ≡ false
in_any_out [] i d h = refl
in_any_out (r ∷ rs) i d h = rw (outside r i (h 0 (omega arith))) (in_any_out rs i d (λ n m. h (suc n) (omega arith)))

-- The end of an interval lies in no interval.
pub open_stop : (rs : List Interval) → IsRising 0 rs → (at : ℕ) (d : Interval) → at < length rs
    → is_in_any rs (get_or rs at d).stop ≡ false
open_stop rs h at d below = in_any_out rs (get_or rs at d).stop d (λ n within. ⊎_elim
    (λ (past : at < n). inr (rising_gap 0 rs h at n d past within))
    (λ (upto : n ≤ at). inl (rising_stop 0 rs h n at d upto below))
    (cases_lt at n))

-- A place lies in no interval if all earlier intervals end at or below it and the next interval begins above it.
pub open_between : (rs : List Interval) → IsRising 0 rs → (at i : ℕ) (d : Interval)
    → ((n : ℕ) → n < at → (get_or rs n d).stop ≤ i)
    → (at < length rs → i < (get_or rs at d).first) → is_in_any rs i ≡ false
open_between rs h at i d before next = in_any_out rs i d (λ n within. ⊎_elim
    (λ (low : n < at). inl (before n low))
    (λ (high : at ≤ n). let rises = rising_first 0 rs h at n d high within in let ahead = next (omega arith) in
    inr (omega (arith, rises, ahead)))
    (cases_lt n at))

-- ---- adding an interval

-- Two intervals that meet cover the same places as the one interval that joins them.
hull : (first stop start end j : ℕ) → first ≤ end → start ≤ stop
    → is_between (min first start) (max stop end) j ≡ (is_between start end j || is_between first stop j)
hull first stop start end j h below =
    ⊎_elim
    (λ (low : j < min first start). rw (
      within_before (min first start) (max stop end) j low,
      within_before start end j (omega arith),
      within_before first stop j (omega arith),
    ) refl)
    (λ (from : min first start ≤ j). ⊎_elim
    (λ (before : j < max stop end).
    within_yes (min first start) (max stop end) j from before
    ∙ sym (⊎_elim
    (λ (in_first : first ≤ j). ⊎_elim
    (λ (in_stop : j < stop). rw (within_yes first stop j in_first in_stop) (or-true (is_between start end j)))
    (λ (past_stop : stop ≤ j). rw (within_yes start end j (omega arith) (omega arith)) refl)
    (cases_lt j stop))
    (λ (less : j < first). rw (within_yes start end j (omega arith) (omega arith)) refl)
    (turn (cases_lt j first))))
    (λ (past : max stop end ≤ j). rw (
      within_past (min first start) (max stop end) j past,
      within_past start end j (omega arith),
      within_past first stop j (omega arith),
    ) refl)
    (cases_lt j (max stop end)))
    (cases_lt j (min first start))
  where
    turn : {A B : Type 0} → A ⊎ B → B ⊎ A
    turn (inl x) = inr x
    turn (inr x) = inl x

-- The results of `with_interval` in the cases of its tests.
after_it : (r : Interval) (rs : List Interval) (f s : ℕ) → r.stop < f
    → with_interval (r ∷ rs) f s ≡ r ∷ with_interval rs f s
after_it r rs f s h = rw (lt-ltb r.stop f h) refl

before_it : (r : Interval) (rs : List Interval) (f s : ℕ) → f ≤ r.stop → s < r.first
    → with_interval (r ∷ rs) f s ≡ record { first = f; stop = s } ∷ r ∷ rs
before_it r rs f s h below = rw (le-ltb r.stop f h, lt-ltb s r.first below) refl

pub meeting_it : (r : Interval) (rs : List Interval) (f s : ℕ) → f ≤ r.stop → r.first ≤ s
    → with_interval (r ∷ rs) f s ≡ with_interval rs (min f r.first) (max s r.stop)
meeting_it r rs f s h below = rw (le-ltb r.stop f h, le-ltb s r.first below) refl

-- The three positions of a new interval, which may lie above the interval r, lie below it, or meet it.
IsPlace : Interval → ℕ → ℕ → Type 0
IsPlace r f s = (r.stop < f) ⊎ ((f ≤ r.stop) × ((s < r.first) ⊎ (r.first ≤ s)))

interval_cases : (r : Interval) (f s : ℕ) → IsPlace r f s
unfolding IsPlace
interval_cases r f s =
    ⊎_elim (λ (h : r.stop < f). inl h) (λ (h : f ≤ r.stop). inr (h, cases_lt s r.first)) (cases_lt r.stop f)

pub in_any_with_interval : (rs : List Interval) (f s j : ℕ)
    → is_in_any (with_interval rs f s) j ≡ (is_in_any rs j || is_between f s j)
unfolding IsPlace
in_any_with_interval [] f s j = or-false (is_between f s j)
in_any_with_interval (r ∷ rs) f s j =
    elim (interval_cases r f s) [
      | inl h ↦ rw (after_it r rs f s h, in_any_with_interval rs f s j)
          (or-assoc (is_between r.first r.stop j) (is_in_any rs j) (is_between f s j))
      | inr right ↦ elim right.1 [
        | inl left ↦
            rw (before_it r rs f s right.0 left)
            (or-swap (is_between f s j) (is_between r.first r.stop j) (is_in_any rs j))
        | inr rightmost ↦ rw (
          meeting_it r rs f s right.0 rightmost,
          in_any_with_interval rs (min f r.first) (max s r.stop) j,
          hull f s r.first r.stop j right.0 rightmost,
        ) (or-middle (is_in_any rs j) (is_between r.first r.stop j) (is_between f s j))
      ]
    ]

pub rising_with_interval : (low : ℕ) (rs : List Interval) (f s : ℕ) → low ≤ f → f < s → IsRising low rs
    → IsRising low (with_interval rs f s)
unfolding IsPlace
rising_with_interval low [] f s l below h = (l, below, tt)
rising_with_interval low (r ∷ rs) f s l below h =
    elim (interval_cases r f s) [
      | inl e ↦ rw (after_it r rs f s e) (h.0, h.1, rising_with_interval (r.stop + 1) rs f s (omega arith) below h.2)
      | inr right ↦ elim right.1 [
        | inl e ↦ rw (before_it r rs f s right.0 e) (l, below, (omega arith, h.1, h.2))
        | inr e ↦ rw (meeting_it r rs f s right.0 e)
            (rising_with_interval low rs (min f r.first) (max s r.stop) (omega (arith, h.0)) (omega (arith, h.1))
            (rising_from (r.stop + 1) low rs (omega (arith, h.0, h.1)) h.2))
      ]
    ]

owner_min : (m : Membership) (q i j : ℕ) → owner m i ≡ q → owner m j ≡ q → owner m (min i j) ≡ q
owner_min m q i j h same =
    ⊎_elim
    (λ (l : i < j). let e : min i j ≡ i = omega arith in rw e h)
    (λ (l : j ≤ i). let e : min i j ≡ j = omega arith in rw e same)
    (cases_lt i j)

owner_max : (m : Membership) (q i j : ℕ) → owner m i ≡ q → owner m j ≡ q → owner m (max i j) ≡ q
owner_max m q i j h same =
    ⊎_elim
    (λ (l : i < j). let e : max i j ≡ j = omega arith in rw e same)
    (λ (l : j ≤ i). let e : max i j ≡ i = omega arith in rw e h)
    (cases_lt i j)

pub owned_with_interval : (m : Membership) (q top : ℕ) (rs : List Interval) (f s : ℕ) → owner m f ≡ q → owner m s ≡ q
    → s ≤ top
    → IsOwned m q top rs → IsOwned m q top (with_interval rs f s)
unfolding IsPlace
owned_with_interval m q top [] f s a same below h = (a, same, below, tt)
owned_with_interval m q top (r ∷ rs) f s a same below h =
    elim (interval_cases r f s) [
      | inl e ↦ rw (after_it r rs f s e) (h.0, h.1, h.2, owned_with_interval m q top rs f s a same below h.3)
      | inr right ↦ elim right.1 [
        | inl e ↦ rw (before_it r rs f s right.0 e) (a, same, below, h)
        | inr e ↦ rw (meeting_it r rs f s right.0 e)
            (owned_with_interval m q top rs (min f r.first) (max s r.stop) (owner_min m q f r.first a h.0)
            (owner_max m q s r.stop same h.1) (omega (arith, h.2)) h.3)
      ]
    ]

-- ---- the loop that joins

-- The intervals that end below the new interval stay as they are.
pub with_interval_from : (rs : List Interval) (at f s : ℕ) (d : Interval) → at ≤ length rs
    → ((n : ℕ) → n < at → (get_or rs n d).stop < f)
    → with_interval rs f s ≡ take at rs ++ with_interval (drop at rs) f s
with_interval_from rs zero f s d below h = refl
with_interval_from [] (suc at) f s d below h = absurd (omega arith)
with_interval_from (r ∷ rs) (suc at) f s d below h =
    after_it r rs f s (h 0 (omega arith))
    ∙ ap (λ xs. r ∷ xs) (with_interval_from rs at f s d (omega arith) (λ n l. h (suc n) (omega arith)))

-- The first interval of the list, if any, ends at or above f.
abbrev pub HeadPast : ℕ → List Interval → Type 0
HeadPast f [] = Unit {0}
HeadPast f (r ∷ rs) = f ≤ r.stop

-- The invariant of the loop that joins. The intervals before the position `at` stay, and the union goes from f to s.
-- The absorbed intervals have the total length `absorbed`.
pub record IsJoining (old now : List Interval) (first stop at f s absorbed : ℕ) : Type 0 where
  pub within : at ≤ length now
  pub some : f < s
  pub same : with_interval old first stop ≡ take at now ++ with_interval (drop at now) f s
  pub reach : reach_of old ≡ absorbed + reach_of now
  pub low : ℕ
  pub rising : IsRising low (drop at now)
  pub past : HeadPast f (drop at now)
  pub bound : (absorbed ≡ 0) ⊎ ((absorbed + f + 1 ≤ low) × (low ≤ s + 1))

-- The absorbed length is at most the length of the union.
pub absorbed_fits : (old now : List Interval) (first stop at f s absorbed : ℕ)
    → IsJoining old now first stop at f s absorbed → absorbed ≤ s - f
absorbed_fits old now first stop at f s absorbed h =
    elim h.bound [ inl e ↦ omega arith | inr e ↦ omega (arith, e.0, e.1) ]

rising_drop : (low : ℕ) (rs : List Interval) (at : ℕ) → IsRising low rs → IsRising low (drop at rs)
rising_drop low rs zero h = h
rising_drop low [] (suc at) h = tt
rising_drop low (r ∷ rs) (suc at) h =
    rising_drop low rs at (rising_from (r.stop + 1) low rs (omega (arith, h.0, h.1)) h.2)

head_past : (f : ℕ) (rs : List Interval) (at : ℕ) (d : Interval)
    → ((n : ℕ) → at ≤ n → n < length rs → f ≤ (get_or rs n d).stop) → HeadPast f (drop at rs)
head_past f [] zero d h = tt
head_past f (r ∷ rs) zero d h = h 0 (omega arith) (omega arith)
head_past f [] (suc at) d h = tt
head_past f (r ∷ rs) (suc at) d h = head_past f rs at d (λ n l m. h (suc n) (omega arith) (omega arith))

pub joining_start : (old : List Interval) (first stop at : ℕ) (d : Interval) → IsRising 0 old → first < stop
    → at ≤ length old
    → ((n : ℕ) → n < at → (get_or old n d).stop < first)
    → ((n : ℕ) → at ≤ n → n < length old → first ≤ (get_or old n d).stop)
    → IsJoining old old first stop at first stop 0
joining_start old first stop at d rising some within before after = record {
  within = within;
  some = some;
  same = with_interval_from old at first stop d within before;
  reach = omega arith;
  low = 0;
  rising = rising_drop 0 old at rising;
  past = head_past first old at d after;
  bound = inl refl;
}

reach_append : (xs ys : List Interval) → reach_of (xs ++ ys) ≡ reach_of xs + reach_of ys
reach_append [] ys = omega arith
reach_append (r ∷ rs) ys = omega (arith, reach_append rs ys)

take_drop : (at : ℕ) (rs : List Interval) → take at rs ++ drop at rs ≡ rs
take_drop zero rs = refl
take_drop (suc at) [] = refl
take_drop (suc at) (r ∷ rs) = ap (λ xs. r ∷ xs) (take_drop at rs)

-- The list from a position on consists of the interval at that position and the list after it.
pub drop_here : (at : ℕ) (rs : List Interval) (d : Interval) → at < length rs
    → drop at rs ≡ get_or rs at d ∷ drop (suc at) rs
drop_here zero [] d h = absurd (omega arith)
drop_here zero (r ∷ rs) d h = refl
drop_here (suc at) [] d h = absurd (omega arith)
drop_here (suc at) (r ∷ rs) d h = drop_here at rs d (omega arith)

take_length : (at : ℕ) (rs : List Interval) → at ≤ length rs → length (take at rs) ≡ at
take_length zero rs h = refl
take_length (suc at) [] h = absurd (omega arith)
take_length (suc at) (r ∷ rs) h = omega (arith, take_length at rs (omega arith))

take_again : (xs ys : List Interval) (at : ℕ) → length xs ≡ at → take at (xs ++ ys) ≡ xs
take_again [] ys zero e = refl
take_again [] ys (suc at) e = absurd (omega arith)
take_again (x ∷ xs) ys zero e = absurd (omega arith)
take_again (x ∷ xs) ys (suc at) e = ap (λ zs. x ∷ zs) (take_again xs ys at (omega arith))

drop_again : (xs ys : List Interval) (at : ℕ) → length xs ≡ at → drop at (xs ++ ys) ≡ ys
drop_again [] ys zero e = refl
drop_again [] ys (suc at) e = absurd (omega arith)
drop_again (x ∷ xs) ys zero e = absurd (omega arith)
drop_again (x ∷ xs) ys (suc at) e = drop_again xs ys at (omega arith)

past_more : (low f : ℕ) (rs : List Interval) → f ≤ low → IsRising low rs → HeadPast f rs
past_more low f [] h rising = tt
past_more low f (r ∷ rs) h rising = omega (arith, rising.0, rising.1)

-- The invariant of the loop still holds after another interval is absorbed.
pub joining_more : (old now new : List Interval) (first stop at f s absorbed g y more : ℕ) (r : Interval)
    → at < length now
    → (get_or now at r) ≡ r → r.first ≤ s
    → new ≡ take at now ++ drop (suc at) now → g ≡ min f r.first → y ≡ max s r.stop
    → more ≡ absorbed + (r.stop - r.first)
    → IsJoining old now first stop at f s absorbed → IsJoining old new first stop at g y more
joining_more old now new first stop at f s absorbed g y more r inside here meets removed g_is t_is more_is h =
    let parts : drop at now ≡ r ∷ drop (suc at) now =
    drop_here at now r inside ∙ ap (λ x. x ∷ drop (suc at) now) here in
    let rising : IsRising h.low (r ∷ drop (suc at) now) = subst (IsRising h.low) parts h.rising in
    let past : f ≤ r.stop = subst (HeadPast f) parts h.past in
    let kept : take at new ≡ take at now =
    ap (take at) removed ∙ take_again (take at now) (drop (suc at) now) at (take_length at now h.within) in
    let left : drop at new ≡ drop (suc at) now =
    ap (drop at) removed ∙ drop_again (take at now) (drop (suc at) now) at (take_length at now h.within) in
    let all : reach_of now ≡ reach_of (take at now) + reach_of (drop at now) =
    ap reach_of (sym (take_drop at now)) ∙ reach_append (take at now) (drop at now) in
    let less : reach_of new ≡ reach_of (take at now) + reach_of (drop (suc at) now) =
    ap reach_of removed ∙ reach_append (take at now) (drop (suc at) now) in
    let whole : reach_of (drop at now) ≡ (r.stop - r.first) + reach_of (drop (suc at) now) = ap reach_of parts in
    record {
      within = let e : length new ≡ length (take at now ++ drop (suc at) now) =
          ap length removed in
          omega (arith, e, length-append (take at now) (drop (suc at) now), take_length at now h.within);
      some = omega (arith, h.some);
      same = h.same ∙ ap (λ xs. take at now ++ with_interval xs f s) parts
          ∙ ap (λ xs. take at now ++ xs) (meeting_it r (drop (suc at) now) f s past meets)
          ∙ sym (rw (kept, left, g_is, t_is) refl);
      reach = omega (arith, h.reach, all, less, whole);
      low = r.stop + 1;
      rising = rw left rising.2;
      past = rw left (past_more (r.stop + 1) g (drop (suc at) now) (omega (arith, past, rising.1)) rising.2);
      bound = inr (elim h.bound [
        | inl e ↦ (omega (arith, e, rising.1), omega arith)
        | inr e ↦ (omega (arith, e.0, e.1, rising.0, rising.1), omega arith)
      ]);
    }

-- When the next interval begins above the union, the loop has added the interval, and returns the added length.
pub joining_ends : (old now new : List Interval) (first stop at f s absorbed : ℕ) (union d : Interval)
    → union ≡ record { first = f; stop = s }
    → (at < length now → s < (get_or now at d).first) → new ≡ take at now ++ union ∷ drop at now
    → IsJoining old now first stop at f s absorbed
    → (new ≡ with_interval old first stop) × (((s - f) - absorbed) + reach_of old ≡ reach_of new)
joining_ends old now new first stop at f s absorbed union d u_is beyond inserted h =
    let last : with_interval (drop at now) f s ≡ union ∷ drop at now = ⊎_elim
    (λ (inside : at < length now).
    let parts = drop_here at now d inside in
    let past : f ≤ (get_or now at d).stop = subst (HeadPast f) parts h.past in
    ap (λ xs. with_interval xs f s) parts ∙ before_it (get_or now at d) (drop (suc at) now) f s past (beyond inside)
    ∙ sym (rw (u_is, parts) refl))
    (λ (end : length now ≤ at). let none = drop_past at now end in rw (none, u_is) refl)
    (cases_lt at (length now)) in
    let all : reach_of now ≡ reach_of (take at now) + reach_of (drop at now) =
    ap reach_of (sym (take_drop at now)) ∙ reach_append (take at now) (drop at now) in
    let more : reach_of new ≡ reach_of (take at now) + ((union.stop - union.first) + reach_of (drop at now)) =
    ap reach_of inserted ∙ reach_append (take at now) (union ∷ drop at now) in
    let stop_is : union.stop ≡ s = ap (λ (x : Interval). x.stop) u_is in
    let first_is : union.first ≡ f = ap (λ (x : Interval). x.first) u_is in
    let fits = absorbed_fits old now first stop at f s absorbed h in (
      inserted ∙ sym (h.same ∙ ap (λ xs. take at now ++ xs) last),
      omega (arith, h.reach, all, more, stop_is, first_is, fits),
    )
  where
    drop_past : (at : ℕ) (rs : List Interval) → length rs ≤ at → drop at rs ≡ []
    drop_past zero [] e = refl
    drop_past zero (r ∷ rs) e = absurd (omega arith)
    drop_past (suc at) [] e = refl
    drop_past (suc at) (r ∷ rs) e = drop_past at rs (omega arith)
