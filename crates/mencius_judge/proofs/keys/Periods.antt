-- The periods of a text give the first number of commands after which a key held it.
use Rattle.std.proofs.Common.{◌≡◌, ◌≢◌, ◌⊎◌, inl, inr, ℕ, zero, suc, ◌+◌, ◌<◌, ◌≤◌, leb, max, Bool, true, false, List, [], ◌∷◌, ◌++◌, Option, Some, None, MatchOption, length, slice_get, slice_index_or, arith, refl, sym, subst, ap, ◌∙◌, ⊎_elim}
use Rattle.std.specs.List.Sorted.{IsPartitionPoint, IsPartitionedBy}
use Rattle.std.proofs.lemmas.Bool.{cases_Bool}
use Rattle.std.proofs.lemmas.Slice.Eq.{bytes_eq-Decides}
use Rattle.std.specs.Str.{bytes_eq}
use Rattle.mencius_judge.specs.declared.timeline.Period.{Period}
use Rattle.mencius_judge.specs.declared.timeline.Timeline.{Timeline}
use Rattle.mencius_judge.specs.Timelines.{AllBefore, AreRising, HasNone, IsBeginning, IsFirstCount, IsFirstPeriod, IsTimeline, IsTimelineOf, periods_of}

-- ---- items of lists

item_at : (xs : List Period) (i : ℕ) (d : Period) → i < length xs → slice_get xs i ≡ Some (slice_index_or xs i d)
item_at [] i d h = absurd (omega arith)
item_at (x ∷ xs) zero d h = refl
item_at (x ∷ xs) (suc i) d h = item_at xs i d (omega arith)

item_is : (xs : List Period) (i : ℕ) (x d : Period) → slice_get xs i ≡ Some x → (i < length xs) × (slice_index_or xs i d ≡ x)
item_is [] i x d e = absurd (cc)
item_is (y ∷ xs) zero x d e = (omega arith, cc)
item_is (y ∷ xs) (suc i) x d e = let r = item_is xs i x d e in (omega (arith, r.0), r.1)

pub item_kept : (xs : List Period) (y : Period) (i : ℕ) (x : Period) → slice_get xs i ≡ Some x → slice_get (xs ++ y ∷ []) i ≡ Some x
item_kept [] y i x e = absurd (cc)
item_kept (z ∷ xs) y zero x e = e
item_kept (z ∷ xs) y (suc i) x e = item_kept xs y i x e

pub item_last : (xs : List Period) (y : Period) → slice_get (xs ++ y ∷ []) (length xs) ≡ Some y
item_last [] y = refl
item_last (z ∷ xs) y = item_last xs y

pub item_either : (xs : List Period) (y : Period) (i : ℕ) (x : Period) → slice_get (xs ++ y ∷ []) i ≡ Some x
    → (slice_get xs i ≡ Some x) ⊎ ((i ≡ length xs) × (y ≡ x))
item_either [] y zero x e = inr (refl, cc)
item_either [] y (suc i) x e = absurd (cc)
item_either (z ∷ xs) y zero x e = inl e
item_either (z ∷ xs) y (suc i) x e =
    ⊎_elim (λ (r : slice_get xs i ≡ Some x). inl r) (λ (r : (i ≡ length xs) × (y ≡ x)). inr (ap suc r.0, r.1))
    (item_either xs y i x e)

pub item_within : (xs : List Period) (i : ℕ) (x : Period) → slice_get xs i ≡ Some x → i < length xs
item_within xs i x e = (item_is xs i x x e).0

-- ---- the first period that does not end before a number

-- the period stops at n or before
abbrev pub ends_by : ℕ → Period → Bool
ends_by n p = leb p.stop n

as_true : (a n : ℕ) → a ≤ n → leb a n ≡ true
as_true a n h = grind arith

as_le : (a n : ℕ) → leb a n ≡ true → a ≤ n
as_le a n h = grind arith

as_less : (a n : ℕ) → leb a n ≡ false → n < a
as_less a n h = grind arith

pub parted : (periods : List Period) (n : ℕ) → AreRising periods → IsPartitionedBy (ends_by n) periods
parted periods n rising i j d le within h = ⊎_elim
    (λ (e : i ≡ j). subst (λ k. leb (slice_index_or periods k d).stop n ≡ true) (sym e) h)
    (λ (less : i < j).
    let p = slice_index_or periods i d in
    let q = slice_index_or periods j d in
    let apart : p.stop ≤ q.first =
    rising.apart i j p q less (item_at periods i d (omega (arith, less, within))) (item_at periods j d within) in
    let filled : q.first < q.stop = rising.filled j q (item_at periods j d within) in
    let end : q.stop ≤ n = as_le q.stop n h in
    as_true p.stop n (omega (arith, apart, filled, end)))
    (either i j le)
  where
    either : (a c : ℕ) → a ≤ c → (a ≡ c) ⊎ (a < c)
    either a c h = grind arith

pub at_point : (periods : List Period) (n place : ℕ)
    → IsPartitionPoint (λ p. ends_by n p ≡ true) (λ p. ends_by n p ≡ false) periods place
    → MatchOption (slice_get periods place) (AllBefore periods n) (IsFirstPeriod periods n)
at_point periods n place point = by_item (slice_get periods place) refl
  where
    early : (i : ℕ) (q : Period) → i < place → slice_get periods i ≡ Some q → q.stop ≤ n
    early i q less e =
        let is = item_is periods i q q e in
        as_le q.stop n (subst (λ (x : Period). leb x.stop n ≡ true) is.1 (point.0 i q (omega arith) less))

    by_item : (o : Option Period) → slice_get periods place ≡ o → MatchOption o (AllBefore periods n) (IsFirstPeriod periods n)
    by_item None e = λ i q there. early i q (before i q there e) there
      where
        before : (i : ℕ) (q : Period) → slice_get periods i ≡ Some q → slice_get periods place ≡ None → i < place
        before i q there none = past periods i place q there none
          where
            past : (xs : List Period) (i k : ℕ) (x : Period) → slice_get xs i ≡ Some x → slice_get xs k ≡ None → i < k
            past [] i k x e f = absurd (cc)
            past (y ∷ xs) i zero x e f = absurd (cc)
            past (y ∷ xs) zero (suc k) x e f = omega arith
            past (y ∷ xs) (suc i) (suc k) x e f = let r = past xs i k x e f in omega (arith, r)
    by_item (Some p) e = record {
      index = place;
      there = e;
      later =
          let is = item_is periods place p p e in
          as_less p.stop n
          (subst (λ (x : Period). leb x.stop n ≡ false) is.1 (point.1 place p (omega arith) is.0));
      first = early;
    }

-- ---- the first number of commands

less_or : (a c : ℕ) → (a < c) ⊎ (c ≤ a)
less_or a c = grind arith

three : (a c : ℕ) → (a < c) ⊎ ((a ≡ c) ⊎ (c < a))
three a c = grind arith

module _ (held : ℕ → Option (List ℕ)) (to : ℕ) (t : Timeline) (h : IsTimeline held to t) (text : Option (List ℕ)) (from : ℕ) where
  pub in_period : (p : Period) → IsFirstPeriod (periods_of t text) from p → IsFirstCount held text from to (max p.first from)
  in_period p is =
      let filled = (h.rising text).filled is.index p is.there in
      let end = h.before text is.index p is.there in
      let later = is.later in
      let since = h.since in
      record {
        later = omega arith;
        within = omega (arith, filled, end, later, since);
        holds = h.holds text is.index p is.there (max p.first from) (omega arith) (omega (arith, filled, later));
        least = λ m le less same. low m le (omega (arith, le, less)) same;
      }
    where
      low : (m : ℕ) → from ≤ m → m < p.first → held m ≡ text → ⊥
      low m le less same =
          let filled = (h.rising text).filled is.index p is.there in
          let end = h.before text is.index p is.there in
          let r = h.all text m (omega (arith, less, filled, end)) same in
          ⊎_elim (λ (early : r.0 < is.index).
          let stop = is.first r.0 r.1 early r.2 in omega (arith, stop, le, r.4))
          (λ (rest : (r.0 ≡ is.index) ⊎ (is.index < r.0)). ⊎_elim
          (λ (e : r.0 ≡ is.index).
          let both : Some r.1 ≡ Some p = sym r.2 ∙ ap (slice_get (periods_of t text)) e ∙ is.there in
          let one : r.1 ≡ p = cc in
          let first : r.1.first ≡ p.first = ap (λ (q : Period). q.first) one in
          omega (arith, first, r.3, less))
          (λ (late : is.index < r.0).
          let apart = (h.rising text).apart is.index r.0 p r.1 late is.there r.2 in
          omega (arith, apart, r.3, less, filled))
          rest)
          (three r.0 is.index)

  module _ (before : AllBefore (periods_of t text) from) where
    none_before : (m : ℕ) → from ≤ m → m < t.since → held m ≡ text → ⊥
    none_before m le less same =
        let r = h.all text m less same in
        let stop = before r.0 r.1 r.2 in
        omega (arith, stop, le, r.4)

    pub in_present : t.text ≡ text → from ≤ to → IsFirstCount held text from to (max t.since from)
    in_present same le =
        let since = h.since in
        record {
          later = omega arith;
          within = omega (arith, since, le);
          holds = h.now (max t.since from) (omega arith) (omega (arith, since, le)) ∙ same;
          least = λ m low less at. none_before m low (omega (arith, low, less)) at;
        }

    pub in_none : (from ≤ to → t.text ≢ text) → HasNone held text from to
    in_none other m low high same = ⊎_elim
        (λ (less : m < t.since). none_before m low less same)
        (λ (le : t.since ≤ m). other (omega (arith, low, high)) (sym (h.now m le high) ∙ same))
        (less_or m t.since)

-- ---- the beginning of a text

module _ (held : ℕ → Option (List ℕ)) (to : ℕ) (t : Timeline) (h : IsTimeline held to t) where
  -- the present text began with the last change
  pub present_began : IsBeginning held to t.since
  present_began =
      let since = h.since in
      let present = h.now to since (omega arith) in
      record {
        within = since;
        same = λ m low high. h.now m low high ∙ sym present;
        change = λ m e same. h.began m e (same ∙ present);
      }

  module _ (text : Option (List ℕ)) (n : ℕ) (fits : n ≤ to) (is : held n ≡ text) where
    pub period_began : (p : Period) → IsFirstPeriod (periods_of t text) n p → IsBeginning held n p.first
    period_began p first = record {
      within = within;
      same = λ m low high.
          let stop = first.later in
          h.holds text first.index p first.there m low (omega (arith, high, stop)) ∙ sym is;
      change = λ m e same. h.begins text first.index p first.there m e (same ∙ is);
    }
      where
        early : n < t.since → p.first ≤ n
        early less =
            let r = h.all text n less is in
            ⊎_elim (λ (before : r.0 < first.index).
            let stop = first.first r.0 r.1 before r.2 in absurd (omega (arith, stop, r.4)))
            (λ (rest : (r.0 ≡ first.index) ⊎ (first.index < r.0)). ⊎_elim
            (λ (e : r.0 ≡ first.index).
            let both : Some r.1 ≡ Some p = sym r.2 ∙ ap (slice_get (periods_of t text)) e ∙ first.there in
            let one : r.1 ≡ p = cc in
            let start : r.1.first ≡ p.first = ap (λ (q : Period). q.first) one in
            omega (arith, start, r.3))
            (λ (late : first.index < r.0).
            let apart = (h.rising text).apart first.index r.0 p r.1 late first.there r.2 in
            let stop = first.later in
            absurd (omega (arith, apart, r.3, stop)))
            rest)
            (three r.0 first.index)

        within : p.first ≤ n
        within = ⊎_elim (λ (less : n < t.since). early less)
            (λ (late : t.since ≤ n).
            let end = h.before text first.index p first.there in
            let stop = first.later in
            absurd (omega (arith, late, end, stop)))
            (less_or n t.since)

    pub none_began : AllBefore (periods_of t text) n → IsBeginning held n t.since
    none_began before = record {
      within = late;
      same = λ m low high. h.now m low (omega (arith, high, fits)) ∙ sym (h.now n late fits);
      change = λ m e same. h.began m e (same ∙ h.now n late fits);
    }
      where
        late : t.since ≤ n
        late = ⊎_elim (λ (less : n < t.since).
            let r = h.all text n less is in
            let stop = before r.0 r.1 r.2 in
            absurd (omega (arith, stop, r.4)))
            (λ (le : t.since ≤ n). le) (less_or n t.since)

-- a key without a timeline has held no text from the beginning
pub never_began : (held : ℕ → Option (List ℕ)) (to n : ℕ) → IsTimelineOf held to None → n ≤ to → IsBeginning held n 0
never_began held to n h fits = record {
  within = omega arith;
  same = λ m low high. h m (omega (arith, high, fits)) ∙ sym (h n fits);
  change = λ m e same. absurd (omega (arith, e));
}

-- ---- a further change

pub text_cases : (x y : Option (List ℕ)) → (x ≡ y) ⊎ (x ≢ y)
text_cases None None = inl refl
text_cases None (Some y) = inr (λ (e : None ≡ Some y). cc)
text_cases (Some x) None = inr (λ (e : Some x ≡ None). cc)
text_cases (Some x) (Some y) = ⊎_elim
    (λ (e : bytes_eq x y ≡ true). inl (ap Some ((bytes_eq-Decides x y).0 e)))
    (λ (e : bytes_eq x y ≡ false). inr (λ (same : Some x ≡ Some y).
    let inner : x ≡ y = cc in
    let yes : bytes_eq x y ≡ true = (bytes_eq-Decides x y).1 inner in cc))
    (cases_Bool (bytes_eq x y))

module _ (held after : ℕ → Option (List ℕ)) (n : ℕ) (t new : Timeline) (h : IsTimeline held n t)
    (kept : (m : ℕ) → m ≤ n → after m ≡ held m) (text : Option (List ℕ)) (last : after (n + 1) ≡ text)
    (changes : after (n + 1) ≢ held n) (new_text : new.text ≡ text) (new_since : new.since ≡ n + 1)
    (former : periods_of new t.text ≡ periods_of t t.text ++ record { first = t.since; stop = n + 1 } ∷ [])
    (others : (x : Option (List ℕ)) → x ≢ t.text → periods_of new x ≡ periods_of t x) where
  abbrev grown : List Period
  grown = periods_of t t.text ++ record { first = t.since; stop = n + 1 } ∷ []

  abbrev newest : Period
  newest = record { first = t.since; stop = n + 1 }

  grown_rising : AreRising grown
  grown_rising = record {
    filled = λ i p there. ⊎_elim
        (λ (e : slice_get (periods_of t t.text) i ≡ Some p). (h.rising t.text).filled i p e)
        (λ (e : (i ≡ length (periods_of t t.text)) × (newest ≡ p)).
        let since = h.since in
        let first : t.since ≡ p.first = ap (λ (q : Period). q.first) e.1 in
        let stop : n + 1 ≡ p.stop = ap (λ (q : Period). q.stop) e.1 in
        omega (arith, since, first, stop))
        (item_either (periods_of t t.text) newest i p there);
    apart = λ i j p q less first second. ⊎_elim
        (λ (e : slice_get (periods_of t t.text) j ≡ Some q). ⊎_elim
        (λ (f : slice_get (periods_of t t.text) i ≡ Some p). (h.rising t.text).apart i j p q less f e)
        (λ (f : (i ≡ length (periods_of t t.text)) × (newest ≡ p)).
        let inside = item_within (periods_of t t.text) j q e in
        absurd (omega (arith, inside, less, f.0)))
        (item_either (periods_of t t.text) newest i p first))
        (λ (e : (j ≡ length (periods_of t t.text)) × (newest ≡ q)). ⊎_elim
        (λ (f : slice_get (periods_of t t.text) i ≡ Some p).
        let end = h.before t.text i p f in
        let start : t.since ≡ q.first = ap (λ (x : Period). x.first) e.1 in
        omega (arith, end, start))
        (λ (f : (i ≡ length (periods_of t t.text)) × (newest ≡ p)). absurd (omega (arith, less, e.0, f.0)))
        (item_either (periods_of t t.text) newest i p first))
        (item_either (periods_of t t.text) newest j q second);
  }

  grown_before : AllBefore grown (n + 1)
  grown_before i p there = ⊎_elim
      (λ (e : slice_get (periods_of t t.text) i ≡ Some p).
      let end = h.before t.text i p e in
      let since = h.since in
      omega (arith, end, since))
      (λ (e : (i ≡ length (periods_of t t.text)) × (newest ≡ p)).
      let stop : n + 1 ≡ p.stop = ap (λ (q : Period). q.stop) e.1 in
      omega (arith, stop))
      (item_either (periods_of t t.text) newest i p there)

  abbrev Fits : Option (List ℕ) → List Period → Type 0
  Fits x periods = (i : ℕ) (p : Period) → slice_get periods i ≡ Some p → (m : ℕ) → p.first ≤ m → m < p.stop → after m ≡ x

  grown_fits : Fits t.text grown
  grown_fits i p there m low high = ⊎_elim
      (λ (e : slice_get (periods_of t t.text) i ≡ Some p).
      let end = h.before t.text i p e in
      let since = h.since in
      kept m (omega (arith, end, since, high)) ∙ h.holds t.text i p e m low high)
      (λ (e : (i ≡ length (periods_of t t.text)) × (newest ≡ p)).
      let first : t.since ≡ p.first = ap (λ (q : Period). q.first) e.1 in
      let stop : n + 1 ≡ p.stop = ap (λ (q : Period). q.stop) e.1 in
      kept m (omega (arith, high, stop)) ∙ h.now m (omega (arith, first, low)) (omega (arith, high, stop)))
      (item_either (periods_of t t.text) newest i p there)

  abbrev Covers : Option (List ℕ) → List Period → ℕ → Type 0
  Covers x periods stop = (m : ℕ) → m < stop → after m ≡ x
      → (i : ℕ) × (p : Period) × (slice_get periods i ≡ Some p) × (p.first ≤ m) × (m < p.stop)

  grown_covers : Covers t.text grown (n + 1)
  grown_covers m less same = ⊎_elim
      (λ (early : m < t.since).
      let since = h.since in
      let r = h.all t.text m early (sym (kept m (omega (arith, early, since))) ∙ same) in
      (r.0, r.1, item_kept (periods_of t t.text) newest r.0 r.1 r.2, r.3, r.4))
      (λ (late : t.since ≤ m). (length (periods_of t t.text), newest, item_last (periods_of t t.text) newest, late, less))
      (less_or m t.since)

  other_fits : (x : Option (List ℕ)) → Fits x (periods_of t x)
  other_fits x i p there m low high =
      let end = h.before x i p there in
      let since = h.since in
      kept m (omega (arith, end, since, high)) ∙ h.holds x i p there m low high

  other_covers : (x : Option (List ℕ)) → x ≢ t.text → Covers x (periods_of t x) (n + 1)
  other_covers x ne m less same = ⊎_elim
      (λ (early : m < t.since).
      let since = h.since in
      h.all x m early (sym (kept m (omega (arith, early, since))) ∙ same))
      (λ (late : t.since ≤ m).
      absurd (ne (sym same ∙ kept m (omega (arith, less)) ∙ h.now m late (omega (arith, less)))))
      (less_or m t.since)

  abbrev Begins : Option (List ℕ) → List Period → Type 0
  Begins x periods = (i : ℕ) (p : Period) → slice_get periods i ≡ Some p → (m : ℕ) → m + 1 ≡ p.first → after m ≢ x

  -- the periods before the change begin as before
  former_begins : (x : Option (List ℕ)) → Begins x (periods_of t x)
  former_begins x i p there m e same =
      let filled = (h.rising x).filled i p there in
      let end = h.before x i p there in
      let since = h.since in
      h.begins x i p there m e (sym (kept m (omega (arith, filled, end, since, e))) ∙ same)

  grown_begins : Begins t.text grown
  grown_begins i p there m e same = ⊎_elim
      (λ (f : slice_get (periods_of t t.text) i ≡ Some p). former_begins t.text i p f m e same)
      (λ (f : (i ≡ length (periods_of t t.text)) × (newest ≡ p)).
      let first : t.since ≡ p.first = ap (λ (q : Period). q.first) f.1 in
      let since = h.since in
      h.began m (e ∙ sym first) (sym (kept m (omega (arith, e, first, since))) ∙ same))
      (item_either (periods_of t t.text) newest i p there)

  -- a fact about the periods of each text holds if it holds for the old text, whose periods have grown, and for all
  -- other texts
  each : (P : Option (List ℕ) → List Period → Type 0) → P t.text grown
      → ((x : Option (List ℕ)) → x ≢ t.text → P x (periods_of t x)) → (x : Option (List ℕ)) → P x (periods_of new x)
  each P own other x = ⊎_elim
      (λ (e : x ≡ t.text). subst (λ (y : Option (List ℕ)). P y (periods_of new y)) (sym e) (subst (P t.text) (sym former) own))
      (λ (ne : x ≢ t.text). subst (P x) (sym (others x ne)) (other x ne))
      (text_cases x t.text)

  before_all : (x : Option (List ℕ)) → AllBefore (periods_of t x) (n + 1)
  before_all x i p there =
      let end = h.before x i p there in
      let since = h.since in
      omega (arith, end, since)

  pub changed : IsTimeline after (n + 1) new
  changed = record {
    since = omega (arith, new_since);
    now = λ m low high.
        let is : m ≡ n + 1 = omega (arith, low, high, new_since) in
        ap after is ∙ last ∙ sym new_text;
    rising = each (λ x periods. AreRising periods) grown_rising (λ x ne. h.rising x);
    before = subst (λ k. (x : Option (List ℕ)) → AllBefore (periods_of new x) k) (sym new_since)
        (each (λ x periods. AllBefore periods (n + 1)) grown_before (λ x ne. before_all x));
    holds = each Fits grown_fits (λ x ne. other_fits x);
    all = subst (λ k. (x : Option (List ℕ)) → Covers x (periods_of new x) k) (sym new_since)
        (each (λ x periods. Covers x periods (n + 1)) grown_covers other_covers);
    begins = each Begins grown_begins (λ x ne. former_begins x);
    began = λ m e same.
        let is : m ≡ n = omega (arith, e, new_since) in
        changes (last ∙ sym new_text ∙ sym same ∙ ap after is ∙ kept n (omega arith));
  }

-- if the text does not change, the same timeline is right for a further command
pub unchanged : (held after : ℕ → Option (List ℕ)) (n : ℕ) (t : Timeline) → IsTimeline held n t
    → ((m : ℕ) → m ≤ n → after m ≡ held m) → after (n + 1) ≡ held n → IsTimeline after (n + 1) t
unchanged held after n t h kept last = record {
  since = let since = h.since in omega (arith, since);
  now = λ m low high. ⊎_elim
      (λ (e : m ≤ n). kept m e ∙ h.now m low e)
      (λ (e : m ≡ n + 1).
      let since = h.since in
      ap after e ∙ last ∙ h.now n since (omega arith))
      (either m n high);
  rising = h.rising;
  before = h.before;
  holds = λ x i p there m low high.
      let end = h.before x i p there in
      let since = h.since in
      kept m (omega (arith, end, since, high)) ∙ h.holds x i p there m low high;
  all = λ x m less same.
      let since = h.since in
      h.all x m less (sym (kept m (omega (arith, less, since))) ∙ same);
  begins = λ x i p there m e same.
      let filled = (h.rising x).filled i p there in
      let end = h.before x i p there in
      let since = h.since in
      h.begins x i p there m e (sym (kept m (omega (arith, filled, end, since, e))) ∙ same);
  began = λ m e same.
      let since = h.since in
      h.began m e (sym (kept m (omega (arith, e, since))) ∙ same);
}
  where
    either : (a c : ℕ) → a ≤ c + 1 → (a ≤ c) ⊎ (a ≡ c + 1)
    either a c h = grind arith

-- a new timeline is right for a key that has never held a text
pub fresh : (held : ℕ → Option (List ℕ)) (n : ℕ) (t : Timeline) → ((m : ℕ) → m ≤ n → held m ≡ None)
    → t.text ≡ None → t.since ≡ 0 → ((x : Option (List ℕ)) → periods_of t x ≡ []) → IsTimeline held n t
fresh held n t none text since periods = record {
  since = omega (arith, since);
  now = λ m low high. none m high ∙ sym text;
  rising = λ x. record {
    filled = λ i p there. absurd (empty x i p there);
    apart = λ i j p q less first second. absurd (empty x i p first);
  };
  before = λ x i p there. absurd (empty x i p there);
  holds = λ x i p there. absurd (empty x i p there);
  all = λ x m less same. absurd (omega (arith, less, since));
  begins = λ x i p there m e same. absurd (empty x i p there);
  began = λ m e same. absurd (omega (arith, e, since));
}
  where
    empty : (x : Option (List ℕ)) (i : ℕ) (p : Period) → slice_get (periods_of t x) i ≡ Some p → ⊥
    empty x i p there = let none : slice_get (periods_of t x) i ≡ None = ap (λ ps. slice_get ps i) (periods x) in cc

-- a changed timeline is right for `count` commands, which are one more than before
pub changed_at : (held after : ℕ → Option (List ℕ)) (n count : ℕ) (t new : Timeline) → n + 1 ≡ count → IsTimeline held n t
    → ((m : ℕ) → m ≤ n → after m ≡ held m) → (text : Option (List ℕ)) → after count ≡ text
    → after count ≢ held n → new.text ≡ text → new.since ≡ count
    → periods_of new t.text ≡ periods_of t t.text ++ record { first = t.since; stop = count } ∷ []
    → ((x : Option (List ℕ)) → x ≢ t.text → periods_of new x ≡ periods_of t x) → IsTimeline after count new
changed_at held after n count t new e =
    subst (λ k. IsTimeline held n t → ((m : ℕ) → m ≤ n → after m ≡ held m) → (text : Option (List ℕ)) → after k ≡ text
    → after k ≢ held n → new.text ≡ text → new.since ≡ k
    → periods_of new t.text ≡ periods_of t t.text ++ record { first = t.since; stop = k } ∷ []
    → ((x : Option (List ℕ)) → x ≢ t.text → periods_of new x ≡ periods_of t x) → IsTimeline after k new) e
    (λ h kept text last changes new_text new_since former others.
    changed held after n t new h kept text last changes new_text new_since former others)
