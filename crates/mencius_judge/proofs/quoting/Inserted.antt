-- A quote that is inserted at its place adds one line to the quotes.
use Rattle.std.proofs.Common.{◌≡◌, ◌≢◌, ◌⊎◌, inl, inr, ℕ, zero, suc, ◌<◌, ◌≤◌, ltb, Bool, true, false, List, [], ◌∷◌, Some, length, slice_get, slice_index_or, arith, refl, sym, subst, ap, ◌∙◌, ⊎_elim}
use Rattle.std.proofs.lemmas.Option.{slice_get-get_or, get_or_from_slice_get}
use Rattle.std.specs.List.{Contains, insert}
use Rattle.std.specs.List.Sorted.{IsPartitionPoint, IsPartitionedBy}
use Rattle.mencius_judge.specs.declared.quote.Quote.{Quote}
use Rattle.mencius_judge.specs.Added.{AreInOrder, HaveAlso}
use Rattle.mencius_judge.specs.Quotes.{AreNumbered, NumberedLog}
use Rattle.mencius_judge.proofs.promises.Logs.{contains_cons, contains_none}
use Rattle.mencius_judge.proofs.sources.Places.{item_contained, item_within, none_some, place_of_item, same_some}

-- ---- lists

before_it : {A : Type 0} (xs : List A) (i : ℕ) (y : A) (k : ℕ) (x : A) → k < i → slice_get xs k ≡ Some x
    → slice_get (insert xs i y) k ≡ Some x
before_it [] i y k x less e = absurd (none_some e)
before_it (z ∷ xs) zero y k x less e = absurd (omega arith)
before_it (z ∷ xs) (suc i) y zero x less e = e
before_it (z ∷ xs) (suc i) y (suc k) x less e = before_it xs i y k x (omega arith) e

here : {A : Type 0} (xs : List A) (i : ℕ) (y : A) → i ≤ length xs → slice_get (insert xs i y) i ≡ Some y
here xs zero y fits = refl
here [] (suc i) y fits = absurd (omega arith)
here (z ∷ xs) (suc i) y fits = here xs i y (omega arith)

after_it : {A : Type 0} (xs : List A) (i : ℕ) (y : A) (k : ℕ) (x : A) → i ≤ k → slice_get xs k ≡ Some x
    → slice_get (insert xs i y) (suc k) ≡ Some x
after_it [] i y k x le e = absurd (none_some e)
after_it (z ∷ xs) zero y k x le e = e
after_it (z ∷ xs) (suc i) y zero x le e = absurd (omega arith)
after_it (z ∷ xs) (suc i) y (suc k) x le e = after_it xs i y k x (omega arith) e

-- an item is before the place, at it or after it
abbrev Either : {A : Type 0} → List A → ℕ → A → ℕ → A → Type 0
Either xs i y k x =
    ((k < i) × (slice_get xs k ≡ Some x)) ⊎ ((k ≡ i) × (y ≡ x))
    ⊎ ((m : ℕ) × (k ≡ suc m) × (i ≤ m) × (slice_get xs m ≡ Some x))

either : {A : Type 0} (xs : List A) (i : ℕ) (y : A) (k : ℕ) (x : A) → i ≤ length xs
    → slice_get (insert xs i y) k ≡ Some x
    → Either xs i y k x
either xs zero y zero x fits e = inr (inl (refl, same_some e))
either xs zero y (suc k) x fits e = inr (inr (k, refl, omega arith, e))
either [] (suc i) y k x fits e = absurd (omega arith)
either (z ∷ xs) (suc i) y zero x fits e = inl (omega arith, e)
either (z ∷ xs) (suc i) y (suc k) x fits e = later (either xs i y k x (omega arith) e)
  where
    later : Either xs i y k x → Either (z ∷ xs) (suc i) y (suc k) x
    later (inl r) = let less = r.0 in inl (omega (arith, less), r.1)
    later (inr (inl r)) = inr (inl (ap suc r.0, r.1))
    later (inr (inr r)) = let le = r.2 in inr (inr (suc r.0, ap suc r.1, omega (arith, le), r.3))

three : (a c : ℕ) → (a < c) ⊎ ((a ≡ c) ⊎ (c < a))
three a c = grind arith

less_or : (a c : ℕ) → (a < c) ⊎ (c ≤ a)
less_or a c = grind arith

-- ---- lines

-- lines with the same number are the same line
pub same_line : (lines : NumberedLog) (a c : Quote) → AreNumbered lines → Contains lines a → Contains lines c
    → a.number ≡ c.number → a ≡ c
same_line [] a c numbered first second e = absurd (contains_none a first)
same_line (line ∷ lines) a c numbered first second e =
    by_cases (λ f g. same_line lines a c numbered.1 f g e) (contains_cons line lines a first)
    (contains_cons line lines c second)
  where
    lower : (x : Quote) → Contains lines x → x.number < line.number
    lower x inside = numbered.0 x inside

    by_cases : (Contains lines a → Contains lines c → a ≡ c) → (line ≡ a) ⊎ Contains lines a
        → (line ≡ c) ⊎ Contains lines c → a ≡ c
    by_cases before (inl f) (inl g) = sym f ∙ g
    by_cases before (inl f) (inr g) =
        let less = lower c g in
        let size = ap (λ (q : Quote). q.number) f in
        absurd (omega (arith, less, size, e))
    by_cases before (inr f) (inl g) =
        let less = lower a f in
        let size = ap (λ (q : Quote). q.number) g in
        absurd (omega (arith, less, size, e))
    by_cases before (inr f) (inr g) = before f g

module _ (lines : NumberedLog) (old : List Quote) (quote : Quote) (inside : Contains lines quote)
    (numbered : AreNumbered lines) (h : AreInOrder lines old) where
  -- if another quote has the number of this quote, this quote is already there
  pub is_there : (i : ℕ) (other : Quote) → slice_get old i ≡ Some other → other.number ≡ quote.number
      → AreInOrder lines old × HaveAlso (λ (q : Quote). q ≡ quote) old old
  is_there i other at e =
      let found : Contains old other = item_contained old i other at in
      let one : other ≡ quote = same_line lines other quote numbered (h.within other found) inside e in (
        h,
        record {
          kept = λ q r. r;
          added = λ q is. subst (Contains old) (one ∙ sym is) found;
          sound = λ q r. inl r;
        },
      )

  module _ (i : ℕ) (fits : i ≤ length old)
      (before : (k : ℕ) (x : Quote) → k < i → slice_get old k ≡ Some x → x.number < quote.number)
      (behind : (k : ℕ) (x : Quote) → i ≤ k → slice_get old k ≡ Some x → quote.number < x.number) where
    kept : (x : Quote) → Contains old x → Contains (insert old i quote) x
    kept x found =
        let place = place_of_item old x found in
        elim (less_or place.0 i) [
          | inl less ↦ item_contained (insert old i quote) place.0 x (before_it old i quote place.0 x less place.1)
          | inr le ↦ item_contained (insert old i quote) (suc place.0) x (after_it old i quote place.0 x le place.1)
        ]

    sound : (x : Quote) → Contains (insert old i quote) x → Contains old x ⊎ (x ≡ quote)
    sound x found = by_place (place_of_item (insert old i quote) x found)
      where
        by_either : (k : ℕ) → Either old i quote k x → Contains old x ⊎ (x ≡ quote)
        by_either k (inl r) = inl (item_contained old k x r.1)
        by_either k (inr (inl r)) = inr (sym r.1)
        by_either k (inr (inr r)) = inl (item_contained old r.0 x r.3)

        by_place : (k : ℕ) × (slice_get (insert old i quote) k ≡ Some x) → Contains old x ⊎ (x ≡ quote)
        by_place r = by_either r.0 (either old i quote r.0 x fits r.1)

    rising : (n m : ℕ) (a c : Quote) → n < m → slice_get (insert old i quote) n ≡ Some a
        → slice_get (insert old i quote) m ≡ Some c → a.number < c.number
    rising n m a c less e f = by_cases (either old i quote n a fits e) (either old i quote m c fits f)
      where
        by_cases : Either old i quote n a → Either old i quote m c → a.number < c.number
        by_cases (inl r) (inl t) = h.rising n m a c less r.1 t.1
        by_cases (inl r) (inr (inl t)) =
            let first = before n a r.0 r.1 in
            let size = ap (λ (q : Quote). q.number) t.1 in
            omega (arith, first, size)
        by_cases (inl r) (inr (inr t)) =
            let low = r.0 in
            let high = t.2 in
            h.rising n t.0 a c (omega (arith, low, high)) r.1 t.3
        by_cases (inr (inl r)) (inl t) =
            let at = r.0 in
            let low = t.0 in
            absurd (omega (arith, at, low, less))
        by_cases (inr (inl r)) (inr (inl t)) =
            let at = r.0 in
            let same = t.0 in
            absurd (omega (arith, at, same, less))
        by_cases (inr (inl r)) (inr (inr t)) =
            let second = behind t.0 c t.2 t.3 in
            let size = ap (λ (q : Quote). q.number) r.1 in
            omega (arith, second, size)
        by_cases (inr (inr r)) (inl t) =
            let at = r.1 in
            let le = r.2 in
            let low = t.0 in
            absurd (omega (arith, at, le, low, less))
        by_cases (inr (inr r)) (inr (inl t)) =
            let at = r.1 in
            let le = r.2 in
            let same = t.0 in
            absurd (omega (arith, at, le, same, less))
        by_cases (inr (inr r)) (inr (inr t)) =
            let at = r.1 in
            let there = t.1 in
            h.rising r.0 t.0 a c (omega (arith, at, there, less)) r.3 t.3

    pub inserted : AreInOrder lines (insert old i quote) × HaveAlso (λ (q : Quote). q ≡ quote) old (insert old i quote)
    inserted = (
      record {
        within = λ x found. ⊎_elim (λ (r : Contains old x). h.within x r)
            (λ (e : x ≡ quote). subst (Contains lines) (sym e) inside) (sound x found);
        rising = rising;
      },
      record {
        kept = kept;
        added = λ x is. item_contained (insert old i quote) i x (here old i quote fits ∙ ap Some (sym is));
        sound = sound;
      },
    )

-- ---- the place of a quote

-- the quote has a lower number
abbrev pub is_before : ℕ → Quote → Bool
is_before n q = ltb q.number n

as_less : (a n : ℕ) → ltb a n ≡ true → a < n
as_less a n h = grind arith

as_le : (a n : ℕ) → ltb a n ≡ false → n ≤ a
as_le a n h = grind arith

as_true : (a n : ℕ) → a < n → ltb a n ≡ true
as_true a n h = grind arith

same_or : (a c : ℕ) → a ≤ c → (a ≡ c) ⊎ (a < c)
same_or a c h = grind arith

pub parted : (lines : NumberedLog) (quotes : List Quote) (n : ℕ) → AreInOrder lines quotes
    → IsPartitionedBy (is_before n) quotes
parted lines quotes n ordered i j d le within h = ⊎_elim
    (λ (e : i ≡ j). subst (λ k. ltb (slice_index_or quotes k d).number n ≡ true) (sym e) h)
    (λ (less : i < j).
    let a = slice_index_or quotes i d in
    let c = slice_index_or quotes j d in
    let rises : a.number < c.number =
    ordered.rising i j a c less (slice_get-get_or quotes i d (omega (arith, less, within)))
    (slice_get-get_or quotes j d within) in
    let low : c.number < n = as_less c.number n h in
    as_true a.number n (omega (arith, rises, low)))
    (same_or i j le)

module _ (quotes : List Quote) (n place : ℕ)
    (point : IsPartitionPoint (λ q. is_before n q ≡ true) (λ q. is_before n q ≡ false) quotes place) where
  pub before_place : (k : ℕ) (x : Quote) → k < place → slice_get quotes k ≡ Some x → x.number < n
  before_place k x less e =
      let is : slice_index_or quotes k x ≡ x = get_or_from_slice_get quotes k x x e in
      as_less x.number n (subst (λ (q : Quote). ltb q.number n ≡ true) is (point.0 k x (omega arith) less))

  -- at the place and behind it, no quote has a lower number. So none has the number if the one at the place does not
  -- have it
  pub behind_place : (lines : NumberedLog) → AreInOrder lines quotes
      → ((x : Quote) → slice_get quotes place ≡ Some x → x.number ≢ n)
      → (k : ℕ) (x : Quote) → place ≤ k → slice_get quotes k ≡ Some x → n < x.number
  behind_place lines ordered other k x le e = ⊎_elim
      (λ (same : place ≡ k).
      let low = not_lower k x le e in
      let ne : x.number ≢ n = other x (ap (slice_get quotes) same ∙ e) in
      omega (arith, low, ne))
      (λ (less : place < k).
      let inside = item_within quotes k x e in
      let first : slice_get quotes place ≡ Some (slice_index_or quotes place x) =
      slice_get-get_or quotes place x (omega (arith, less, inside)) in
      let low = not_lower place (slice_index_or quotes place x) (omega arith) first in
      let rises = ordered.rising place k (slice_index_or quotes place x) x less first e in
      omega (arith, low, rises))
      (same_or place k le)
    where
      not_lower : (m : ℕ) (y : Quote) → place ≤ m → slice_get quotes m ≡ Some y → n ≤ y.number
      not_lower m y from at =
          let is : slice_index_or quotes m y ≡ y = get_or_from_slice_get quotes m y y at in
          as_le y.number n
          (subst (λ (q : Quote). ltb q.number n ≡ false) is (point.1 m y from (item_within quotes m y at)))
