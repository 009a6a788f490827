-- The number of a server's instances in its intervals follows from the length of the intervals.
use Rattle.std.proofs.Common.{◌≡◌, ℕ, zero, suc, ◌+◌, ◌*◌, ◌/◌, ◌%◌, ◌<◌, ◌≤◌, Bool, true, false, cond, ◌&&◌, ◌||◌, List, [], ◌∷◌, eqb, min, add-zero, refl, sym, ◌∙◌, ap, arith, ⊎_elim}
use Rattle.std.specs.List.{count_by}
use Rattle.std.proofs.Math.Nat.{div-add-mod, mul-le-mul_left, mod-eq_of_lt, add-mod_right}
use Rattle.std.proofs.lemmas.Bool.{cases_eq, cases_lt, eq-eqb, ne_eqb, and_right}
use Rattle.mencius_base.proofs.LeastOwned.{first_owned_least, first_owned_owner}
use Rattle.mencius_base.specs.Members.{Membership, numbers_below, first_owned, owner}
use Rattle.mencius_model.proofs.trace.NumberLists.{count_by-below_more, count_by-below_zero}
use Rattle.mencius_server.specs.declared.skipped_intervals.Interval.{Interval}
use Rattle.mencius_server.specs.Intervals.{IsOwned, IsRising, is_between, is_in_any, reach_of}
use Rattle.mencius_server.proofs.intervals.RisingIntervals.{within_before, within_past, within_yes}

-- ---- counts below a place

abbrev pub bit : Bool → ℕ
bit a = cond a 1 0

-- If a test splits into two tests that never both hold, its count is the sum of their counts.
pub count_split : (f g h : ℕ → Bool) (n : ℕ) → ((j : ℕ) → j < n → bit (f j) ≡ bit (g j) + bit (h j))
    → count_by f (numbers_below n) ≡ count_by g (numbers_below n) + count_by h (numbers_below n)
count_split f g h zero e = omega (arith, count_by-below_zero f, count_by-below_zero g, count_by-below_zero h)
count_split f g h (suc n) e =
    let next : suc n ≡ n + 1 = omega arith in
    let before = count_split f g h n (λ j l. e j (omega arith)) in
    let here = e n (omega arith) in
    rw next (omega (arith, count_by-below_more f n, count_by-below_more g n, count_by-below_more h n, before, here))

pub count_same : (f g : ℕ → Bool) (n : ℕ) → ((j : ℕ) → j < n → f j ≡ g j) → count_by f (numbers_below n) ≡ count_by g (numbers_below n)
count_same f g zero e = count_by-below_zero f ∙ sym (count_by-below_zero g)
count_same f g (suc n) e =
    let next : suc n ≡ n + 1 = omega arith in
    let before = count_same f g n (λ j l. e j (omega arith)) in
    let here : bit (f n) ≡ bit (g n) = ap bit (e n (omega arith)) in
    rw next (omega (arith, count_by-below_more f n, count_by-below_more g n, before, here))

and-true : (a : Bool) → (a && true) ≡ a
and-true true = refl
and-true false = refl

-- The number of places below n that pass a test and lie in an interval is the difference of two counts. They count the
-- places that pass the test below `stop` and below `first`, with both ends cut at n.
abbrev IsCountWithin : (ℕ → Bool) → ℕ → ℕ → ℕ → Type 0
IsCountWithin test first stop n =
    count_by (λ j. test j && is_between first stop j) (numbers_below n) + count_by test (numbers_below (min n first))
    ≡ count_by test (numbers_below (min n stop))

module _ (test : ℕ → Bool) (first stop n : ℕ) (before : IsCountWithin test first stop n) where
  count_before : first ≤ stop → n < first → IsCountWithin test first stop (n + 1)
  count_before h less =
      let more = count_by-below_more (λ j. test j && is_between first stop j) n in
      let out : (test n && is_between first stop n) ≡ false = and_right _ _ (within_before first stop n less) in
      let none : bit (test n && is_between first stop n) ≡ 0 = ap bit out in
      let a_now : min n first ≡ n = omega arith in
      let b_now : min n stop ≡ n = omega arith in
      let a_next : min (n + 1) first ≡ n + 1 = omega arith in
      let b_next : min (n + 1) stop ≡ n + 1 = omega arith in
      let old : count_by (λ j. test j && is_between first stop j) (numbers_below n) + count_by test (numbers_below n)
      ≡ count_by test (numbers_below n) =
      rw (a_now, b_now) at before in
      rw (a_next, b_next) (omega (arith, more, none, old))

  count_inside : first ≤ n → n < stop → IsCountWithin test first stop (n + 1)
  count_inside from within =
      let more = count_by-below_more (λ j. test j && is_between first stop j) n in
      let a_now : min n first ≡ first = omega arith in
      let a_next : min (n + 1) first ≡ first = omega arith in
      let here : (test n && is_between first stop n) ≡ test n =
      ap (λ (a : Bool). test n && a) (within_yes first stop n from within) ∙ and-true (test n) in
      let one : bit (test n && is_between first stop n) ≡ bit (test n) = ap bit here in
      let b_now : min n stop ≡ n = omega arith in
      let b_next : min (n + 1) stop ≡ n + 1 = omega arith in
      let old : count_by (λ j. test j && is_between first stop j) (numbers_below n) + count_by test (numbers_below first)
      ≡ count_by test (numbers_below n) =
      rw (a_now, b_now) at before in
      rw (a_next, b_next) (omega (arith, more, one, old, count_by-below_more test n))

  count_behind : first ≤ n → stop ≤ n → IsCountWithin test first stop (n + 1)
  count_behind from past =
      let more = count_by-below_more (λ j. test j && is_between first stop j) n in
      let a_now : min n first ≡ first = omega arith in
      let a_next : min (n + 1) first ≡ first = omega arith in
      let out : (test n && is_between first stop n) ≡ false = and_right _ _ (within_past first stop n past) in
      let none : bit (test n && is_between first stop n) ≡ 0 = ap bit out in
      let b_now : min n stop ≡ stop = omega arith in
      let b_next : min (n + 1) stop ≡ stop = omega arith in
      let old : count_by (λ j. test j && is_between first stop j) (numbers_below n) + count_by test (numbers_below first)
      ≡ count_by test (numbers_below stop) =
      rw (a_now, b_now) at before in
      rw (a_next, b_next) (omega (arith, more, none, old))

-- The number of places below n that pass a test and lie in an interval is this difference, for every n.
pub count_within : (test : ℕ → Bool) (first stop n : ℕ) → first ≤ stop → IsCountWithin test first stop n
count_within test first stop zero h =
    let low : min 0 first ≡ 0 = omega arith in
    let high : min 0 stop ≡ 0 = omega arith in
    rw (low, high) (omega (arith, count_by-below_zero (λ j. test j && is_between first stop j)))
count_within test first stop (suc n) h =
    let next : suc n ≡ n + 1 = omega arith in
    let before = count_within test first stop n h in
    rw next (⊎_elim
    (λ (less : n < first). count_before test first stop n before h less)
    (λ (from : first ≤ n). ⊎_elim
    (λ (within : n < stop). count_inside test first stop n before from within)
    (λ (past : stop ≤ n). count_behind test first stop n before from past)
    (cases_lt n stop))
    (cases_lt n first))

-- ---- a server's instances

abbrev pub owned_below : Membership → ℕ → ℕ → ℕ
owned_below m q j = count_by (λ i. eqb (owner m i) q) (numbers_below j)

-- The first instance of q at or above an instance of q is that instance.
pub first_owned_here : (m : Membership) (q j : ℕ) → q < m.count → owner m j ≡ q → first_owned m q j ≡ j
first_owned_here m q j member own =
    let least = first_owned_least m q j j member (omega arith) own in
    omega (arith, least)

one_round : (n x : ℕ) → n * (x + 1) ≡ n * x + n
one_round n x = grind arith

-- Two instances of one server are at least n apart in a cluster of n servers.
pub apart : (n q x j : ℕ) → x % n ≡ q → j % n ≡ q → j < x → j + n ≤ x
apart n q x j here there less =
    let x_is : n * (x / n) + q ≡ x = ap (λ r. n * (x / n) + r) (sym here) ∙ div-add-mod x n in
    let j_is : n * (j / n) + q ≡ j = ap (λ r. n * (j / n) + r) (sym there) ∙ div-add-mod j n in
    ⊎_elim
    (λ (lower : j / n < x / n). omega
    (arith, x_is, j_is, mul-le-mul_left n (let h : j / n + 1 ≤ x / n = omega arith in h), one_round n (j / n)))
    (λ (upper : x / n ≤ j / n). absurd (omega (arith, x_is, j_is, mul-le-mul_left n upper)))
    (cases_lt (j / n) (x / n))

mul-zero : (n : ℕ) → n * 0 ≡ 0
mul-zero n = grind arith

-- If `owned_place` holds at an instance of q, it holds at the place after it. There, the number of q's instances below
-- is one greater.
past_own : (m : Membership) (q j : ℕ) → q < m.count → owner m j ≡ q
    → m.count * owned_below m q j + q ≡ first_owned m q j
    → m.count * owned_below m q (j + 1) + q ≡ first_owned m q (j + 1)
past_own m q j member mine before =
    let more = count_by-below_more (λ i. eqb (owner m i) q) j in
    let own = first_owned_owner m q (j + 1) member in
    let above : j + 1 ≤ first_owned m q (j + 1) = omega arith in
    let one : bit (eqb (owner m j) q) ≡ 1 = ap bit (eq-eqb (owner m j) q mine) in
    let here = first_owned_here m q j member mine in
    let far = apart m.count q (first_owned m q (j + 1)) j own mine (omega (arith, above)) in
    let least = first_owned_least m q (j + 1) (j + m.count) member (omega arith) (add-mod_right j m.count ∙ mine) in
    let count : m.count * owned_below m q (j + 1) ≡ m.count * owned_below m q j + m.count =
    ap (λ x. m.count * x) (more ∙ ap (λ x. owned_below m q j + x) one) ∙ one_round m.count (owned_below m q j) in
    omega (arith, count, before, here, far, least)

-- If `owned_place` holds at an instance of another server, it holds at the place after it. There, the number of q's
-- instances below is the same.
past_other : (m : Membership) (q j : ℕ) → q < m.count → (owner m j ≡ q → ⊥)
    → m.count * owned_below m q j + q ≡ first_owned m q j
    → m.count * owned_below m q (j + 1) + q ≡ first_owned m q (j + 1)
past_other m q j member other before =
    let more = count_by-below_more (λ i. eqb (owner m i) q) j in
    let own = first_owned_owner m q (j + 1) member in
    let own_now = first_owned_owner m q j member in
    let above : j + 1 ≤ first_owned m q (j + 1) = omega arith in
    let above_now : j ≤ first_owned m q j = omega arith in
    let none : bit (eqb (owner m j) q) ≡ 0 = ap bit (ne_eqb (owner m j) q other) in
    let off : first_owned m q j ≡ j → ⊥ = λ e. other (ap (owner m) (sym e) ∙ own_now) in
    let past : j + 1 ≤ first_owned m q j =
    ⊎_elim (λ (e : first_owned m q j ≡ j). absurd (off e))
    (λ (ne : first_owned m q j ≡ j → ⊥). omega (arith, above_now)) (cases_eq (first_owned m q j) j) in
    let up = first_owned_least m q (j + 1) (first_owned m q j) member past own_now in
    let down = first_owned_least m q j (first_owned m q (j + 1)) member (omega (arith, above)) own in
    let count : m.count * owned_below m q (j + 1) ≡ m.count * owned_below m q j =
    ap (λ x. m.count * x) (more ∙ ap (λ x. owned_below m q j + x) none ∙ add-zero (owned_below m q j)) in
    omega (arith, count, before, up, down)

-- The number of q's instances below a place, times the number of servers, plus q, is q's first instance at or above
-- that place.
pub owned_place : (m : Membership) (q : ℕ) → q < m.count → (j : ℕ) → m.count * owned_below m q j + q ≡ first_owned m q j
owned_place m q member zero =
    let none = count_by-below_zero (λ i. eqb (owner m i) q) in
    let least = first_owned_least m q 0 q member (omega arith) (mod-eq_of_lt member) in
    let own = first_owned_owner m q 0 member in
    let small : first_owned m q 0 < m.count = omega (arith, least, member) in
    let is : first_owned m q 0 ≡ q = sym (mod-eq_of_lt small) ∙ own in
    let nothing : m.count * owned_below m q 0 ≡ 0 = ap (λ x. m.count * x) none ∙ mul-zero m.count in
    omega (arith, nothing, is)
owned_place m q member (suc j) =
    let next : suc j ≡ j + 1 = omega arith in
    let before = owned_place m q member j in
    rw next (⊎_elim
    (λ (mine : owner m j ≡ q). past_own m q j member mine before)
    (λ (other : owner m j ≡ q → ⊥). past_other m q j member other before)
    (cases_eq (owner m j) q))

-- ---- intervals

-- The number of q's instances below both n and `stop`, times the number of servers, plus q, is `stop`. The place `stop`
-- is an instance of q, and at most the first one at or above n.
end_place : (m : Membership) (q n stop : ℕ) → q < m.count → owner m stop ≡ q → stop ≤ first_owned m q n
    → m.count * owned_below m q (min n stop) + q ≡ stop
end_place m q n stop member own low =
    ⊎_elim
    (λ (less : n < stop).
    let e : min n stop ≡ n = omega arith in
    let least = first_owned_least m q n stop member (omega arith) own in
    rw e (omega (arith, owned_place m q member n, least)))
    (λ (more : stop ≤ n).
    let e : min n stop ≡ stop = omega arith in
    rw e (owned_place m q member stop ∙ first_owned_here m q stop member own))
    (cases_lt n stop)

-- The number of q's instances in an interval, times the number of servers, is the length of the interval.
pub count_interval : (m : Membership) (q n first stop : ℕ) → q < m.count → owner m first ≡ q → owner m stop ≡ q
    → first ≤ stop
    → stop ≤ first_owned m q n
    → m.count * count_by (λ j. eqb (owner m j) q && is_between first stop j) (numbers_below n) + first ≡ stop
count_interval m q n first stop member own_a own_b h low =
    let both = count_within (λ j. eqb (owner m j) q) first stop n h in
    let all : m.count * (count_by (λ j. eqb (owner m j) q && is_between first stop j) (numbers_below n) + owned_below m q
    (min n first))
    ≡ m.count * owned_below m q (min n stop) = ap (λ x. m.count * x) both in
    let a_is = end_place m q n first member own_a (omega (arith, low)) in
    let b_is = end_place m q n stop member own_b low in
    omega (
      arith,
      all,
      a_is,
      b_is,
      distribute m.count (count_by (λ j. eqb (owner m j) q && is_between first stop j) (numbers_below n))
          (owned_below m q (min n first)),
    )
  where
    distribute : (n x y : ℕ) → n * (x + y) ≡ n * x + n * y
    distribute n x y = grind arith

-- A place below the lower bound of a list of intervals lies in none of them.
in_any_before : (low : ℕ) (rs : List Interval) (j : ℕ) → IsRising low rs → j < low → is_in_any rs j ≡ false
in_any_before low [] j h less = refl
in_any_before low (r ∷ rs) j h less =
    rw (within_before r.first r.stop j (omega (arith, h.0)))
    (in_any_before (r.stop + 1) rs j h.2 (omega (arith, h.0, h.1)))

one_of_two : (a d x : Bool) → (d ≡ true → x ≡ false) → bit (a && (d || x)) ≡ bit (a && d) + bit (a && x)
one_of_two true true x h = let e : x ≡ false = h refl in rw e (omega arith)
one_of_two true false true h = omega arith
one_of_two true false false h = omega arith
one_of_two false d x h = omega arith

distribute : (n x y : ℕ) → n * (x + y) ≡ n * x + n * y
distribute n x y = grind arith

count_none : (n : ℕ) → count_by (λ j. false) (numbers_below n) ≡ 0
count_none zero = count_by-below_zero (λ j. false)
count_none (suc n) =
    let next : suc n ≡ n + 1 = omega arith in
    rw next (count_by-below_more (λ j. false) n ∙ add-zero _ ∙ count_none n)

-- The number of q's instances in a list of its intervals, times the number of servers, is the total length of the
-- intervals.
pub count_covered : (m : Membership) (q n low : ℕ) (rs : List Interval) → q < m.count → IsRising low rs
    → IsOwned m q (first_owned m q n) rs
    → m.count * count_by (λ j. eqb (owner m j) q && is_in_any rs j) (numbers_below n) ≡ reach_of rs
count_covered m q n low [] member h own =
    let none : count_by (λ j. eqb (owner m j) q && false) (numbers_below n) ≡ 0 =
    count_same (λ j. eqb (owner m j) q && false) (λ j. false) n (λ j l. and_right _ _ refl) ∙ count_none n in
    ap (λ x. m.count * x) none ∙ mul-zero m.count
count_covered m q n low (r ∷ rs) member h own =
    let split = count_split (λ j. eqb (owner m j) q && (is_between r.first r.stop j || is_in_any rs j))
    (λ j. eqb (owner m j) q && is_between r.first r.stop j) (λ j. eqb (owner m j) q && is_in_any rs j) n
    (λ j l. one_of_two (eqb (owner m j) q) (is_between r.first r.stop j) (is_in_any rs j) (apart_from j)) in
    let head = count_interval m q n r.first r.stop member own.0 own.1 (omega (arith, h.1)) own.2 in
    let tail = count_covered m q n (r.stop + 1) rs member h.2 own.3 in
    let all = ap (λ x. m.count * x) split in
    omega (
      arith,
      all,
      head,
      tail,
      h.1,
      distribute m.count (count_by (λ j. eqb (owner m j) q && is_between r.first r.stop j) (numbers_below n))
          (count_by (λ j. eqb (owner m j) q && is_in_any rs j) (numbers_below n)),
    )
  where
    apart_from : (j : ℕ) → is_between r.first r.stop j ≡ true → is_in_any rs j ≡ false
    apart_from j e =
        ⊎_elim
        (λ (less : j < r.stop). in_any_before (r.stop + 1) rs j h.2 (omega arith))
        (λ (past : r.stop ≤ j). let no = within_past r.first r.stop j past in absurd (cc))
        (cases_lt j r.stop)
