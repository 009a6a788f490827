-- A loop that goes from one instance of a server to its next one passes only over instances where nothing happens.
use Rattle.std.proofs.Common.{◌≡◌, ℕ, ◌+◌, ◌-◌, ◌<◌, ◌≤◌, Bool, true, false, ⊎_elim, cond, eqb, List, ◌++◌, map, filter, sym, ◌∙◌, ap, arith}
use Rattle.std.specs.List.{count_by}
use Rattle.std.specs.Prelude.{is_none}
use Rattle.std.proofs.lemmas.Bool.{and_left, and_parts, and_right, cases_eq, cases_lt, eq-eqb, eqb-true, le-leb, le-ltb, leb-true, lt-leb, lt-ltb, ne_eqb}
use Rattle.mencius_base.specs.declared.message.Message.{Message}
use Rattle.mencius_base.specs.Members.{Membership, numbers_below, owner}
use Rattle.mencius_model.proofs.trace.NumberLists.{count_by-below_none, filter-below_none}
use Rattle.coord_paxos.specs.SlotState.{SlotState}
use Rattle.mencius_server.specs.State.{ServerState, slot}
use Rattle.mencius_server.specs.Machine.{is_free_at, is_covered_in, is_skipped, slot_after_skip}
use Rattle.mencius_server.proofs.suspicions.FirstPhases.{HasRoomFrom, IsSentUpTo}
use Rattle.mencius_model.proofs.trace.Lists.{eqb_swap}
use Rattle.mencius_server.proofs.stored.SkipLoop.{IsCountUpTo}

-- A server owns no instance between a place and its first instance at or above that place.
pub unowned : (m : Membership) (q from next : ℕ) → ((i : ℕ) → from ≤ i → owner m i ≡ q → next ≤ i) → (j : ℕ)
    → from ≤ j → j < next → eqb (owner m j) q ≡ false
unowned m q from next least j low high =
    ne_eqb (owner m j) q (λ mine. let h : next ≤ j = least j low mine in absurd (omega arith))

-- A count stays the same over places that fail its test.
pub count_gap : (test : ℕ → Bool) (i n count : ℕ) → i ≤ n → ((j : ℕ) → i ≤ j → j < n → test j ≡ false)
    → IsCountUpTo test i count → IsCountUpTo test n count
count_gap test i n count h none before =
    let all : i + (n - i) ≡ n = omega arith in
    record {
      counted = before.counted
          ∙ sym (ap (λ (x : ℕ). count_by test (numbers_below x)) (sym all)
          ∙ count_by-below_none test i (n - i) (λ j low high. none j low (omega arith)));
    }

-- A count stays the same at a later or an earlier place if all places in between fail its test.
pub count_to : (test : ℕ → Bool) (i n count : ℕ) → ((j : ℕ) → i ≤ j → j < n → test j ≡ false)
    → ((j : ℕ) → n ≤ j → j < i → test j ≡ false) → IsCountUpTo test i count → IsCountUpTo test n count
count_to test i n count ahead behind before =
    ⊎_elim
    (λ (less : n < i).
    let all : n + (i - n) ≡ i = omega arith in
    record {
      counted = before.counted
          ∙ (ap (λ (x : ℕ). count_by test (numbers_below x)) (sym all)
          ∙ count_by-below_none test n (i - n) (λ j low high. behind j low (omega arith)));
    })
    (λ (more : i ≤ n). count_gap test i n count more ahead before)
    (cases_lt n i)

pub sent_gap : (f : ℕ → Message) (test : ℕ → Bool) (before after : List Message) (i n : ℕ) → i ≤ n
    → ((j : ℕ) → i ≤ j → j < n → test j ≡ false)
    → IsSentUpTo f test before after i → IsSentUpTo f test before after n
sent_gap f test before after i n h none old =
    let all : i + (n - i) ≡ n = omega arith in
    record {
      sent = old.sent
          ∙ ap (λ (xs : List ℕ). before ++ map f xs)
          (sym (ap (λ (x : ℕ). filter test (numbers_below x)) (sym all)
          ∙ filter-below_none test i (n - i) (λ j low high. none j low (omega arith))));
    }

pub sent_to : (f : ℕ → Message) (test : ℕ → Bool) (before after : List Message) (i n : ℕ)
    → ((j : ℕ) → i ≤ j → j < n → test j ≡ false) → ((j : ℕ) → n ≤ j → j < i → test j ≡ false)
    → IsSentUpTo f test before after i → IsSentUpTo f test before after n
sent_to f test before after i n ahead behind old =
    ⊎_elim
    (λ (less : n < i).
    let all : n + (i - n) ≡ i = omega arith in
    record {
      sent = old.sent
          ∙ ap (λ (xs : List ℕ). before ++ map f xs) (ap (λ (x : ℕ). filter test (numbers_below x)) (sym all)
          ∙ filter-below_none test n (i - n) (λ j low high. behind j low (omega arith)));
    })
    (λ (more : i ≤ n). sent_gap f test before after i n more ahead old)
    (cases_lt n i)

pub room_gap : (test : ℕ → Bool) (n room i stop : ℕ) → i ≤ stop → ((j : ℕ) → i ≤ j → j < stop → test j ≡ false)
    → HasRoomFrom test n room i → HasRoomFrom test n room stop
room_gap test n room i stop h none has =
    let all : i + (stop - i) ≡ stop = omega arith in
    record {
      enough = let e = ap (λ (x : ℕ). count_by test (numbers_below x)) (sym all)
          ∙ count_by-below_none test i (stop - i) (λ j low high. none j low (omega arith)) in omega
          (arith, has.enough, e);
    }

-- A Skip gives up no instance of another server.
pub unskipped_other : (m : Membership) (q first stop j : ℕ) → eqb (owner m j) q ≡ false
    → is_skipped m q first stop j ≡ false
unskipped_other m q first stop j e = and_left _ _ (and_left _ _ (eqb_swap q (owner m j) ∙ e))

pub unskipped_before : (m : Membership) (q first stop j : ℕ) → j < first → is_skipped m q first stop j ≡ false
unskipped_before m q first stop j h = and_left _ _ (and_right _ _ (lt-leb first j h))

pub unskipped_past : (m : Membership) (q first stop j : ℕ) → stop ≤ j → is_skipped m q first stop j ≡ false
unskipped_past m q first stop j past = and_right _ _ (le-ltb j stop past)

-- The slot of an instance stays as it was if the Skip does not give up this instance.
pub slot_kept : (m : Membership) (q first stop j : ℕ) (s : SlotState) → is_skipped m q first stop j ≡ false
    → slot_after_skip m q first stop j s ≡ s
slot_kept m q first stop j s e = rw e

-- A suspicion covers no instance of another server.
pub unrevoked_other : (m : Membership) (q reach j : ℕ) (s : SlotState) → eqb (owner m j) q ≡ false
    → is_covered_in m q reach j s ≡ false
unrevoked_other m q reach j s e = and_left _ _ (and_left _ _ e)

pub unrevoked_past : (m : Membership) (q reach j : ℕ) (s : SlotState) → reach ≤ j → is_covered_in m q reach j s ≡ false
unrevoked_past m q reach j s past = and_left _ _ (and_right _ _ (le-ltb j reach past))

-- A Skip gives up each instance of the skipper in its interval.
pub skipped_here : (m : Membership) (q first stop j : ℕ) → owner m j ≡ q → first ≤ j → j < stop
    → is_skipped m q first stop j ≡ true
skipped_here m q first stop j mine low high =
    rw (eq-eqb q (owner m j) (sym mine), le-leb first j low) (lt-ltb j stop high)

pub one_at_most : (a : Bool) → cond a 1 0 ≤ 1
one_at_most true = omega arith
one_at_most false = omega arith

-- A free instance is an own unlearned instance at or above the front.
pub free_facts : (s : ServerState) (i : ℕ) → is_free_at s i ≡ true
    → (owner s.members i ≡ s.id) × (s.front ≤ i) × (is_none (slot s i).learned ≡ true)
free_facts s i free =
    let parts = and_parts _ _ free in
    let place = and_parts _ _ parts.0 in
    (eqb-true _ _ place.0, leb-true _ _ place.1, parts.1)

-- An instance is not free if it is learned, below the front or owned by another server.
pub learned_unfree : (s : ServerState) (j : ℕ) → is_none (slot s j).learned ≡ false → is_free_at s j ≡ false
learned_unfree s j e = and_right _ _ e

pub before_unfree : (s : ServerState) (j : ℕ) → j < s.front → is_free_at s j ≡ false
before_unfree s j low = and_left _ _ (and_right _ _ (lt-leb s.front j low))

pub other_unfree : (s : ServerState) (j : ℕ) → eqb (owner s.members j) s.id ≡ false → is_free_at s j ≡ false
other_unfree s j e = and_left _ _ (and_left _ _ e)

-- If a test fails below a place, at this place and up to the next one, it fails at all places below the next one.
pub none_more : (test : ℕ → Bool) (i next : ℕ) → test i ≡ false → ((j : ℕ) → i + 1 ≤ j → j < next → test j ≡ false)
    → ((j : ℕ) → j < i → test j ≡ false) → (j : ℕ) → j < next → test j ≡ false
none_more test i next here between before j high =
    ⊎_elim
    (λ (low : j < i). before j low)
    (λ (from : i ≤ j). ⊎_elim
    (λ (at : j ≡ i). rw at here)
    (λ (off : j ≡ i → ⊥). between j (omega arith) high)
    (cases_eq j i))
    (cases_lt j i)
