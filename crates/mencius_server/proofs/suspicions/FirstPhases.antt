-- A loop over slots starts first phases and sends Prepares, and the outbox has room for all of them.
use Rattle.std.proofs.Common.{◌≡◌, ℕ, zero, suc, ◌+◌, ◌*◌, ◌/◌, ◌<◌, ◌≤◌, Option, Some, Bool, true, false, cond, eqb, List, [], ◌∷◌, ◌++◌, filter, length, map, max, refl, sym, ◌∙◌, ap, subst, arith, append-nil, append_assoc, ⊎_elim}
use Rattle.std.specs.List.{count_by, list_any}
use Rattle.std.specs.Prelude.{is_none, slice_get, ◌&&◌}
use Rattle.std.proofs.Math.Nat.{div-mul-le_self, div-zero, le-div_iff_mul-le}
use Rattle.std.proofs.lemmas.Nat.{div-mul-add}
use Rattle.std.proofs.lemmas.List.{get_or_past, length-map, map-append}
use Rattle.std.proofs.lemmas.List.Sums.{length-filter}
use Rattle.std.proofs.lemmas.Bool.{and_parts, cases_Bool, cases_eq, cases_lt, eqb-true, ltb-false, ne_eqb}
use Rattle.mencius_base.specs.declared.refusal.Refusal.TheVariants.{NothingToRevoke, RoundsFull}
use Rattle.mencius_base.specs.Outbox.{OutboxState, outbox_full}
use Rattle.mencius_base.specs.Members.{Membership, numbers_below, instances, owner}
use Rattle.mencius_base.specs.declared.message.Message.{Message}
use Rattle.mencius_model.proofs.trace.NumberLists.{any-filter, any-instances, count_by-below_le, count_by-below_more, filter-below_more, filter-below_zero, get_or-map-instances, length-map-instances}
use Rattle.coord_paxos.specs.SlotState.{SlotState}
use Rattle.coord_paxos.specs.Fresh.{new_slot}
use Rattle.mencius_server.specs.State.{FitsAt, IsServer, ServerState, slot}
use Rattle.mencius_server.specs.Machine.{after_suspect, is_covered_in, is_spent_at, is_covered_at, prepare_for, reach_at, next_round_of, slot_after_suspect, suspect_cause, suspect_sent, with_next_phase}
use Rattle.mencius_server.proofs.invariant.ServerInvariant.{FitsAt-slot, KeepsAt, KeepsAt-fits, KeepsAt-new}
use Rattle.mencius_server.proofs.invariant.SlotFits.{FitsAt-cond}
use Rattle.mencius_base.specs.Limits.{greatest_round, instance_count}

-- The messages for the places below i that pass the test come after the earlier messages.
pub record IsSentUpTo (f : ℕ → Message) (test : ℕ → Bool) (before after : List Message) (i : ℕ) : Type 0 where
  pub sent : after ≡ before ++ map f (filter test (numbers_below i))

pub sent_none : (f : ℕ → Message) (test : ℕ → Bool) (before : List Message) → IsSentUpTo f test before before 0
sent_none f test before =
    record { sent = sym (ap (λ (xs : List ℕ). before ++ map f xs) (filter-below_zero test) ∙ append-nil before) }

one_sent : (f : ℕ → Message) (i : ℕ) (a : Bool) → map f (cond a (i ∷ []) []) ≡ cond a (f i ∷ []) []
one_sent f i true = refl
one_sent f i false = refl

pub sent_more : (f : ℕ → Message) (test : ℕ → Bool) (before after new all : List Message) (i : ℕ)
    → new ≡ cond (test i) (f i ∷ []) [] → all ≡ after ++ new
    → IsSentUpTo f test before after i → IsSentUpTo f test before all (i + 1)
sent_more f test before after new all i here pushed old = record {
  sent =
      pushed ∙ ap (λ (xs : List Message). xs ++ new) old.sent
      ∙ append_assoc before (map f (filter test (numbers_below i))) new
      ∙ ap (λ (xs : List Message). before ++ (map f (filter test (numbers_below i)) ++ xs)) (here ∙ sym (one_sent f i (test i)))
      ∙ ap (λ (xs : List Message). before ++ xs)
      (sym (map-append f (filter test (numbers_below i)) (cond (test i) (i ∷ []) []))
      ∙ ap (map f) (sym (filter-below_more test i)));
}

-- There is room for one message for each place from i on that is below n and passes the test.
pub record HasRoomFrom (test : ℕ → Bool) (n room i : ℕ) : Type 0 where
  pub enough : count_by test (numbers_below n) ≤ room + count_by test (numbers_below i)

pub room_none : (test : ℕ → Bool) (n room : ℕ) → count_by test (numbers_below n) ≤ room → HasRoomFrom test n room 0
room_none test n room h = record { enough = omega (arith, h) }

pub room_here : (test : ℕ → Bool) (n room i : ℕ) → i < n → test i ≡ true → HasRoomFrom test n room i → 0 < room
room_here test n room i within here has =
    let more : count_by test (numbers_below (i + 1)) ≡ count_by test (numbers_below i) + 1 =
    count_by-below_more test i ∙ ap (λ (a : Bool). count_by test (numbers_below i) + cond a 1 0) here in
    let all : count_by test (numbers_below (i + 1)) ≤ count_by test (numbers_below n) =
    count_by-below_le test (i + 1) n (omega arith) in
    omega (arith, more, all, has.enough)

pub room_more : (test : ℕ → Bool) (n room new i : ℕ) → new + cond (test i) 1 0 ≡ room → HasRoomFrom test n room i
    → HasRoomFrom test n new (i + 1)
room_more test n room new i used has = record { enough = omega (arith, count_by-below_more test i, used, has.enough) }

-- Rounds have the same order as their ballots.
pub rounds_ordered : (k a b : ℕ) → a ≤ b → a / k ≤ b / k
rounds_ordered zero a b less = omega (arith, div-zero a)
rounds_ordered (suc k) a b less =
    (le-div_iff_mul-le {k = suc k} {x = a / suc k} {y = b} (omega arith)).1 (omega (arith, less, div-mul-le_self a (suc k)))

-- After a slot starts its next first phase, its next round is greater by one.
pub round_next : (m : Membership) (p : ℕ) (s : SlotState) → p < m.count
    → next_round_of m (with_next_phase m p s) ≡ next_round_of m s + 1
round_next m p s member =
    let tried : (next_round_of m s * m.count + p) / m.count ≡ next_round_of m s =
    div-mul-add (next_round_of m s) m.count p member in
    ap (λ n. max n (s.promised / m.count) + 1) tried ∙ omega arith

abbrev slots_after_suspect : ServerState → ℕ → List SlotState
slots_after_suspect s q = map (λ (j : ℕ). slot_after_suspect s.members s.id q (reach_at s q) j (slot s j)) instances

-- A server still has the facts of every server after its suspicion of another server.
pub IsServer-suspect : (s : ServerState) (q : ℕ) → (s.id ≡ q → ⊥) → IsServer s → IsServer (after_suspect s q)
IsServer-suspect s q other kept = record {
  member = kept.member;
  near = kept.near;
  same = λ i. (fits i).same;
  own = λ i. (fits i).own;
  unsaid = λ i. (fits i).unsaid;
}
  where
    started : (i : ℕ) → is_covered_in s.members q (reach_at s q) i (slot s i) ≡ true
        → FitsAt s s.front i (with_next_phase s.members s.id (slot s i))
    started i e =
        let theirs : owner s.members i ≡ q = eqb-true _ _ (and_parts _ _ (and_parts _ _ e).0).0 in
        record {
          stays = λ known. known;
          said = λ mine. absurd (other (sym mine ∙ theirs));
          same = kept.same i;
          own = λ mine. absurd (other (sym mine ∙ theirs));
          unsaid = λ mine ahead. refl;
        }

    given : (i : ℕ) → FitsAt s s.front i (slot_after_suspect s.members s.id q (reach_at s q) i (slot s i))
    given i = FitsAt-cond s s.front i (is_covered_in s.members q (reach_at s q) i (slot s i)) _ (slot s i) (started i)
        (FitsAt-slot s i kept)

    fits : (i : ℕ) → KeepsAt s s.front i (slot (after_suspect s q) i)
    fits i =
        ⊎_elim
        (λ (small : i < instance_count). subst (KeepsAt s s.front i)
        (sym (get_or-map-instances _ i (new_slot s.members) small)) (KeepsAt-fits s s.front i _ (given i)))
        (λ (past : instance_count ≤ i).
        let none : length (slots_after_suspect s q) ≤ i =
        rw (length-map-instances (λ (j : ℕ). slot_after_suspect s.members s.id q (reach_at s q) j (slot s j))) past in
        subst (KeepsAt s s.front i) (sym (get_or_past (slots_after_suspect s q) i (new_slot s.members) none))
        (KeepsAt-new s s.front i))
        (cases_lt i instance_count)

-- ---- the cause for which a suspicion is refused

none_given : (g : ℕ → Bool) (xs : List ℕ) → is_none (slice_get (filter g xs) 0) ≡ eqb (count_by g xs) 0
none_given g xs = go (filter g xs) ∙ ap (λ (n : ℕ). eqb n 0) (length-filter g xs) where
  go : (ys : List ℕ) → is_none (slice_get ys 0) ≡ eqb (length ys) 0
  go [] = refl
  go (y ∷ ys) = sym (ne_eqb (length (y ∷ ys)) 0 (λ e. absurd (omega arith)))

pub suspect_cause_is : (s : ServerState) (o : OutboxState) (q : ℕ) (a d : Bool) → eqb s.id q ≡ false
    → eqb (count_by (is_covered_at s q) instances) 0 ≡ a
    → list_any (is_spent_at s) (filter (is_covered_at s q) instances) ≡ d
    → suspect_cause s o q
    ≡ cond a (Some NothingToRevoke)
    (cond d (Some RoundsFull) (outbox_full o (count_by (is_covered_at s q) instances)))
suspect_cause_is s o q a d other none full =
    let many : length (suspect_sent s q) ≡ count_by (is_covered_at s q) instances =
    length-map (filter (is_covered_at s q) instances) (prepare_for s) ∙ length-filter (is_covered_at s q) instances in
    rw (other, none_given (is_covered_at s q) instances, none, full, many)

pub rounds_small : (s : ServerState) (q : ℕ) → list_any (is_spent_at s) (filter (is_covered_at s q) instances) ≡ false
    → (j : ℕ) → j < instance_count → is_covered_at s q j ≡ true → next_round_of s.members (slot s j) ≤ greatest_round
rounds_small s q none j small covered =
    ⊎_elim
    (λ (full : is_spent_at s j ≡ true).
    let some : list_any (λ (i : ℕ). is_covered_at s q i && is_spent_at s i) instances ≡ true =
    any-instances (λ (i : ℕ). is_covered_at s q i && is_spent_at s i) j small (rw covered full) in
    let no = sym (any-filter (is_covered_at s q) (is_spent_at s) instances) ∙ none in
    absurd (cc))
    (λ (room : is_spent_at s j ≡ false). ltb-false greatest_round (next_round_of s.members (slot s j)) room)
    (cases_Bool (is_spent_at s j))

-- A fact holds for all slots that began a first phase before place `next` if it holds for those before i and for the
-- slot at i.
pub phase_each : (begins : ℕ → Bool) (now new : ℕ → Option SlotState) (Holds : SlotState → Type 0) (i next : ℕ)
    → ((j : ℕ) → i + 1 ≤ j → j < next → begins j ≡ false)
    → ((j : ℕ) → (j ≡ i → ⊥) → new j ≡ now j)
    → ((j : ℕ) (s : SlotState) → j < i → begins j ≡ true → now j ≡ Some s → Holds s)
    → ((s : SlotState) → begins i ≡ true → new i ≡ Some s → Holds s)
    → (j : ℕ) (s : SlotState) → j < next → begins j ≡ true → new j ≡ Some s → Holds s
phase_each begins now new Holds i next between off before here j s less started stored =
    ⊎_elim
    (λ (low : j < i). before j s low started (sym (off j (λ e. absurd (omega arith))) ∙ stored))
    (λ (from : i ≤ j). ⊎_elim
    (λ (at : j ≡ i). here s (sym (ap begins at) ∙ started) (sym (ap new at) ∙ stored))
    (λ (past : j ≡ i → ⊥).
    let both : true ≡ false = sym started ∙ between j (omega arith) less in absurd (cc))
    (cases_eq j i))
    (cases_lt j i)
