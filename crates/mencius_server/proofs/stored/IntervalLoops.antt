-- A loop over the instances of an interval has the right effect at each instance, and changes nothing outside.
use Rattle.std.proofs.Common.{◌≡◌, ℕ, ◌+◌, ◌<◌, ◌≤◌, Bool, true, false, cond, ◌&&◌, not, List, [], ◌∷◌, Option, None, Some, eqb, length, set, refl, sym, ◌∙◌, ap, arith, ⊎_elim}
use Rattle.std.specs.Prelude.{is_none}
use Rattle.std.specs.Option.{option_map}
use Rattle.std.proofs.lemmas.List.{get_or-set_other}
use Rattle.std.proofs.lemmas.Grind.{get_or-set_at}
use Rattle.std.proofs.lemmas.Bool.{cases_eq, cases_lt, eq-eqb, ne_eqb, and_left, and_right}
use Rattle.mencius_base.specs.declared.message.Value.TheVariants.{Noop}
use Rattle.mencius_base.specs.Limits.{instance_count}
use Rattle.mencius_base.specs.Members.{owner}
use Rattle.coord_paxos.specs.SlotState.{SlotState}
use Rattle.coord_paxos.specs.Slot.{after_learn}
use Rattle.coord_paxos.specs.Fresh.{new_slot}
use Rattle.mencius_server.specs.declared.skipped_intervals.Interval.{Interval}
use Rattle.mencius_server.specs.declared.owned_interval.OwnedInterval.{OwnedInterval}
use Rattle.mencius_server.specs.Intervals.{is_in_any}
use Rattle.mencius_server.specs.Slots.{is_covered_slot, is_in, is_lacking, is_learned, is_learned_before, is_unlearned, new_slot_at, prepare_at, prepare_of, slot_after_phase, slot_after_skip_in, stored_after_phase, stored_at}
use Rattle.mencius_server.proofs.stored.InstanceGaps.{skipped_here, unowned, unskipped_before, unskipped_other, unskipped_past}
use Rattle.mencius_server.proofs.stored.SkippedSlot.{after_skip_at, after_skip_kept}

-- ---- the instances of an interval

pub in_here : (a : OwnedInterval) (j : ℕ) → owner a.members j ≡ a.server → a.first ≤ j → j < a.stop → is_in a j ≡ true
in_here a j own low high = skipped_here a.members a.server a.first a.stop j own low high

pub out_before : (a : OwnedInterval) (j : ℕ) → j < a.first → is_in a j ≡ false
out_before a j low = unskipped_before a.members a.server a.first a.stop j low

pub out_past : (a : OwnedInterval) (j : ℕ) → a.stop ≤ j → is_in a j ≡ false
out_past a j past = unskipped_past a.members a.server a.first a.stop j past

-- No place between an instance of the server and its next instance is in the interval.
pub out_between : (a : OwnedInterval) (i next : ℕ) → owner a.members i ≡ a.server
    → ((j : ℕ) → i + 1 ≤ j → owner a.members j ≡ owner a.members i → next ≤ j)
    → (j : ℕ) → i + 1 ≤ j → j < next → is_in a j ≡ false
out_between a i next own least j low high =
    unskipped_other a.members a.server a.first a.stop j
    (unowned a.members a.server (i + 1) next (λ j l mine. least j l (mine ∙ sym own)) j low high)

-- A test fails from i up to `end` if it fails outside the interval and at the instances of i's owner from i up to
-- `end`.
pub along_interval : (a : OwnedInterval) (i end : ℕ) (test : ℕ → Bool) → ((j : ℕ) → is_in a j ≡ false → test j ≡ false)
    → owner a.members i ≡ a.server → a.stop ≤ instance_count
    → ((j : ℕ) → i ≤ j → j < end → owner a.members j ≡ owner a.members i → j < instance_count → test j ≡ false)
    → (j : ℕ) → i ≤ j → j < end → test j ≡ false
along_interval a i end test outside own small along j from less = ⊎_elim
    (λ (mine : owner a.members j ≡ owner a.members i). ⊎_elim
    (λ (within : j < a.stop). along j from less mine (omega (arith, within, small)))
    (λ (past : a.stop ≤ j). outside j (out_past a j past))
    (cases_lt j a.stop))
    (λ (other : owner a.members j ≡ owner a.members i → ⊥).
    outside j (unskipped_other a.members a.server a.first a.stop j
    (ne_eqb (owner a.members j) a.server (λ e. other (e ∙ sym own)))))
    (cases_eq (owner a.members j) (owner a.members i))

-- ---- the slots during a loop

-- The loop has changed the slots of the instances below i as f says, and no slot from i on.
pub record IsWalked (f : ℕ → Option SlotState → Option SlotState) (old new : ℕ → Option SlotState) (i : ℕ) : Type 0
  where
    pub done : (j : ℕ) → j < i → new j ≡ f j (old j)
    pub rest : (j : ℕ) → i ≤ j → new j ≡ old j

module _ (f : ℕ → Option SlotState → Option SlotState) (old : ℕ → Option SlotState) where
  pub walked_start : (first : ℕ) → ((j : ℕ) → j < first → f j (old j) ≡ old j) → IsWalked f old old first
  walked_start first none = record { done = λ j low. sym (none j low); rest = λ j low. refl }

  pub walked_more : (now new : ℕ → Option SlotState) (i next : ℕ) → i + 1 ≤ next
      → ((j : ℕ) → i + 1 ≤ j → j < next → f j (old j) ≡ old j)
      → new i ≡ f i (now i) → ((j : ℕ) → (j ≡ i → ⊥) → new j ≡ now j) → IsWalked f old now i → IsWalked f old new next
  walked_more now new i next ahead none here away h = record {
    done = λ j less. ⊎_elim
        (λ (low : j < i). away j (λ at. absurd (omega arith)) ∙ h.done j low)
        (λ (from : i ≤ j). ⊎_elim
        (λ (at : j ≡ i). ap new at ∙ here ∙ ap (f i) (h.rest i (omega arith)) ∙ ap (λ x. f x (old x)) (sym at))
        (λ (off : j ≡ i → ⊥). away j off ∙ h.rest j from ∙ sym (none j (omega arith) less))
        (cases_eq j i))
        (cases_lt j i);
    rest = λ j low. let from : i ≤ j = omega arith in away j (λ at. absurd (omega arith)) ∙ h.rest j from;
  }

  pub walked_on : (now : ℕ → Option SlotState) (i next : ℕ) → i ≤ next
      → ((j : ℕ) → i ≤ j → j < next → f j (old j) ≡ old j) → IsWalked f old now i → IsWalked f old now next
  walked_on now i next ahead none h = record {
    done = λ j less. ⊎_elim
        (λ (low : j < i). h.done j low)
        (λ (from : i ≤ j). h.rest j from ∙ sym (none j from less))
        (cases_lt j i);
    rest = λ j low. h.rest j (omega (arith, ahead, low));
  }

  pub walked_all : (new : ℕ → Option SlotState) (i : ℕ) → ((j : ℕ) → i ≤ j → f j (old j) ≡ old j)
      → IsWalked f old new i → (j : ℕ) → new j ≡ f j (old j)
  walked_all new i none h j =
      ⊎_elim
      (λ (low : j < i). h.done j low)
      (λ (from : i ≤ j). h.rest j from ∙ sym (none j from))
      (cases_lt j i)

-- After a write at one instance, its slot is the result of the write.
pub written_here : (g : Option SlotState → Option SlotState) (now new : ℕ → Option SlotState) (i : ℕ)
    → ((j : ℕ) → new j ≡ cond (eqb j i) (g (now j)) (now j)) → new i ≡ g (now i)
written_here g now new i written = written i ∙ ap (λ bit. cond bit (g (now i)) (now i)) (eq-eqb i i refl)

pub written_off : (g : Option SlotState → Option SlotState) (now new : ℕ → Option SlotState) (i : ℕ)
    → ((j : ℕ) → new j ≡ cond (eqb j i) (g (now j)) (now j))
    → (j : ℕ) → (j ≡ i → ⊥) → new j ≡ now j
written_off g now new i written j off = written j ∙ ap (λ bit. cond bit (g (now j)) (now j)) (ne_eqb j i off)

-- ---- learning no-op

pub after_skip_out : (a : OwnedInterval) (j : ℕ) (o : Option SlotState) → is_in a j ≡ false
    → option_map (slot_after_skip_in a j) o ≡ o
after_skip_out a j o e = after_skip_kept a.members a.server a.first a.stop j o e

pub after_skip_in : (a : OwnedInterval) (j : ℕ) (o : Option SlotState) → is_in a j ≡ true
    → option_map (slot_after_skip_in a j) o ≡ option_map (λ s. after_learn s Noop) o
after_skip_in a j o e = after_skip_at a.members a.server a.first a.stop j o e

-- Learning no-op in an interval changes no slot past the last stored slot of the interval.
pub after_skip_past : (a : OwnedInterval) (end j : ℕ) (old : ℕ → Option SlotState)
    → ((j : ℕ) → end ≤ j → j < a.stop → old j ≡ None) → end ≤ j → option_map (slot_after_skip_in a j) (old j) ≡ old j
after_skip_past a end j old none past = ⊎_elim
    (λ (less : j < a.stop). let gone = none j past less in ap (option_map (slot_after_skip_in a j)) gone ∙ sym gone)
    (λ (over : a.stop ≤ j). after_skip_out a j (old j) (out_past a j over))
    (cases_lt j a.stop)

-- ---- instances that were learned before

pub learned_before_out : (a : OwnedInterval) (rs : List Interval) (ss : List (Option SlotState)) (j : ℕ)
    → is_in a j ≡ false
    → is_learned_before a rs ss j ≡ false
learned_before_out a rs ss j e = and_left _ _ e

pub learned_before_in : (a : OwnedInterval) (rs : List Interval) (ss : List (Option SlotState)) (j : ℕ)
    → is_in a j ≡ true
    → is_learned_before a rs ss j ≡ (not (is_in_any rs j) && is_learned (stored_at ss j))
learned_before_in a rs ss j e = rw e refl

pub learned_before_past : (a : OwnedInterval) (rs : List Interval) (ss : List (Option SlotState)) (end : ℕ)
    → ((j : ℕ) → end ≤ j → j < a.stop → stored_at ss j ≡ None)
    → (j : ℕ) → end ≤ j → is_learned_before a rs ss j ≡ false
learned_before_past a rs ss end none j past = ⊎_elim
    (λ (less : j < a.stop). nowhere (is_in a j) (not (is_in_any rs j)) (stored_at ss j) (none j past less))
    (λ (over : a.stop ≤ j). learned_before_out a rs ss j (out_past a j over))
    (cases_lt j a.stop)
  where
    nowhere : (d x : Bool) (o : Option SlotState) → o ≡ None → (d && (x && is_learned o)) ≡ false
    nowhere true true None e = refl
    nowhere true false o e = refl
    nowhere false x o e = refl
    nowhere true true (Some s) e = absurd (cc)

-- ---- first phases

pub phase_out : (a : OwnedInterval) (p j : ℕ) (o : Option SlotState) → is_in a j ≡ false
    → stored_after_phase a p j o ≡ o
phase_out a p j o e = rw e refl

pub phase_in : (a : OwnedInterval) (p j : ℕ) (o : Option SlotState) → is_in a j ≡ true
    → stored_after_phase a p j o ≡ option_map (slot_after_phase a.members p) o
phase_in a p j None e = rw e refl
phase_in a p j (Some s) e = rw e (go (is_none s.learned) refl)
  where
    go : (d : Bool) → is_none s.learned ≡ d
        → cond (is_none s.learned) (Some (slot_after_phase a.members p s)) (Some s)
        ≡ Some (slot_after_phase a.members p s)
    go true e = rw e refl
    go false e = rw e refl

pub uncovered_out : (a : OwnedInterval) (ss : List (Option SlotState)) (j : ℕ) → is_in a j ≡ false
    → is_covered_slot a ss j ≡ false
uncovered_out a ss j e = and_left _ _ e

pub uncovered_between : (a : OwnedInterval) (ss : List (Option SlotState)) (i next : ℕ) → owner a.members i ≡ a.server
    → ((j : ℕ) → i + 1 ≤ j → owner a.members j ≡ owner a.members i → next ≤ j)
    → (j : ℕ) → i + 1 ≤ j → j < next → is_covered_slot a ss j ≡ false
uncovered_between a ss i next own least j low high = uncovered_out a ss j (out_between a i next own least j low high)

pub unlearned_in : (a : OwnedInterval) (ss : List (Option SlotState)) (j : ℕ) → is_in a j ≡ true
    → is_covered_slot a ss j ≡ is_unlearned (stored_at ss j)
unlearned_in a ss j e = rw e refl

-- A Prepare is sent for an instance if its slot is unlearned.
pub prepare_here : (a : OwnedInterval) (p i : ℕ) (ss : List (Option SlotState)) (d : Bool) (o : Option SlotState)
    → stored_at ss i ≡ o → d ≡ is_unlearned o
    → prepare_at a.members p i o ≡ cond d (prepare_of a p ss i ∷ []) []
prepare_here a p i ss d None e h = rw h refl
prepare_here a p i ss d (Some s) e h = rw (h, e) refl

-- ---- storing new slots

pub new_slot_out : (a : OwnedInterval) (rs : List Interval) (j : ℕ) (o : Option SlotState) → is_in a j ≡ false
    → new_slot_at a rs j o ≡ o
new_slot_out a rs j None e = rw e refl
new_slot_out a rs j (Some s) e = refl

-- If an instance lacks no slot, its slot stays as it was.
pub new_slot_none : (a : OwnedInterval) (rs : List Interval) (ss : List (Option SlotState)) (j : ℕ)
    → is_lacking a rs ss j ≡ false → new_slot_at a rs j (stored_at ss j) ≡ stored_at ss j
new_slot_none a rs ss j e = go (stored_at ss j) refl
  where
    go : (o : Option SlotState) → stored_at ss j ≡ o → new_slot_at a rs j o ≡ o
    go (Some s) is = refl
    go None is = let no : (is_in a j && not (is_in_any rs j)) ≡ false =
        plain (is_in a j) (not (is_in_any rs j))
        (sym (ap (λ o. is_in a j && (not (is_in_any rs j) && is_none o)) is) ∙ e) in
        ap (λ x. cond x (Some (new_slot a.members)) None) no
      where
        plain : (d x : Bool) → (d && (x && true)) ≡ false → (d && x) ≡ false
        plain true true e = e
        plain true false e = refl
        plain false x e = refl

pub new_slot_in : (a : OwnedInterval) (rs : List Interval) (j : ℕ) (o : Option SlotState) → is_in a j ≡ true
    → is_in_any rs j ≡ false
    → cond (is_none o) (Some (new_slot a.members)) o ≡ new_slot_at a rs j o
new_slot_in a rs j None e fails = rw (e, fails) refl
new_slot_in a rs j (Some s) e fails = refl

pub lacking_out : (a : OwnedInterval) (rs : List Interval) (ss : List (Option SlotState)) (j : ℕ) → is_in a j ≡ false
    → is_lacking a rs ss j ≡ false
lacking_out a rs ss j e = and_left _ _ e

pub lacking_covered : (a : OwnedInterval) (rs : List Interval) (ss : List (Option SlotState)) (j : ℕ)
    → is_in_any rs j ≡ true
    → is_lacking a rs ss j ≡ false
lacking_covered a rs ss j e = rw e (and_right (is_in a j) _ refl)

-- The loop may pass over instances that lack no slot.
pub leapt : (a : OwnedInterval) (rs : List Interval) (old now : List (Option SlotState)) (i next : ℕ) → i ≤ next
    → ((j : ℕ) → i ≤ j → j < next → is_lacking a rs old j ≡ false)
    → IsWalked (new_slot_at a rs) (stored_at old) (stored_at now) i
    → IsWalked (new_slot_at a rs) (stored_at old) (stored_at now) next
leapt a rs old now i next ahead none walked =
    walked_on (new_slot_at a rs) (stored_at old) (stored_at now) i next ahead
    (λ j l h. new_slot_none a rs old j (none j l h)) walked

module _ (a : OwnedInterval) (rs : List Interval) (old now : List (Option SlotState)) (i : ℕ)
    (walked : IsWalked (new_slot_at a rs) (stored_at old) (stored_at now) i) where
  -- An instance with a stored slot lacks none.
  pub stored_whole : is_none (stored_at now i) ≡ false → is_lacking a rs old i ≡ false
  stored_whole some =
      and_right (is_in a i) _
      (and_right (not (is_in_any rs i)) _ (ap is_none (sym (walked.rest i (omega arith))) ∙ some))

  -- The loop may store a new slot at an instance that lacks one.
  pub filled : (next : ℕ) → owner a.members i ≡ a.server → a.first ≤ i → i < a.stop → i + 1 ≤ next
      → ((j : ℕ) → i + 1 ≤ j → owner a.members j ≡ owner a.members i → next ≤ j)
      → is_in_any rs i ≡ false → is_none (stored_at now i) ≡ true → i < length now
      → IsWalked (new_slot_at a rs) (stored_at old) (stored_at (set now i (Some (new_slot a.members)))) next
  filled next own low high ahead least clear none within =
      walked_more (new_slot_at a rs) (stored_at old) (stored_at now) (stored_at new) i next ahead
      (λ j l h. new_slot_out a rs j (stored_at old j) (out_between a i next own least j l h))
      (get_or-set_at now i i (Some (new_slot a.members)) None refl within
      ∙ sym (ap (λ d. cond d (Some (new_slot a.members)) (stored_at now i)) none)
      ∙ new_slot_in a rs i (stored_at now i) (in_here a i own low high) clear)
      (λ j off. get_or-set_other now i j (Some (new_slot a.members)) None off)
      walked
    where
      new : List (Option SlotState)
      new = set now i (Some (new_slot a.members))
