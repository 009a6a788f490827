-- The notes about waiting tickets and their marks stay right as the slots change.
use Rattle.std.proofs.Common.{◌≡◌, ℕ, ◌<◌, ◌≤◌, Bool, true, false, ⊎_elim, ◌⊎◌, inl, inr, Option, Some, None, cond, eqb, ltb, get_or, length, List, refl, sym, ◌∙◌, ap, arith, not, ◌&&◌, ◌||◌}
use Rattle.std.specs.Prelude.{is_none, if◌then◌else◌}
use Rattle.std.specs.List.{list_any}
use Rattle.std.proofs.lemmas.Bool.{and_parts, cases_Bool, cases_eq, cases_lt, eq-eqb, eqb-true, lt-ltb, ltb-true, or_cases, or_left, or_right}
use Rattle.std.proofs.lemmas.List.{get_or-set_other, get_or_past}
use Rattle.std.proofs.lemmas.Grind.{get_or-set_at}
use Rattle.mencius_base.specs.declared.message.Value.{Value}
use Rattle.mencius_base.specs.declared.message.Value.TheVariants.{Ticket}
use Rattle.mencius_base.specs.Members.{instances, owner}
use Rattle.mencius_model.proofs.trace.Lists.{eqb_swap}
use Rattle.mencius_model.proofs.trace.NumberLists.{any-instances, any-instances_found}
use Rattle.coord_paxos.specs.SlotState.{SlotState}
use Rattle.coord_paxos.specs.Fresh.{new_slot}
use Rattle.mencius_server.specs.Machine.{after_submit, is_suggested_again, is_ticket, own_waiting_at, own_waiting_of, suggested_at}
use Rattle.mencius_model.specs.Server.{ticket_of}
use Rattle.mencius_server.specs.State.{IsServer, ServerState, slot}
use Rattle.mencius_base.specs.Limits.{instance_count}
use Rattle.mencius_model.specs.Rules.{is_noop}

-- Two tests that imply each other are equal.
pub both_ways : (a d : Bool) → (a ≡ true → d ≡ true) → (d ≡ true → a ≡ true) → a ≡ d
both_ways true d each whenever = sym (each refl)
both_ways false true each whenever = whenever refl
both_ways false false each whenever = refl

-- Both servers have suggested the same own tickets.
pub record SaysSame (s x : ServerState) : Type 0 where
  pub same : (j : ℕ) → j < instance_count → suggested_at x j ≡ suggested_at s j

pub past_same : (s x : ServerState) → SaysSame s x → (t i : ℕ)
    → list_any (is_suggested_again x t i) instances ≡ list_any (is_suggested_again s t i) instances
past_same s x said t i =
    both_ways _ _
    (λ h. let found = any-instances_found (is_suggested_again x t i) h in
    any-instances (is_suggested_again s t i) found.0 found.1
    (ap (λ (o : Option ℕ). ltb i found.0 && is_ticket t o) (sym (said.same found.0 found.1)) ∙ found.2))
    (λ h. let so = any-instances_found (is_suggested_again s t i) h in
    any-instances (is_suggested_again x t i) so.0 so.1
    (ap (λ (o : Option ℕ). ltb i so.0 && is_ticket t o) (said.same so.0 so.1) ∙ so.2))

unless_none : (d : Bool) (t : ℕ) → (if not d then Some t else None) ≡ None → d ≡ true
unless_none true t h = refl
unless_none false t h = absurd (cc)

if_none : (d : Bool) (t : ℕ) → (if d then Some t else None) ≡ None → d ≡ false
if_none true t h = absurd (cc)
if_none false t h = refl

-- No ticket begins to wait at an instance, unless no-op was learned there since.
waits_cases : (s x : ServerState) → SaysSame s x → (j : ℕ) → own_waiting_at s j ≡ None
    → (is_noop (slot x j).learned ≡ true → (is_noop (slot s j).learned ≡ true) ⊎ (suggested_at s j ≡ None))
    → (o : Option ℕ) → suggested_at s j ≡ o → own_waiting_of x j o ≡ None
waits_cases s x said j none since None e = refl
waits_cases s x said j none since (Some t) e =
    elim (cases_Bool (is_noop (slot x j).learned)) [
      | inl lost ↦ elim (since lost) [
        | inl before ↦
            let past : list_any (is_suggested_again s t j) instances ≡ true =
            unless_none _ t (rw before at (rw e at none)) in
            rw (lost, past_same s x said t j, past) refl
        | inr nothing ↦ let turned = sym e ∙ nothing in absurd (cc)
      ]
      | inr kept ↦ rw kept refl
    ]

pub waits_none : (s x : ServerState) → SaysSame s x → (j : ℕ) → j < instance_count → own_waiting_at s j ≡ None
    → (is_noop (slot x j).learned ≡ true → (is_noop (slot s j).learned ≡ true) ⊎ (suggested_at s j ≡ None))
    → own_waiting_at x j ≡ None
waits_none s x said j small none since =
    ap (own_waiting_of x j) (said.same j small) ∙ waits_cases s x said j none since (suggested_at s j) refl

-- ---- another suggestion

pub ticket_is : (t : ℕ) (o : Option ℕ) → is_ticket t o ≡ true → o ≡ Some t
ticket_is t None h = absurd (cc)
ticket_is t (Some u) h = ap Some (eqb-true u t h)

-- Each suggested ticket was suggested at an instance below the front.
pub said_before : (s : ServerState) → IsServer s → (j t : ℕ) → suggested_at s j ≡ Some t → j < s.front
said_before s kept j t e =
    ⊎_elim
    (λ (low : j < s.front). low)
    (λ (past : s.front ≤ j). absurd (unsaid past (eqb (owner s.members j) s.id) refl))
    (cases_lt j s.front)
  where
    unsaid : s.front ≤ j → (a : Bool) → eqb (owner s.members j) s.id ≡ a → ⊥
    unsaid past true mine =
        let none : (slot s j).proposal ≡ None = kept.unsaid j (eqb-true _ _ mine) past in
        let turned = rw (mine, none) at e in cc
    unsaid past false other = let turned = rw other at e in cc

either_no : (a d : Bool) → (a ≡ true → ⊥) → (d ≡ true → ⊥) → (a || d) ≡ false
either_no true d unlike apart = absurd (unlike refl)
either_no false true unlike apart = absurd (apart refl)
either_no false false unlike apart = refl

and-true : (a : Bool) → (a && true) ≡ a
and-true true = refl
and-true false = refl

module _ (s : ServerState) (i t : ℕ) (kept : IsServer s) (mine : owner s.members i ≡ s.id) (ahead : s.front ≤ i)
    (within : i < length s.slots) (small : i < instance_count) where
  abbrev later : ServerState
  later = after_submit s i t

  here : slot later i ≡ record (slot s i) { proposal = Some (Ticket t) }
  here = get_or-set_at s.slots i i _ (new_slot s.members) refl within

  there : (j : ℕ) → (j ≡ i → ⊥) → slot later j ≡ slot s j
  there j off = get_or-set_other s.slots i j _ (new_slot s.members) off

  said_here : suggested_at later i ≡ Some t
  said_here = rw (eq-eqb (owner s.members i) s.id mine) (ap (λ (y : SlotState). ticket_of y.proposal) here)

  pub said_there : (j : ℕ) → (j ≡ i → ⊥) → suggested_at later j ≡ suggested_at s j
  said_there j off =
      ap (λ (y : SlotState). cond (eqb (owner s.members j) s.id) (ticket_of y.proposal) None) (there j off)

  unsaid_here : (u : ℕ) → suggested_at s i ≡ Some u → ⊥
  unsaid_here u e = let low : i < s.front = said_before s kept i u e in omega arith

  past_more : (u j : ℕ)
      → list_any (is_suggested_again later u j) instances
      ≡ (list_any (is_suggested_again s u j) instances || (eqb t u && ltb j i))
  past_more u j = both_ways _ _ more fewer
    where
      found : (further : ℕ) → (ltb j further && is_ticket u (suggested_at later further)) ≡ true
          → further < instance_count
          → (list_any (is_suggested_again s u j) instances || (eqb t u && ltb j i)) ≡ true
      found further e small =
          let parts = and_parts (ltb j further) (is_ticket u (suggested_at later further)) e in
          ⊎_elim
          (λ (at : further ≡ i).
          let ticket : Some t ≡ Some u = sym said_here ∙ ap (suggested_at later) (sym at) ∙ ticket_is u _ parts.1 in
          let same : t ≡ u = cc in
          or_right (list_any (is_suggested_again s u j) instances) _ (rw (eq-eqb t u same) (rw (← at) parts.0)))
          (λ (off : further ≡ i → ⊥).
          or_left _ (eqb t u && ltb j i)
          (any-instances (is_suggested_again s u j) further small
          (ap (λ (o : Option ℕ). ltb j further && is_ticket u o) (sym (said_there further off)) ∙ e)))
          (cases_eq further i)

      more : list_any (is_suggested_again later u j) instances ≡ true
          → (list_any (is_suggested_again s u j) instances || (eqb t u && ltb j i)) ≡ true
      more h = let so = any-instances_found (is_suggested_again later u j) h in found so.0 so.2 so.1

      fewer : (list_any (is_suggested_again s u j) instances || (eqb t u && ltb j i)) ≡ true
          → list_any (is_suggested_again later u j) instances ≡ true
      fewer h =
          ⊎_elim
          (λ (e : list_any (is_suggested_again s u j) instances ≡ true).
          let found = any-instances_found (is_suggested_again s u j) e in
          let parts = and_parts (ltb j found.0) (is_ticket u (suggested_at s found.0)) found.2 in
          let off : found.0 ≡ i → ⊥ = λ at. unsaid_here u (ap (suggested_at s) (sym at) ∙ ticket_is u _ parts.1) in
          any-instances (is_suggested_again later u j) found.0 found.1
          (ap (λ (o : Option ℕ). ltb j found.0 && is_ticket u o) (said_there found.0 off) ∙ found.2))
          (λ (e : (eqb t u && ltb j i) ≡ true).
          let parts = and_parts (eqb t u) (ltb j i) e in
          let same : t ≡ u = eqb-true t u parts.0 in
          any-instances (is_suggested_again later u j) i small
          (ap (λ (o : Option ℕ). ltb j i && is_ticket u o) said_here ∙ rw (parts.1, parts.0) refl))
          (or_cases _ _ h)

  -- A ticket that waits after a suggestion waited before it.
  pub waits_later : (j : ℕ) → is_none (slot s i).learned ≡ true → own_waiting_at s j ≡ None → own_waiting_at later j
      ≡ None
  waits_later j blank none =
      ⊎_elim
      (λ (at : j ≡ i). rw at (ap (own_waiting_of later i) said_here ∙ free (slot s i).learned refl))
      (λ (off : j ≡ i → ⊥). ap (own_waiting_of later j) (said_there j off) ∙ kept_waiting off (suggested_at s j) refl)
      (cases_eq j i)
    where
      free : (o : Option Value) → (slot s i).learned ≡ o → own_waiting_of later i (Some t) ≡ None
      free None e =
          let known : (slot later i).learned ≡ None = ap (λ (y : SlotState). y.learned) here ∙ e in rw known refl
      free (Some x) e = let no = rw e at blank in absurd (cc)

      longer : (a d z : Bool) (u : ℕ) → (a && not d) ≡ false → (if a && not (d || z) then Some u else None) ≡ None
      longer false d z u h = refl
      longer true true z u h = refl
      longer true false z u h = absurd (cc)

      kept_waiting : (j ≡ i → ⊥) → (o : Option ℕ) → suggested_at s j ≡ o → own_waiting_of later j o ≡ None
      kept_waiting off None e = refl
      kept_waiting off (Some u) e =
          let before = if_none _ u (rw e at none) in
          rw (there j off, past_more u j)
          (longer (is_noop (slot s j).learned)
          (list_any (is_suggested_again s u j) instances) (eqb t u && ltb j i) u before)

  -- The marks are right after a suggestion.
  pub suggested_again_later : (old new : List Bool) → length old ≤ s.front
      → ((j u : ℕ) → j < instance_count → suggested_at s j ≡ Some u
      → list_any (is_suggested_again s u j) instances ≡ get_or old j false)
      → ((j : ℕ) → get_or new j false ≡ (get_or old j false || is_ticket t (suggested_at s j)))
      → (j u : ℕ) → j < instance_count → suggested_at later j ≡ Some u
      → list_any (is_suggested_again later u j) instances ≡ get_or new j false
  suggested_again_later old new short marks marked j u inside e = past_more u j
      ∙ ⊎_elim at_place elsewhere (cases_eq j i)
    where
      at_place : j ≡ i → (list_any (is_suggested_again s u j) instances || (eqb t u && ltb j i)) ≡ get_or new j false
      at_place at =
          let none : length old ≤ j = omega arith in
          either_no _ _
          (λ h.
          let found = any-instances_found (is_suggested_again s u j) h in
          let parts = and_parts (ltb j found.0) (is_ticket u (suggested_at s found.0)) found.2 in
          let low : found.0 < s.front = said_before s kept found.0 u (ticket_is u _ parts.1) in
          let high : j < found.0 = ltb-true j found.0 parts.0 in
          absurd (omega arith))
          (λ h. let high : j < i = ltb-true j i (and_parts (eqb t u) (ltb j i) h).1 in absurd (omega arith))
          ∙ sym (marked j
          ∙ either_no _ _ (λ h. let past = get_or_past old j false none in
          absurd (cc)) (λ h. absurd (unsaid_here t (ap (suggested_at s) (sym at) ∙ ticket_is t _ h))))

      elsewhere : (j ≡ i → ⊥)
          → (list_any (is_suggested_again s u j) instances || (eqb t u && ltb j i)) ≡ get_or new j false
      elsewhere off =
          let said : suggested_at s j ≡ Some u = sym (said_there j off) ∙ e in
          let low : j < s.front = said_before s kept j u said in
          let before : j < i = omega arith in
          ap (λ (d : Bool). list_any (is_suggested_again s u j) instances || (eqb t u && d)) (lt-ltb j i before)
          ∙ ap (λ (d : Bool). d || (eqb t u && true)) (marks j u inside said)
          ∙ ap (λ (d : Bool). get_or old j false || d) (and-true (eqb t u) ∙ eqb_swap t u)
          ∙ sym (marked j ∙ ap (λ (o : Option ℕ). get_or old j false || is_ticket t o) said)

  pub tickets_later : (n next : ℕ) → n ≤ next → t < next
      → ((j u : ℕ) → j < instance_count → suggested_at s j ≡ Some u → u < n) → (j u : ℕ) → j < instance_count
      → suggested_at later j ≡ Some u → u < next
  tickets_later n next more new below j u inside e =
      ⊎_elim
      (λ (at : j ≡ i). let same : Some t ≡ Some u = sym said_here ∙ ap (suggested_at later) (sym at) ∙ e in
      let same' : t ≡ u = cc in omega arith)
      (λ (off : j ≡ i → ⊥). let low : u < n = below j u inside (sym (said_there j off) ∙ e) in omega arith)
      (cases_eq j i)
