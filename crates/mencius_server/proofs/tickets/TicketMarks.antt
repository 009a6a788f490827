-- A loop marks exactly the own instances where a ticket was suggested.
use Rattle.std.proofs.Common.{◌≡◌, ℕ, ◌+◌, ◌<◌, ◌≤◌, Bool, true, false, ⊎_elim, cond, eqb, get_or, length, List, set, refl, sym, ◌∙◌, ap, arith, ◌||◌}
use Rattle.std.proofs.lemmas.Bool.{cases_eq, cases_lt, eq-eqb}
use Rattle.std.proofs.lemmas.List.{get_or-set_other}
use Rattle.std.proofs.lemmas.Grind.{get_or-set_at}
use Rattle.mencius_base.specs.Members.{Membership, owner}
use Rattle.coord_paxos.specs.SlotState.{SlotState}
use Rattle.mencius_server.specs.Machine.{is_ticket, suggested_in}
use Rattle.mencius_model.specs.Server.{ticket_of}
use Rattle.mencius_server.proofs.stored.InstanceGaps.{unowned}

or-false : (a : Bool) → (a || false) ≡ a
or-false true = refl
or-false false = refl

or-true : (d : Bool) → (d || true) ≡ true
or-true true = refl
or-true false = refl

-- A place below i and below `end` has a mark if it had one before or the ticket was suggested there. All other marks
-- are as before.
pub record IsMarkedUpTo (m : Membership) (p t end : ℕ) (slots : ℕ
    → SlotState) (old new : List Bool) (i : ℕ) : Type 0 where
  pub marked : (j : ℕ) → j < i → j < end
      → get_or new j false ≡ (get_or old j false || is_ticket t (suggested_in m p j (slots j)))
  pub rest : (j : ℕ) → i ≤ j → get_or new j false ≡ get_or old j false
  pub past : (j : ℕ) → end ≤ j → get_or new j false ≡ get_or old j false

-- No own ticket was suggested at an instance of another server.
other_unsaid : (m : Membership) (p t j : ℕ) (s : SlotState) → eqb (owner m j) p ≡ false
    → is_ticket t (suggested_in m p j s) ≡ false
other_unsaid m p t j s e = rw e refl

pub marked_start : (m : Membership) (p t end next : ℕ) (slots : ℕ → SlotState) (old : List Bool)
    → ((i : ℕ) → 0 ≤ i → owner m i ≡ p → next ≤ i) → IsMarkedUpTo m p t end slots old old next
marked_start m p t end next slots old least = record {
  marked = λ j low inside. sym
      (ap (λ (a : Bool). get_or old j false || a)
      (other_unsaid m p t j (slots j) (unowned m p 0 next least j (omega arith) low)) ∙ or-false (get_or old j false));
  rest = λ j high. refl;
  past = λ j high. refl;
}

pub marked_more : (m : Membership) (p t end i next : ℕ) (slots : ℕ → SlotState) (old now new : List Bool) (a : Bool)
    → i < end → i < length now → owner m i ≡ p
    → ((j : ℕ) → i + 1 ≤ j → owner m j ≡ p → next ≤ j) → i + 1 ≤ next
    → is_ticket t (ticket_of (slots i).proposal) ≡ a → new ≡ cond a (set now i true) now
    → IsMarkedUpTo m p t end slots old now i → IsMarkedUpTo m p t end slots old new next
marked_more m p t end i next slots old now new a inside within mine least ahead here is before = record {
  marked = λ j low small. ⊎_elim
      (λ (done : j < i). off j (λ at. absurd (omega arith)) a is ∙ before.marked j done small)
      (λ (from : i ≤ j). ⊎_elim
      (λ (at : j ≡ i). at_place j at a is here)
      (λ (other : j ≡ i → ⊥).
      let after : i + 1 ≤ j = omega arith in
      off j other a is ∙ before.rest j from
      ∙ sym (ap (λ (y : Bool). get_or old j false || y)
      (other_unsaid m p t j (slots j) (unowned m p (i + 1) next least j after low))
      ∙ or-false (get_or old j false)))
      (cases_eq j i))
      (cases_lt j i);
  rest = λ j high. off j (λ at. absurd (omega arith)) a is ∙ before.rest j (omega arith);
  past = λ j high. off j (λ at. absurd (omega arith)) a is ∙ before.past j high;
}
  where
    off : (j : ℕ) → (j ≡ i → ⊥) → (d : Bool) → new ≡ cond d (set now i true) now
        → get_or new j false ≡ get_or now j false
    off j other true e = rw e (get_or-set_other now i j true false other)
    off j other false e = rw e refl

    ticket_here : is_ticket t (suggested_in m p i (slots i)) ≡ is_ticket t (ticket_of (slots i).proposal)
    ticket_here = rw (eq-eqb (owner m i) p mine) refl

    at_place : (j : ℕ) → j ≡ i → (d : Bool) → new ≡ cond d (set now i true) now
        → is_ticket t (ticket_of (slots i).proposal) ≡ d
        → get_or new j false ≡ (get_or old j false || is_ticket t (suggested_in m p j (slots j)))
    at_place j at true e said =
        ap (λ (xs : List Bool). get_or xs j false) e ∙ get_or-set_at now i j true false at within
        ∙ sym (ap (λ (y : Bool). get_or old j false || y)
        (ap (λ (i : ℕ). is_ticket t (suggested_in m p i (slots i))) at ∙ ticket_here ∙ said)
        ∙ or-true (get_or old j false))
    at_place j at false e said =
        ap (λ (xs : List Bool). get_or xs j false) e ∙ before.rest j (omega arith)
        ∙ sym (ap (λ (y : Bool). get_or old j false || y)
        (ap (λ (i : ℕ). is_ticket t (suggested_in m p i (slots i))) at ∙ ticket_here ∙ said)
        ∙ or-false (get_or old j false))
