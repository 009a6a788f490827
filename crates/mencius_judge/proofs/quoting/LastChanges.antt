-- The last change of a key before a number of commands, and the line that submitted the command which made it.
use Rattle.std.proofs.Common.{◌≡◌, ◌⊎◌, inl, inr, ℕ, zero, suc, ◌+◌, ◌<◌, ◌≤◌, List, ◌∷◌, Option, slice_get, take, arith, refl, sym, ap, ◌∙◌, ⊎_elim}
use Rattle.mencius_base.specs.declared.command.CommandId.{CommandId}
use Rattle.mencius_judge.specs.declared.quote.Quote.{Quote}
use Rattle.mencius_judge.specs.Added.{IsLastOf}
use Rattle.mencius_judge.specs.Log.{commands_of}
use Rattle.mencius_judge.specs.Quotes.{IsChange, IsLastChange, NumberedLog, Submits, log_of}
use Rattle.mencius_judge.specs.Tables.{IsOrder}
use Rattle.mencius_judge.specs.Timelines.{IsBeginning, held_by}
use Rattle.mencius_judge.proofs.quoting.Fronts.{same_held, taken_item}
use Rattle.mencius_judge.proofs.sources.FirstLines.{line_later, line_split}

module _ (held : ℕ → Option (List ℕ)) (n count : ℕ) (b : IsBeginning held n count) where
  pub change_at : (place : ℕ) → place + 1 ≡ count → IsLastChange held n place
  change_at place e =
      let fits = b.within in
      let next : held (place + 1) ≡ held n = b.same (place + 1) (omega (arith, e)) (omega (arith, e, fits)) in
      record {
        within = omega (arith, e, fits);
        changes = λ same. b.change place e (same ∙ next);
        last = λ m low high. b.same m (omega (arith, e, low)) high ∙ sym next;
      }

  pub change_is : (place : ℕ) → IsLastChange held n place → place + 1 ≡ count
  change_is place h = ⊎_elim
      (λ (low : place + 1 < count). absurd (early count refl low))
      (λ (rest : (place + 1 ≡ count) ⊎ (count < place + 1)). ⊎_elim (λ (e : place + 1 ≡ count). e)
      (λ (high : count < place + 1).
      let inside = h.within in
      absurd (h.changes (b.same place (omega (arith, high)) (omega (arith, inside))
      ∙ sym (b.same (place + 1) (omega (arith, high)) (omega (arith, inside))))))
      rest)
      (three (place + 1) count)
    where
      three : (a c : ℕ) → (a < c) ⊎ ((a ≡ c) ⊎ (c < a))
      three a c = grind arith

      early : (c : ℕ) → c ≡ count → place + 1 < c → ⊥
      early zero e low = omega (arith, low)
      early (suc m) e low =
          let fits = b.within in
          let inside = h.within in
          b.change m (omega (arith, e))
          (h.last m (omega (arith, low)) (omega (arith, e, fits))
          ∙ sym (h.last n inside (omega arith)))

-- functions that agree up to n have the same last change
pub same_change : (held other : ℕ → Option (List ℕ)) (n place : ℕ) → ((k : ℕ) → k ≤ n → held k ≡ other k)
    → IsLastChange held n place → IsLastChange other n place
same_change held other n place same h =
    let inside = h.within in
    let next : held (place + 1) ≡ other (place + 1) = same (place + 1) (omega (arith, inside)) in
    record {
      within = inside;
      changes = λ e. h.changes (same place (omega (arith, inside)) ∙ e ∙ sym next);
      last = λ m low high. sym (same m high) ∙ h.last m low high ∙ next;
    }

-- the line of the last change is the line of the command before the beginning of the text
module _ (lines : NumberedLog) (order : List CommandId) (key : List ℕ) (n count : ℕ)
    (b : IsBeginning (held_by (commands_of (log_of lines) order) key) n count) where
  abbrev pub held : ℕ → Option (List ℕ)
  held = held_by (commands_of (log_of lines) order) key

  pub to_change : (q : Quote) → IsLastOf order count lines q → IsChange lines order key n q
  to_change q h = (h.0, change_at held n count b h.0 h.1, h.2, h.3, h.4)

  pub from_change : (q : Quote) → IsChange lines order key n q → IsLastOf order count lines q
  from_change q h = (h.0, change_is held n count b h.0 h.1, h.2, h.3, h.4)

-- ---- one more line

-- a history after the line begins like the longest one before it, so the last change is the same one
module _ (line : Quote) (lines : NumberedLog) (order ids : List CommandId) (key : List ℕ) (n : ℕ)
    (facts : IsOrder (log_of lines) order) (same : take n ids ≡ take n order) where
  agree : (k : ℕ) → k ≤ n
      → held_by (commands_of (log_of (line ∷ lines)) ids) key k ≡ held_by (commands_of (log_of lines) order) key k
  agree k le = same_held (log_of lines) line.observation order ids key n k facts same le

  item : (m : ℕ) → m < n → slice_get ids m ≡ slice_get order m
  item m less = sym (taken_item n ids m less) ∙ ap (λ xs. slice_get xs m) same ∙ taken_item n order m less

  pub change_later : (q : Quote) → IsChange lines order key n q → IsChange (line ∷ lines) ids key n q
  change_later q h = (
    h.0,
    same_change (held_by (commands_of (log_of lines) order) key)
        (held_by (commands_of (log_of (line ∷ lines)) ids) key) n h.0 (λ k le. sym (agree k le)) h.1,
    h.2,
    item h.0 h.1.within ∙ h.3,
    line_later (Submits h.2) line lines q h.4,
  )

  pub change_split : (q : Quote) → IsChange (line ∷ lines) ids key n q → (q ≡ line) ⊎ IsChange lines order key n q
  change_split q h = elim (line_split (Submits h.2) line lines q h.4) [
    | inl r ↦ inl r.0
    | inr first ↦ inr (
      h.0,
      same_change (held_by (commands_of (log_of (line ∷ lines)) ids) key)
          (held_by (commands_of (log_of lines) order) key) n h.0 agree h.1,
      h.2,
      sym (item h.0 h.1.within) ∙ h.3,
      first,
    )
  ]
