-- The front of a server is one of its own instances.
use Rattle.std.proofs.Common.{◌≡◌, ℕ, ◌+◌, ◌<◌, max, Bool, true, false, cond, eqb, [], ◌∷◌, ◌⊎◌, inl, inr, refl, sym, ◌∙◌, ap, arith, eqb-true}
use Rattle.std.proofs.lemmas.Bool.{cases_lt}
use Rattle.std.proofs.Math.Nat.{add-mod_right, mod-eq_of_lt}
use Rattle.mencius_base.specs.declared.message.Message.TheVariants.{Suggest, Skip, Accepted, Prepare, Promise, Propose, Learn}
use Rattle.mencius_base.specs.Members.{Membership, owner}
use Rattle.mencius_model.specs.Trace.{Line, Submitted, Heard, Lost, Suspected, Retried, Executed, Sent, Learned, Trace, greatest_by}
use Rattle.mencius_model.specs.Server.{front, front_by}
use Rattle.mencius_model.proofs.rights.LineRights.{IsGrown, May}

-- The number is 0, or p owns it as an instance.
abbrev IsOwnOrNone : Membership → ℕ → ℕ → Type 0
IsOwnOrNone m p i = (i ≡ 0) ⊎ (owner m i ≡ p)

own_cond : (m : Membership) (p i : ℕ) (a : Bool) → (a ≡ true → owner m i ≡ p) → IsOwnOrNone m p (cond a i 0)
own_cond m p i true own = inr (own refl)
own_cond m p i false own = inl refl

own_max : (m : Membership) (p i j : ℕ) → IsOwnOrNone m p i → IsOwnOrNone m p j → IsOwnOrNone m p (max i j)
own_max m p i j (inl none) there = let e : max i j ≡ j = omega (arith, none) in rw e there
own_max m p i j (inr own) (inl none) = let e : max i j ≡ i = omega (arith, none) in rw e (inr own)
own_max m p i j (inr own) (inr also) =
    elim (cases_lt i j) [
      | inl less ↦ let e : max i j ≡ j = omega (arith, less) in rw e (inr also)
      | inr more ↦ let e : max i j ≡ i = omega (arith, more) in rw e (inr own)
    ]

own_by : (m : Membership) (w : Trace) (p : ℕ) (l : Line) → May m w l → IsOwnOrNone m p (front_by m p l)
own_by m w p (Sent (Suggest from inst ticket)) may =
    own_cond m p (inst + m.count) (eqb from p)
    (λ e. add-mod_right inst m.count ∙ may.own ∙ eqb-true from p e)
own_by m w p (Sent (Skip from first stop)) may = own_cond m p stop (eqb from p) (λ e. may.1 ∙ eqb-true from p e)
own_by m w p (Sent (Accepted from to inst ballot)) may = inl refl
own_by m w p (Sent (Prepare from inst ballot)) may = inl refl
own_by m w p (Sent (Promise from to inst ballot vote)) may = inl refl
own_by m w p (Sent (Propose from inst ballot value)) may = inl refl
own_by m w p (Sent (Learn from inst value)) may = inl refl
own_by m w p (Submitted command server) may = inl refl
own_by m w p (Heard message server) may = inl refl
own_by m w p (Lost message server) may = inl refl
own_by m w p (Suspected server suspected) may = inl refl
own_by m w p (Retried server) may = inl refl
own_by m w p (Executed server) may = inl refl
own_by m w p (Learned server inst value) may = inl refl

own_greatest : (m : Membership) (w : Trace) (p : ℕ) → IsGrown m w → IsOwnOrNone m p (greatest_by (front_by m p) w)
own_greatest m [] p grown = inl refl
own_greatest m (l ∷ w) p grown =
    own_max m p _ _ (own_greatest m w p grown.0) (own_by m w p l grown.1)

pub front_owner : (m : Membership) (w : Trace) (p : ℕ) → IsGrown m w → p < m.count → owner m (front m w p) ≡ p
front_owner m w p grown member =
    elim (own_max m p p (greatest_by (front_by m p) w) (inr (mod-eq_of_lt member)) (own_greatest m w p grown)) [
      | inl none ↦ let e : p ≡ 0 = omega (arith, none) in
          let zero : front m w p ≡ p = none ∙ sym e in
          ap (owner m) zero ∙ mod-eq_of_lt member
      | inr own ↦ own
    ]
