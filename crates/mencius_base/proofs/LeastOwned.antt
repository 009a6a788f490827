-- `first_owned` gives the lowest instance that a server owns from a place on.
use Rattle.std.proofs.Common.{◌≡◌, ◌⊎◌, inl, inr, refl, ℕ, ◌+◌, ◌-◌, ◌*◌, ◌/◌, ◌%◌, ◌<◌, ◌≤◌, arith, sym, ◌∙◌, ap, subst}
use Rattle.std.proofs.lemmas.Bool.{cases_lt}
use Rattle.std.proofs.Math.Nat.{div-add-mod, add-mod_left, mul-le-mul_left, mod-eq_of_lt, mod-lt, mul-add-mod_self_left}
use Rattle.mencius_base.specs.Members.{Membership, first_owned, owner}

one_round : (n turn : ℕ) → n * (turn + 1) ≡ n * turn + n
one_round n turn = grind arith

below_rest : (n p rest : ℕ) → p < rest → rest < n → (p + n - rest) % n ≡ p + n - rest
below_rest n p rest less small = mod-eq_of_lt (omega arith)

above_rest : (n p rest : ℕ) → rest ≤ p → p < n → (p + n - rest) % n ≡ p - rest
above_rest n p rest more member =
    let e : p + n - rest ≡ n + (p - rest) = omega arith in
    rw e (add-mod_left n (p - rest) ∙ mod-eq_of_lt (omega arith))

-- `place` is the instance of p in one round of the owners. It is round `turn` if `rest` is at most p, and otherwise the
-- next round
record IsPlace (n p turn rest place : ℕ) : Type 0 where
  pub round : ℕ
  pub is : place ≡ n * round + p
  pub which : ((round ≡ turn) × (rest ≤ p)) ⊎ ((round ≡ turn + 1) × (p < rest))

first_owned_is : (n p turn rest : ℕ) → p < n → rest < n → IsPlace n p turn rest (n * turn + rest + (p + n - rest) % n)
first_owned_is n p turn rest member small =
    elim (cases_lt p rest) [
      | inl less ↦ record {
        round = turn + 1;
        is = rw (below_rest n p rest less small) (omega (arith, one_round n turn));
        which = inr (refl, less);
      }
      | inr more ↦ record {
        round = turn;
        is = rw (above_rest n p rest more member) (omega arith);
        which = inl (refl, more);
      }
    ]

placed : (m : Membership) (p from : ℕ) → p < m.count
    → IsPlace m.count p (from / m.count) (from % m.count) (first_owned m p from)
placed m p from member =
    let some : 0 < m.count = omega arith in
    let there = first_owned_is m.count p (from / m.count) (from % m.count) member (mod-lt from some) in
    subst (λ (n : ℕ). IsPlace m.count p (from / m.count) (from % m.count)
    (n + (p + m.count - from % m.count) % m.count)) (div-add-mod from m.count) there

pub first_owned_owner : (m : Membership) (p from : ℕ) → p < m.count → owner m (first_owned m p from) ≡ p
first_owned_owner m p from member =
    let there = placed m p from member in
    rw there.is (mul-add-mod_self_left m.count there.round p ∙ mod-eq_of_lt member)

-- an instance of p that is not below a place is not below the instance of `IsPlace` either
not_before : (n p turn rest round other : ℕ) → n * turn + rest ≤ n * other + p → p < n
    → ((round ≡ turn) × (rest ≤ p)) ⊎ ((round ≡ turn + 1) × (p < rest)) → n * round + p ≤ n * other + p
not_before n p turn rest round other above member (inl here) =
    elim (cases_lt other turn) [
      | inl less ↦ omega (arith, one_round n other, mul-le-mul_left n (let h : other + 1 ≤ turn = omega arith in h))
      | inr more ↦ rw here.0 (omega (arith, mul-le-mul_left n more))
    ]
not_before n p turn rest round other above member (inr here) =
    elim (cases_lt turn other) [
      | inl less ↦ rw here.0 (omega (arith, mul-le-mul_left n (let h : turn + 1 ≤ other = omega arith in h)))
      | inr more ↦ omega (arith, mul-le-mul_left n more)
    ]

pub first_owned_least : (m : Membership) (p from i : ℕ) → p < m.count → from ≤ i → owner m i ≡ p
    → first_owned m p from ≤ i
first_owned_least m p from i member above own =
    let n = m.count in
    let there = placed m p from member in
    let i_is : i ≡ n * (i / n) + p = sym (div-add-mod i n) ∙ ap (λ r. n * (i / n) + r) own in
    let later : n * (from / n) + from % n ≤ n * (i / n) + p = omega (arith, div-add-mod from n) in
    rw there.is (omega (arith, not_before n p (from / n) (from % n) there.round (i / n) later member there.which))
