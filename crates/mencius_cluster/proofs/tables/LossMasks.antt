-- Setting a mark in a list of masks adds this mark and changes no other mark.
use Rattle.std.proofs.Common.{◌≡◌, ℕ, ◌<◌, ◌&&◌, ◌||◌, arith, List, length, set, get_or, eqb, sym, ap, ◌∙◌, inl, inr}
use Rattle.std.specs.Prelude.{◌==◌, ◌*◌, ◌^◌, ◌%◌, bit_or}
use Rattle.std.specs.Int.{bit_at, w8}
use Rattle.std.proofs.lemmas.Bool.Decides.{eqb_tells}
use Rattle.std.proofs.lemmas.List.{get_or-set_other, get_or-set_same}
use Rattle.std.proofs.lemmas.Nat.Bits.{bit_at_set_other, bit_at_set_same}
use Rattle.mencius_base.specs.Limits.{most_servers}

-- setting bit p of a byte sets this bit and changes no other bit
more_bits : (x p q : ℕ) → p < 8
    → (bit_at (bit_or x (1 * 2 ^ p % 256)) q == 1) ≡ (eqb p q || (bit_at x q == 1))
more_bits x p q few =
    elim (eqb_tells p q) [
      | inl e ↦ rw (e.0, ← e.1) (ap (λ n. n == 1) (bit_at_set_same w8 x p few))
      | inr e ↦ rw e.0 (ap (λ n. n == 1) (bit_at_set_other w8 x p few q (λ h. e.1 (sym h))))
    ]

-- setting bit p of mask k adds a mark at message k and server p, and changes no other mark. A mask has enough bits for
-- `most_servers` servers
pub marked : (xs : List ℕ) (k p x : ℕ) → k < length xs → p < most_servers → x ≡ get_or xs k 0 → (n q : ℕ)
    → (bit_at (get_or (set xs k (bit_or x (1 * 2 ^ p % 256))) n 0) q == 1)
    ≡ ((k == n && p == q) || (bit_at (get_or xs n 0) q == 1))
marked xs k p x there few is n q =
    let bit : p < 8 = omega arith in
    elim (eqb_tells k n) [
      | inl e ↦
          rw (e.0, ← e.1)
          (ap (λ y. bit_at y q == 1) (get_or-set_same xs k (bit_or x (1 * 2 ^ p % 256)) 0 there)
          ∙ more_bits x p q bit ∙ ap (λ y. eqb p q || (bit_at y q == 1)) is)
      | inr e ↦
          rw e.0
          (ap (λ y. bit_at y q == 1)
          (get_or-set_other xs k n (bit_or x (1 * 2 ^ p % 256)) 0 (λ h. e.1 (sym h))))
    ]
