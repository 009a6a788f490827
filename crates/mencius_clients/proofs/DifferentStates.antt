-- Configurations with different states, one after the other in an order of states.
use Rattle.std.proofs.Common.{◌≡◌, inl, inr, ℕ, ◌+◌, ◌-◌, ◌<◌, List, [], ◌∷◌, ◌++◌, Option, Some, length, slice_get, get_or, arith, sym, subst, ap, ◌∙◌}
use Rattle.std.specs.Cmp.{IsTotalOrder, tied_itself}
use Rattle.std.specs.Cmp.Lexicographic.{nat_list_cmp_total, options_total, slice_cmp}
use Rattle.std.specs.Option.{option_cmp}
use Rattle.std.specs.Ordering.{nat_cmp}
use Rattle.std.specs.declared.cmp.Ordering.TheVariants.{Less}
use Rattle.std.proofs.lemmas.Bool.{cases_eq, cases_lt}
use Rattle.std.proofs.lemmas.Option.{slice_get-get_or}
use Rattle.mencius_log.specs.declared.observation.Observation.{Observation}
use Rattle.mencius_clients.specs.declared.configuration.Configuration.{Configuration}
use Rattle.mencius_clients.specs.declared.slot_set.SlotSet.{SlotSet}
use Rattle.mencius_clients.specs.Configurations.{has_slot, text_at}
use Rattle.mencius_clients.specs.States.{AreRising, HasNext, Precedes, text_cmp}
use Rattle.mencius_clients.proofs.SoundSteps.{get_within, last_or}

-- ---- sets of slots

next_chain : (a b c : SlotSet) → HasNext a b → HasNext b c → HasNext a c
next_chain a b c p q =
    elim (cases_lt p.slot q.slot) [
      | inl first ↦ record {
        slot = p.slot;
        lacks = p.lacks;
        has = sym (q.same p.slot first) ∙ p.has;
        same = λ t less. p.same t less ∙ q.same t (omega (arith, less, first));
      }
      | inr late ↦ elim (cases_eq p.slot q.slot) [
        | inl one ↦ let has = p.has in let lacks = ap (has_slot b) one ∙ q.lacks in absurd (cc)
        | inr off ↦
            let before : q.slot < p.slot = omega (arith, late, off) in record {
              slot = q.slot;
              lacks = p.same q.slot before ∙ q.lacks;
              has = q.has;
              same = λ t less. p.same t (omega (arith, less, before)) ∙ q.same t less;
            }
      ]
    ]

-- ---- states

text_cmp_total : IsTotalOrder (option_cmp (slice_cmp nat_cmp))
text_cmp_total = options_total nat_list_cmp_total

-- a text does not come before itself
pub text_once : (text : Option (List ℕ)) → text_cmp text text ≡ Less → ⊥
text_once text e = let same = tied_itself text_cmp_total text in absurd (cc (e, same))

module _ (log : List Observation) where
  pub precedes_chain : (a b c : Configuration) → Precedes log a b → Precedes log b c → Precedes log a c
  precedes_chain a b c (inl p) (inl q) =
      inl (text_cmp_total.trans (text_at log a.text) (text_at log b.text) (text_at log c.text) p q)
  precedes_chain a b c (inl p) (inr q) = inl (subst (λ t. text_cmp (text_at log a.text) t ≡ Less) q.0 p)
  precedes_chain a b c (inr p) (inl q) = inl (subst (λ t. text_cmp t (text_at log c.text) ≡ Less) (sym p.0) q)
  precedes_chain a b c (inr p) (inr q) =
      inr (
        p.0 ∙ q.0,
        elim p.1 [
          | inl marked ↦ elim q.1 [
            | inl again ↦ let was = marked.1 in let none = again.0 in absurd (cc)
            | inr same ↦ inl (marked.0, sym same.0 ∙ marked.1)
          ]
          | inr same ↦ elim q.1 [
            | inl marked ↦ inl (same.0 ∙ marked.0, marked.1)
            | inr more ↦ inr (same.0 ∙ more.0, next_chain a.done b.done c.done same.1 more.1)
          ]
        ],
      )

  -- one configuration more, whose state comes after that of the last one
  pub more_rise : (old new : List Configuration) (next : Configuration) → new ≡ old ++ next ∷ []
      → ((n : ℕ) (c : Configuration) → n + 1 ≡ length old → slice_get old n ≡ Some c → Precedes log c next)
      → AreRising log old → AreRising log new
  more_rise old new next is after h n m a b less first second =
      elim (last_or old next m b (sym (ap (λ cs. slice_get cs m) is) ∙ second)) [
        | inl there ↦
            let within = get_within old m b there in
            elim (last_or old next n a (sym (ap (λ cs. slice_get cs n) is) ∙ first)) [
              | inl here ↦ h n m a b less here there
              | inr last ↦ let at = last.0 in absurd (omega (arith, less, within, at))
            ]
        | inr end ↦
            let size = end.0 in
            elim (last_or old next n a (sym (ap (λ cs. slice_get cs n) is) ∙ first)) [
              | inl here ↦ subst (λ (c : Configuration). Precedes log a c) (sym end.1) (before n a (omega (arith, less, size)) here)
              | inr last ↦ let at = last.0 in absurd (omega (arith, less, size, at))
            ]
      ]
    where
      before : (k : ℕ) (c : Configuration) → k < length old → slice_get old k ≡ Some c → Precedes log c next
      before k c small here =
          elim (cases_eq (k + 1) (length old)) [
            | inl end ↦ after k c end here
            | inr off ↦
                let last : ℕ = length old - 1 in
                let d : Configuration = get_or old last c in
                let there : slice_get old last ≡ Some d = slice_get-get_or old last c (omega (arith, small)) in
                precedes_chain c d next (h k last c d (omega (arith, small, off)) here there)
                (after last d (omega (arith, small)) there)
          ]
