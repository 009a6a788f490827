-- A loop over instances adds the facts about the instances that a Skip makes a server learn.
use Rattle.std.proofs.Common.{◌≡◌, ℕ, ◌+◌, ◌-◌, ◌<◌, ◌≤◌, Bool, true, false, List, [], ◌∷◌, ◌++◌, map, cond, eqb, ◌&&◌, refl, sym, ap, ◌∙◌, append-nil, append_assoc, arith}
use Rattle.std.specs.Prelude.{nat_le, nat_lt, is_none}
use Rattle.std.specs.List.{filter}
use Rattle.std.proofs.lemmas.Grind.{flat_map-append}
use Rattle.std.proofs.lemmas.List.{map-append}
use Rattle.std.proofs.lemmas.Bool.{le-leb, lt-ltb, le-ltb, lt-leb}
use Rattle.mencius_base.specs.Limits.{instance_count}
use Rattle.mencius_base.specs.Members.{IsMember, Membership, numbers_below, owner}
use Rattle.mencius_base.specs.declared.message.Value.TheVariants.{Noop}
use Rattle.mencius_model.specs.Trace.{Learned, Trace}
use Rattle.mencius_model.specs.Instance.{learned_value}
use Rattle.mencius_model.proofs.trace.Lists.{eqb_swap}
use Rattle.mencius_model.proofs.trace.NumberLists.{filter-below_more, filter-below_none, filter-below_zero, instances-below}
use Rattle.mencius_trace.specs.declared.fact.Fact.{Fact}
use Rattle.mencius_trace.specs.declared.fact.Fact.TheVariants.{Learned as FactLearned}
use Rattle.mencius_trace.specs.Effects.{learned_facts, learned_in}
use Rattle.mencius_model.proofs.trace.Parts.{is_newly_skipped, on_skip}

-- the facts that p learned no-op at the instances below n that pass a test
abbrev pub skipped_below : (ℕ → Bool) → ℕ → ℕ → List Fact
skipped_below test p n = learned_facts (map (λ j. Learned p j Noop) (filter test (numbers_below n)))

skipped-more : (test : ℕ → Bool) (p i : ℕ) (a : Bool) → test i ≡ a
    → skipped_below test p (i + 1) ≡ skipped_below test p i ++ cond a (FactLearned p i Noop ∷ []) []
skipped-more test p i a e =
    ap (λ js. learned_facts (map (λ j. Learned p j Noop) js)) (filter-below_more test i)
    ∙ ap (learned_facts) (map-append (λ j. Learned p j Noop) (filter test (numbers_below i)) (cond (test i) (i ∷ []) []))
    ∙ flat_map-append (learned_in) (map (λ j. Learned p j Noop) (filter test (numbers_below i)))
    (map (λ j. Learned p j Noop) (cond (test i) (i ∷ []) []))
    ∙ ap (λ text. skipped_below test p i ++ text)
    (ap (λ a. learned_facts (map (λ j. Learned p j Noop) (cond a (i ∷ []) []))) e ∙ last a)
  where
    last : (a : Bool)
        → learned_facts (map (λ j. Learned p j Noop) (cond a (i ∷ []) [])) ≡ cond a (FactLearned p i Noop ∷ []) []
    last true = refl
    last false = refl

-- an instance in the range of a Skip is newly skipped exactly if q owns it and p has not learned it
in_range : (m : Membership) (w : Trace) (p q first stop j : ℕ) → first ≤ j → j < stop
    → is_newly_skipped m w p q first stop j ≡ (eqb (owner m j) q && is_none (learned_value w p j))
in_range m w p q first stop j low high =
    rw (le-leb first j low, lt-ltb j stop high)
    (by (eqb q (owner m j)) ∙ ap (λ a. a && is_none (learned_value w p j)) (eqb_swap q (owner m j)))
  where
    by : (a : Bool) → (((a && true) && true) && is_none (learned_value w p j)) ≡ (a && is_none (learned_value w p j))
    by true = refl
    by false = refl

early : (m : Membership) (w : Trace) (p q first stop j : ℕ) → j < first → is_newly_skipped m w p q first stop j ≡ false
early m w p q first stop j h = rw (lt-leb first j h) (by (eqb q (owner m j)))
  where
    by : (a : Bool) → (((a && false) && nat_lt j stop) && is_none (learned_value w p j)) ≡ false
    by true = refl
    by false = refl

late : (m : Membership) (w : Trace) (p q first stop j : ℕ) → stop ≤ j → is_newly_skipped m w p q first stop j ≡ false
late m w p q first stop j h = rw (le-ltb j stop h) (by (eqb q (owner m j) && nat_le first j))
  where
    by : (a : Bool) → ((a && false) && is_none (learned_value w p j)) ≡ false
    by true = refl
    by false = refl

-- `now` is `before` and the facts about the skipped instances below i, if p is a member and `first` is an existing
-- instance
pub record IsSkippedTo (m : Membership) (w : Trace) (p q first stop i : ℕ) (before now : List Fact) : Type 0 where
  pub text : IsMember m p → first < instance_count
      → (i ≤ instance_count) × (now ≡ before ++ skipped_below (is_newly_skipped m w p q first stop) p i)

none_before : (m : Membership) (w : Trace) (p q first stop : ℕ)
    → skipped_below (is_newly_skipped m w p q first stop) p first ≡ []
none_before m w p q first stop =
    let plain : 0 + first ≡ first = omega arith in
    ap (λ n. skipped_below (is_newly_skipped m w p q first stop) p n) (sym plain)
    ∙ ap (λ js. learned_facts (map (λ j. Learned p j Noop) js))
    (filter-below_none (is_newly_skipped m w p q first stop) 0 first
    (λ j low high. early m w p q first stop j (omega (arith, high)))
    ∙ filter-below_zero (is_newly_skipped m w p q first stop))

pub skipped_start : (m : Membership) (w : Trace) (p q first stop : ℕ) (before : List Fact)
    → IsSkippedTo m w p q first stop first before before
skipped_start m w p q first stop before = record {
  text = λ member small. (
    omega (arith, small),
    sym
        (ap (λ text. before ++ text) (none_before m w p q first stop) ∙ append-nil before),
  );
}

pub skipped_next : (m : Membership) (w : Trace) (p q first stop i : ℕ) (before old new : List Fact)
    → first ≤ i → i < stop → i < instance_count → IsSkippedTo m w p q first stop i before old
    → (IsMember m p → new ≡ old ++ cond (eqb (owner m i) q && is_none (learned_value w p i)) (FactLearned p i Noop ∷ []) [])
    → IsSkippedTo m w p q first stop (i + 1) before new
skipped_next m w p q first stop i before old new low high fits had got = record {
  text = λ member small.
      let was = had.text member small in (
        omega (arith, fits),
        got member
            ∙ ap
            (λ text. text
            ++ cond (eqb (owner m i) q && is_none (learned_value w p i)) (FactLearned p i Noop ∷ []) []) was.1
            ∙ append_assoc before (skipped_below (is_newly_skipped m w p q first stop) p i) _
            ∙ ap (λ text. before ++ text)
            (sym (skipped-more (is_newly_skipped m w p q first stop) p i _ (in_range m w p q first stop i low high))),
      );
}

pub skipped_whole : (m : Membership) (w : Trace) (p q first stop i : ℕ) (before now : List Fact)
    → (i < instance_count → stop ≤ i) → IsSkippedTo m w p q first stop i before now
    → IsMember m p → first < instance_count → now ≡ before ++ learned_facts (on_skip m w p q first stop)
skipped_whole m w p q first stop i before now past had member small =
    let was = had.text member small in
    let rest : i + (instance_count - i) ≡ instance_count = omega (arith, was.0) in
    was.1
    ∙ ap (λ js. before ++ learned_facts (map (λ j. Learned p j Noop) js))
    (sym (filter-below_none (is_newly_skipped m w p q first stop) i (instance_count - i)
    (λ j low high. late m w p q first stop j (omega (arith, past (omega (arith, low, high, rest)), low))))
    ∙ ap (λ n. filter (is_newly_skipped m w p q first stop) (numbers_below n)) rest
    ∙ ap (filter (is_newly_skipped m w p q first stop)) (sym instances-below))
