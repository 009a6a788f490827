-- With a beta of 0, a suspicion covers the open instances up to the suspecting server's own front.
use Rattle.std.proofs.Common.{◌≡◌, ℕ, suc, ◌+◌, ◌*◌, ◌<◌, ◌≤◌, Bool, true, false, cond, ◌&&◌, ◌||◌, eqb, leb, ltb, List, [], ◌∷◌, Option, Some, None, length, map, inl, inr, refl, sym, ◌∙◌, ap, arith, eqb-true, is_none}
use Rattle.std.specs.Prelude.{slice_get}
use Rattle.std.specs.List.{list_any, find}
use Rattle.std.specs.Option.{option_map_or}
use Rattle.std.proofs.lemmas.Bool.{and_parts, cases_eq, cases_lt, eq-eqb, le-leb, lt-leb, leb-false, ltb-false, or_parts}
use Rattle.mencius_base.specs.declared.refusal.Refusal.{Refusal}
use Rattle.mencius_base.specs.declared.refusal.Refusal.TheVariants.{BadServer, EventsFull, MessagesFull, NothingToRevoke, RoundsFull, SelfSuspect}
use Rattle.mencius_base.specs.Limits.{greatest_round, instance_count}
use Rattle.mencius_base.specs.Members.{Membership, most_events, most_messages, owner, instances}
use Rattle.mencius_base.specs.Outbox.{is_too_many}
use Rattle.mencius_model.specs.Trace.{Trace, events, sent_messages, messages_of}
use Rattle.mencius_model.specs.Instance.{learned_value}
use Rattle.mencius_model.specs.Server.{covered_instances, front}
use Rattle.mencius_model.specs.Next.{IsReached, first_cause, next_round, preparation}
use Rattle.mencius_model.specs.Rules.{reach_from, is_open_from}
use Rattle.mencius_model.specs.Laws.{BetaZeroRefuses, BetaZeroSends, open_to_front}
use Rattle.mencius_model.proofs.trace.NumberLists.{filter-instances_same, find-instances_before, find-instances_nothing}
use Rattle.mencius_model.proofs.rights.EventRights.{none_holds}
use Rattle.mencius_model.proofs.reached.FrontOwners.{front_owner}
use Rattle.mencius_model.proofs.rights.Journals.{reached_grown}
use Rattle.mencius_model.proofs.trace.Parts.{is_open, is_covered}

-- Two tests that agree at an open instance give the same result together with the test that it is open.
same_test : (a x y d : Bool) → ((a && d) ≡ true → x ≡ y) → ((a && x) && d) ≡ ((a && y) && d)
same_test true x y true same = rw (same refl) refl
same_test true true true false same = refl
same_test true true false false same = refl
same_test true false true false same = refl
same_test true false false false same = refl
same_test false x y d same = refl

clash : (a : Bool) → a ≡ true → a ≡ false → ⊥
clash true e fails = cc
clash false e fails = cc

module _ (m : Membership) (w : Trace) (zero : m.beta ≡ 0) (r : IsReached m w) (p q : ℕ) (member : p < m.count)
    (other : p ≡ q → ⊥) where
  -- The front of p is not an instance of another server.
  past_front : (j : ℕ) → owner m j ≡ q → j ≡ front m w p → ⊥
  past_front j theirs at =
      other (sym (front_owner m w p (reached_grown m w r) member) ∙ ap (owner m) (sym at) ∙ theirs)

  -- With a beta of 0, an instance j of q is within the reach exactly if j is at most p's front. Here i is the lowest
  -- open instance, and j is not below it.
  reach_some : (i j : ℕ) → i ≤ j → owner m j ≡ q
      → option_map_or (leb j) (reach_from m (front m w p) (Some i)) false ≡ leb j (front m w p)
  reach_some i j low theirs = go (ltb i (front m w p + m.beta)) refl where
    go : (near : Bool) → ltb i (front m w p + m.beta) ≡ near
        → option_map_or (leb j) (cond near (Some (front m w p + 2 * m.beta)) None) false ≡ leb j (front m w p)
    go true e =
        elim (cases_lt (front m w p) j) [
          | inl above ↦ lt-leb j _ (omega (arith, zero)) ∙ sym (lt-leb j (front m w p) above)
          | inr within ↦ le-leb j _ (omega (arith, zero)) ∙ sym (le-leb j (front m w p) within)
        ]
    go false e =
        let far = ltb-false i (front m w p + m.beta) e in
        elim (cases_eq j (front m w p)) [
          | inl at ↦ absurd (past_front j theirs at)
          | inr off ↦ sym (lt-leb j (front m w p) (omega (arith, far, zero)))
        ]

  reach_open : (o : Option ℕ) → find (λ i. is_open_from m q i (learned_value w p i)) instances ≡ o → (j : ℕ) → j < instance_count → is_open m w p q j ≡ true
      → option_map_or (leb j) (reach_from m (front m w p) o) false ≡ leb j (front m w p)
  reach_open None e j small opens =
      absurd (clash (is_open m w p q j) opens (find-instances_nothing (is_open m w p q) e j small))
  reach_open (Some i) e j small opens =
      let theirs : owner m j ≡ q = eqb-true (owner m j) q (and_parts _ _ opens).0 in
      elim (cases_lt j i) [
        | inl less ↦ absurd (clash (is_open m w p q j) opens (find-instances_before (is_open m w p q) i e j less))
        | inr low ↦ reach_some i j low theirs
      ]

  pub covered_to_front : covered_instances m w p q ≡ open_to_front m w p q
  covered_to_front =
      filter-instances_same (is_covered m w p q) (λ i. (eqb (owner m i) q && leb i (front m w p)) && is_none (learned_value w p i))
      (λ j small. same_test (eqb (owner m j) q) _ (leb j (front m w p)) (is_none (learned_value w p j))
      (reach_open (find (λ i. is_open_from m q i (learned_value w p i)) instances) refl j small))

one_each : (m : Membership) (w : Trace) (p : ℕ) (is : List ℕ) → length (messages_of (map (preparation m w p) is)) ≡ length is
one_each m w p [] = refl
one_each m w p (i ∷ is) = ap suc (one_each m w p is)

module _ (m : Membership) (w : Trace) (p q : ℕ) where
  -- The causes that a server tests for a suspicion, for a list of covered instances.
  abbrev of_server : List ℕ → ℕ → List (Bool × Refusal)
  of_server is count =
      (is_none (slice_get is 0), NothingToRevoke)
      ∷ (list_any (λ i. ltb greatest_round (next_round m w p i)) is, RoundsFull)
      ∷ (is_too_many most_messages (length (sent_messages w)) count, MessagesFull) ∷ []

  same_server : (is js : List ℕ) → is ≡ js
      → first_cause (of_server is (length (messages_of (map (preparation m w p) is)))) ≡ first_cause (of_server js (length js))
  same_server is js e =
      ap (λ n. first_cause (of_server is n)) (one_each m w p is) ∙ ap (λ xs. first_cause (of_server xs (length xs))) e

  same_causes : (full bad self : Bool) (is js : List ℕ) → (bad ≡ false → self ≡ false → is ≡ js)
      → first_cause ((full, EventsFull) ∷ (bad, BadServer) ∷ (self, SelfSuspect)
      ∷ of_server is (length (messages_of (map (preparation m w p) is))))
      ≡ first_cause ((full, EventsFull) ∷ (bad, BadServer) ∷ (self, SelfSuspect) ∷ of_server js (length js))
  same_causes true bad self is js same = refl
  same_causes false true self is js same = refl
  same_causes false false true is js same = refl
  same_causes false false false is js same = same_server is js (same refl refl)

not_same : (p q : ℕ) → eqb p q ≡ false → p ≡ q → ⊥
not_same p q e at = clash (eqb p q) (eq-eqb p q at) e

both : (m : Membership) (w : Trace) → m.beta ≡ 0 → IsReached m w → (p q : ℕ)
    → (leb m.count p || leb m.count q) ≡ false → eqb p q ≡ false → covered_instances m w p q ≡ open_to_front m w p q
both m w zero r p q good other =
    covered_to_front m w zero r p q (leb-false m.count p (or_parts (leb m.count p) (leb m.count q) good).0)
    (not_same p q other)

pub beta_zero_refuses : BetaZeroRefuses
beta_zero_refuses m w zero r p q =
    same_causes m w p q (leb most_events (events w)) (leb m.count p || leb m.count q) (eqb p q)
    (covered_instances m w p q)
    (open_to_front m w p q) (both m w zero r p q)

pub beta_zero_sends : BetaZeroSends
beta_zero_sends m w zero r p q fine =
    let h = none_holds ((leb most_events (events w), EventsFull)
    ∷ (leb m.count p || leb m.count q, BadServer) ∷ (eqb p q, SelfSuspect)
    ∷ of_server m w p q (covered_instances m w p q)
    (length (messages_of (map (preparation m w p) (covered_instances m w p q))))) fine in
    ap (map (preparation m w p)) (both m w zero r p q h.1.0 h.1.1.0)
