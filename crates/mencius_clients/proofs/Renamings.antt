-- Renamings of equal commands that are never acknowledged.
use Rattle.std.proofs.Common.{◌≡◌, ◌≢◌, ◌⊎◌, inl, inr, ℕ, true, Option, Some, refl, sym, ap, ◌∙◌}
use Rattle.std.proofs.lemmas.Bool.{cases_eq}
use Rattle.mencius_base.specs.declared.command.Command.{Command}
use Rattle.mencius_judge.specs.Log.{Log, acknowledged, has_id}
use Rattle.mencius_clients.specs.Reached.{HasLike, IsLostAt, Renaming}

-- no slot is renamed
pub same_names : (w : Log) (calls : ℕ → Option Command) → Renaming w calls
same_names w calls = record {
  renamed = λ t. t;
  origin = λ t. t;
  backward = λ t. refl;
  forward = λ t. refl;
  alike = λ t d h. (d, h.0, refl, h.1);
  alike_before = λ t d h. (d, h.0, refl, h.1);
  keeps = λ t h. (refl, refl);
}

-- ---- two slots change places

pick : (n s other : ℕ) → (n ≡ s) ⊎ (n ≢ s) → (n ≡ other) ⊎ (n ≢ other) → ℕ
pick n s other (inl e) q = other
pick n s other (inr ne) (inl e) = s
pick n s other (inr ne) (inr far) = n

pick_first : (n s other : ℕ) (p : (n ≡ s) ⊎ (n ≢ s)) (q : (n ≡ other) ⊎ (n ≢ other)) → n ≡ s → pick n s other p q ≡ other
unfolding pick
pick_first n s other (inl e) q same = refl
pick_first n s other (inr ne) q same = absurd (ne same)

pick_second : (n s other : ℕ) (p : (n ≡ s) ⊎ (n ≢ s)) (q : (n ≡ other) ⊎ (n ≢ other)) → n ≢ s → n ≡ other
    → pick n s other p q ≡ s
unfolding pick
pick_second n s other (inl e) q ne same = absurd (ne e)
pick_second n s other (inr far) (inl e) ne same = refl
pick_second n s other (inr far) (inr apart) ne same = absurd (apart same)

pick_third : (n s other : ℕ) (p : (n ≡ s) ⊎ (n ≢ s)) (q : (n ≡ other) ⊎ (n ≢ other)) → n ≢ s → n ≢ other
    → pick n s other p q ≡ n
unfolding pick
pick_third n s other (inl e) q ne far = absurd (ne e)
pick_third n s other (inr apart) (inl e) ne far = absurd (far e)
pick_third n s other (inr apart) (inr also) ne far = refl

module _ (s other : ℕ) where
  pub swapped : ℕ → ℕ
  swapped n = pick n s other (cases_eq n s) (cases_eq n other)

  pub swapped_first : swapped s ≡ other
  unfolding swapped
  swapped_first = pick_first s s other (cases_eq s s) (cases_eq s other) refl

  pub swapped_at : (n : ℕ) → n ≡ s → swapped n ≡ other
  unfolding swapped
  swapped_at n = pick_first n s other (cases_eq n s) (cases_eq n other)

  pub swapped_second : (n : ℕ) → n ≢ s → n ≡ other → swapped n ≡ s
  unfolding swapped
  swapped_second n = pick_second n s other (cases_eq n s) (cases_eq n other)

  pub swapped_third : (n : ℕ) → n ≢ s → n ≢ other → swapped n ≡ n
  unfolding swapped
  swapped_third n = pick_third n s other (cases_eq n s) (cases_eq n other)

  swapped_twice : (n : ℕ) → swapped (swapped n) ≡ n
  swapped_twice n = elim (cases_eq n s) [
    | inl e ↦ ap swapped (swapped_at n e) ∙ elim (cases_eq other s) [
      | inl same ↦ swapped_at other same ∙ same ∙ sym e
      | inr ne ↦ swapped_second other ne refl ∙ sym e
    ]
    | inr ne ↦ elim (cases_eq n other) [
      | inl e ↦ ap swapped (swapped_second n ne e) ∙ swapped_first ∙ sym e
      | inr far ↦ ap swapped (swapped_third n ne far) ∙ swapped_third n ne far
    ]
  ]

  module _ (w : Log) (calls : ℕ → Option Command) (names : Renaming w calls) (f g : Command) (at : IsLostAt w calls s f)
      (there : IsLostAt w calls other g) (equal : f.op ≡ g.op) where
    like_swapped : (t : ℕ) (d : Command) → IsLostAt w calls t d → HasLike w calls (swapped t) d
    like_swapped t d h = elim (cases_eq t s) [
      | inl e ↦
          let one : f ≡ d = cc (at.0, h.0, e) in (
            g,
            ap calls (swapped_at t e) ∙ there.0,
            sym equal ∙ ap (λ (c : Command). c.op) one,
            there.1,
          )
      | inr ne ↦ elim (cases_eq t other) [
        | inl e ↦
            let one : g ≡ d = cc (there.0, h.0, e) in (
              f,
              ap calls (swapped_second t ne e) ∙ at.0,
              equal ∙ ap (λ (c : Command). c.op) one,
              at.1,
            )
        | inr far ↦ (d, ap calls (swapped_third t ne far) ∙ h.0, refl, h.1)
      ]
    ]

    not_lost : (t : ℕ) → ((d : Command) → calls t ≡ Some d → has_id (acknowledged w) d.id ≡ true) → swapped t ≡ t
    not_lost t h = swapped_third t
        (λ (e : t ≡ s). let replied = h f (ap calls e ∙ at.0) in let lost = at.1 in absurd (cc))
        (λ (e : t ≡ other). let replied = h g (ap calls e ∙ there.0) in let lost = there.1 in absurd (cc))

    pub swapped_names : Renaming w calls
    swapped_names = record {
      renamed = λ t. names.renamed (swapped t);
      origin = λ t. swapped (names.origin t);
      backward = λ t. ap swapped (names.backward (swapped t)) ∙ swapped_twice t;
      forward = λ t. ap names.renamed (swapped_twice (names.origin t)) ∙ names.forward t;
      alike = λ t d h.
          let near = like_swapped t d h in
          let far = names.alike (swapped t) near.0 (near.1, near.3) in
          (far.0, far.1, far.2 ∙ near.2, far.3);
      alike_before = λ t d h.
          let near = names.alike_before t d h in
          let far = like_swapped (names.origin t) near.0 (near.1, near.3) in
          (far.0, far.1, far.2 ∙ near.2, far.3);
      keeps = λ t h.
          let old = names.keeps t h in
          let same = not_lost t h in
          (ap names.renamed same ∙ old.0, ap swapped old.1 ∙ same);
    }

    pub renamed_is : (t : ℕ) → swapped_names.renamed t ≡ names.renamed (swapped t)
    unfolding swapped_names
    renamed_is t = refl

-- ---- a slot is taken or freed

module _ (w : Log) (calls new : ℕ → Option Command) (slot : ℕ)
    (kept : (d : Command) → calls slot ≡ Some d → has_id (acknowledged w) d.id ≡ true)
    (elsewhere : (t : ℕ) → t ≢ slot → new t ≡ calls t) (names : Renaming w calls) where
  pub apart_named : (t : ℕ) → t ≢ slot → names.renamed t ≢ slot
  apart_named t ne e = ne (sym (names.backward t) ∙ ap names.origin e ∙ (names.keeps slot kept).1)

  apart_before : (t : ℕ) → t ≢ slot → names.origin t ≢ slot
  apart_before t ne e = ne (sym (names.forward t) ∙ ap names.renamed e ∙ (names.keeps slot kept).0)

  pub names_still : Renaming w new
  names_still = record {
    renamed = names.renamed;
    origin = names.origin;
    backward = names.backward;
    forward = names.forward;
    alike = λ t d h. elim (cases_eq t slot) [
      | inl e ↦ (d, ap new (ap names.renamed e ∙ (names.keeps slot kept).0 ∙ sym e) ∙ h.0, refl, h.1)
      | inr ne ↦
          let old = names.alike t d (sym (elsewhere t ne) ∙ h.0, h.1) in
          (old.0, elsewhere (names.renamed t) (apart_named t ne) ∙ old.1, old.2, old.3)
    ];
    alike_before = λ t d h. elim (cases_eq t slot) [
      | inl e ↦ (d, ap new (ap names.origin e ∙ (names.keeps slot kept).1 ∙ sym e) ∙ h.0, refl, h.1)
      | inr ne ↦
          let old = names.alike_before t d (sym (elsewhere t ne) ∙ h.0, h.1) in
          (old.0, elsewhere (names.origin t) (apart_before t ne) ∙ old.1, old.2, old.3)
    ];
    keeps = λ t h. elim (cases_eq t slot) [
      | inl e ↦
          let old = names.keeps slot kept in
          (ap names.renamed e ∙ old.0 ∙ sym e, ap names.origin e ∙ old.1 ∙ sym e)
      | inr ne ↦ names.keeps t (λ d at. h d (elsewhere t ne ∙ at))
    ];
  }

  pub still_renamed : (t : ℕ) → names_still.renamed t ≡ names.renamed t
  unfolding names_still
  still_renamed t = refl
