-- What a step adds to the quotes, and what two steps add one after the other.
use Rattle.std.proofs.Common.{◌≡◌, ◌⊎◌, inl, inr, List, sym, subst, ⊎_elim}
use Rattle.std.specs.List.{Contains}
use Rattle.mencius_judge.specs.declared.quote.Quote.{Quote}
use Rattle.mencius_judge.specs.Added.{Adds}
use Rattle.mencius_judge.specs.Quotes.{NumberedLog}

module _ (lines : NumberedLog) where
  -- the property holds for one line only, which the step adds
  pub adds_one : (P : Quote → Type 0) (line : Quote) (old new : List Quote) → P line
      → ((other : Quote) → P other → other ≡ line) → Adds lines (λ (other : Quote). other ≡ line) old new
      → Adds lines P old new
  adds_one P line old new holds only step numbered ordered =
      let r = step numbered ordered in (
        r.0,
        record {
          kept = r.1.kept;
          added = λ other h. r.1.added other (only other h);
          sound = λ other h. ⊎_elim (λ (was : Contains old other). inl was)
              (λ (is : other ≡ line). inr (subst P (sym is) holds)) (r.1.sound other h);
        },
      )

  -- the property holds for no line, so nothing is added
  pub adds_none : (P : Quote → Type 0) (old : List Quote) → ((other : Quote) → P other → ⊥) → Adds lines P old old
  adds_none P old none numbered ordered = (
    ordered,
    record { kept = λ other h. h; added = λ other h. absurd (none other h); sound = λ other h. inl h },
  )

  pub adds_both : (P Q : Quote → Type 0) (old between new : List Quote) → Adds lines P old between
      → Adds lines Q between new → Adds lines (λ (other : Quote). P other ⊎ Q other) old new
  adds_both P Q old between new first second numbered ordered =
      let r = first numbered ordered in
      let t = second numbered r.0 in (
        t.0,
        record {
          kept = λ other h. t.1.kept other (r.1.kept other h);
          added = λ other h. ⊎_elim (λ (p : P other). t.1.kept other (r.1.added other p))
              (λ (q : Q other). t.1.added other q) h;
          sound = λ other h. ⊎_elim (λ (m : Contains between other). ⊎_elim (λ (o : Contains old other). inl o)
              (λ (p : P other). inr (inl p)) (r.1.sound other m))
              (λ (q : Q other). inr (inr q)) (t.1.sound other h);
        },
      )

  pub adds_same : (P Q : Quote → Type 0) (old new : List Quote) → ((other : Quote) → P other → Q other)
      → ((other : Quote) → Q other → P other) → Adds lines P old new → Adds lines Q old new
  adds_same P Q old new to from step numbered ordered =
      let r = step numbered ordered in (
        r.0,
        record {
          kept = r.1.kept;
          added = λ other h. r.1.added other (from other h);
          sound = λ other h. ⊎_elim (λ (was : Contains old other). inl was)
              (λ (p : P other). inr (to other p)) (r.1.sound other h);
        },
      )

  -- a line that is quoted already may have the property
  pub adds_own : (P Q : Quote → Type 0) (own : Quote) (old new : List Quote) → Contains old own
      → ((other : Quote) → P other → Q other) → ((other : Quote) → Q other → (other ≡ own) ⊎ P other)
      → Adds lines P old new → Adds lines Q old new
  adds_own P Q own old new there to from step numbered ordered =
      let r = step numbered ordered in (
        r.0,
        record {
          kept = r.1.kept;
          added = λ other h. ⊎_elim
              (λ (is : other ≡ own). r.1.kept other (subst (Contains old) (sym is) there))
              (λ (p : P other). r.1.added other p) (from other h);
          sound = λ other h. ⊎_elim (λ (was : Contains old other). inl was)
              (λ (p : P other). inr (to other p)) (r.1.sound other h);
        },
      )
