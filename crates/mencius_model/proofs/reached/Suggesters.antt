-- Only the owner suggests at an instance, it suggests there at most once, and it never suggests at an instance that it
-- skipped. These facts follow from the owner's front.
use Rattle.std.proofs.Common.{◌≡◌, ℕ, ◌+◌, ◌<◌, ◌≤◌, [], ◌∷◌, inl, inr, sym, ◌∙◌, arith}
use Rattle.mencius_base.specs.declared.message.Message.TheVariants.{Suggest, Skip}
use Rattle.mencius_base.specs.Members.{Membership, owner}
use Rattle.mencius_model.specs.Trace.{Sent, Trace}
use Rattle.mencius_model.specs.Server.{front, front_by}
use Rattle.mencius_model.proofs.trace.Lists.{IsIn}
use Rattle.mencius_model.proofs.rights.LineRights.{IsGrown, MaySuggest}
use Rattle.mencius_model.proofs.trace.AnswersLast.{greatest_ge, same}
use Rattle.mencius_base.specs.Limits.{instance_count}

module _ (m : Membership) where
  pub suggest_front : (w : Trace) (p i t : ℕ) → 1 ≤ m.count → IsIn (Sent (Suggest p i t)) w → i < front m w p
  suggest_front w p i t few h =
      let s = greatest_ge (front_by m p) (Sent (Suggest p i t)) w h in
      let below : i + m.count ≤ front m w p = omega (arith, rw (same p) at s) in
      omega (arith, below, few)

  pub skip_front : (w : Trace) (p first stop : ℕ) → IsIn (Sent (Skip p first stop)) w → stop ≤ front m w p
  skip_front w p first stop h =
      let s = greatest_ge (front_by m p) (Sent (Skip p first stop)) w h in
      omega (arith, rw (same p) at s)

  pub suggest_owner : (w : Trace) → IsGrown m w → (p i t : ℕ) → IsIn (Sent (Suggest p i t)) w → owner m i ≡ p
  suggest_owner [] grown p i t h = absurd h
  suggest_owner (l ∷ w) grown p i t (inl e) = let may : MaySuggest m w p i t = rw (← e) at grown.1 in may.own
  suggest_owner (l ∷ w) grown p i t (inr h) = suggest_owner w grown.0 p i t h

  pub suggest_small : (w : Trace) → IsGrown m w → (p i t : ℕ) → IsIn (Sent (Suggest p i t)) w → i < instance_count
  suggest_small [] grown p i t h = absurd h
  suggest_small (l ∷ w) grown p i t (inl e) = let may : MaySuggest m w p i t = rw (← e) at grown.1 in may.small
  suggest_small (l ∷ w) grown p i t (inr h) = suggest_small w grown.0 p i t h

  pub suggest_once : (w : Trace) → 1 ≤ m.count → IsGrown m w → (p q i t u : ℕ) → IsIn (Sent (Suggest p i t)) w
      → IsIn (Sent (Suggest q i u)) w → (p ≡ q) × (t ≡ u)
  suggest_once [] few grown p q i t u h also = absurd h
  suggest_once (l ∷ w) few grown p q i t u (inl e) (inl left) = (cc, cc)
  suggest_once (l ∷ w) few grown p q i t u (inl e) (inr also) =
      let may : MaySuggest m w p i t = rw (← e) at grown.1 in
      let o = suggest_owner w grown.0 q i u also in
      let same : q ≡ p = sym o ∙ may.own in
      let ahead = suggest_front w q i u few also in
      absurd (omega (arith, may.past, rw same at ahead))
  suggest_once (l ∷ w) few grown p q i t u (inr h) (inl e) =
      let may : MaySuggest m w q i u = rw (← e) at grown.1 in
      let o = suggest_owner w grown.0 p i t h in
      let same : p ≡ q = sym o ∙ may.own in
      let ahead = suggest_front w p i t few h in
      absurd (omega (arith, may.past, rw same at ahead))
  suggest_once (l ∷ w) few grown p q i t u (inr h) (inr also) = suggest_once w few grown.0 p q i t u h also

  pub skip_free : (w : Trace) → 1 ≤ m.count → IsGrown m w → (p first stop q i t : ℕ) → owner m i ≡ p → first ≤ i
      → i < stop
      → IsIn (Sent (Skip p first stop)) w → IsIn (Sent (Suggest q i t)) w → ⊥
  skip_free [] few grown p first stop q i t o le lt h also = h
  skip_free (l ∷ w) few grown p first stop q i t o le lt (inl e) (inl left) = absurd (cc)
  skip_free (l ∷ w) few grown p first stop q i t o le lt (inl e) (inr also) =
      let may : (front m w p ≤ first) × (owner m stop ≡ p) = rw (← e) at grown.1 in
      let same : q ≡ p = sym (suggest_owner w grown.0 q i t also) ∙ o in
      let ahead = suggest_front w q i t few also in
      absurd (omega (arith, may.0, le, rw same at ahead))
  skip_free (l ∷ w) few grown p first stop q i t o le lt (inr h) (inl e) =
      let may : MaySuggest m w q i t = rw (← e) at grown.1 in
      let same : q ≡ p = sym may.own ∙ o in
      let past : front m w p ≤ i = rw same at may.past in
      let s = skip_front w p first stop h in
      absurd (omega (arith, past, s, lt))
  skip_free (l ∷ w) few grown p first stop q i t o le lt (inr h) (inr also) =
      skip_free w few grown.0 p first stop q i t o le lt h also
