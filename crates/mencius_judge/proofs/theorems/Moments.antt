-- Histories of a log that keeps all promises are comparable at any moments, and later commands come after earlier
-- histories.
use Rattle.std.proofs.Common.{◌≡◌, inl, inr, ℕ, suc, true, List, [], ◌∷◌, ◌++◌, Some, is_some, slice_get, refl, sym, subst, ap, ⊎_elim}
use Rattle.mencius_base.specs.declared.command.CommandId.{CommandId}
use Rattle.mencius_model.specs.Executed.{IsComparable, IsPrefix}
use Rattle.mencius_model.proofs.trace.Prefixes.{prefix_self, prefix_trans}
use Rattle.mencius_judge.specs.Laws.{ComparableAtAnyMoments, KeptAtEachMoment, LaterCommandsStandBehind}
use Rattle.mencius_judge.specs.Log.{Log, command_of, history}
use Rattle.mencius_judge.specs.Promises.{WereRestored}
use Rattle.mencius_judge.proofs.promises.Kept.{all_known, comparable_earlier, history_grows, kept_before_all, restored_earlier}

-- a history is a prefix of each later one
pub history_later : (later w : Log) → WereRestored (later ++ w) → (p : ℕ) → IsPrefix (history w p) (history (later ++ w) p)
history_later [] w h p = prefix_self (history w p)
history_later (o ∷ later) w h p =
    prefix_trans (history w p) (history (later ++ w) p) (history (o ∷ (later ++ w)) p)
    (history_later later w (restored_earlier (later ++ w) o h) p) (history_grows (later ++ w) o h p)

pub moments_kept : KeptAtEachMoment
moments_kept later w h = kept_before_all later w h

pub moments_comparable : ComparableAtAnyMoments
moments_comparable later other v w h same p q =
    comparable_earlier (history w p) (history v q) (history (later ++ w) p) (history (later ++ w) q)
    (history_later later w h.restored p)
    (subst (λ (u : Log). IsPrefix (history v q) (history u q)) (sym same)
    (history_later other v (subst WereRestored same h.restored) q))
    (h.same_order p q)

-- if a list is comparable to another one and lacks one of its items, the list is a prefix of the part before that item
pub begins : (xs front back : List CommandId) (id : CommandId) → IsComparable xs (front ++ id ∷ back)
    → ((n : ℕ) → slice_get xs n ≡ Some id → ⊥) → IsPrefix xs front
begins [] front back id either absent = (front, refl)
begins (x ∷ xs) [] back id either absent =
    absurd (absent 0 (⊎_elim (λ (h : IsPrefix (x ∷ xs) (id ∷ back)). (let e : x ≡ id = cc (h.1) in ap Some e))
    (λ (h : IsPrefix (id ∷ back) (x ∷ xs)). (let e : x ≡ id = cc (h.1) in ap Some e)) either))
begins (x ∷ xs) (y ∷ front) back id either absent =
    ⊎_elim (λ (h : IsPrefix (x ∷ xs) (y ∷ (front ++ id ∷ back))).
    let heads : x ≡ y = cc (h.1) in
    let rest : IsPrefix xs (front ++ id ∷ back) = (h.0, cc (h.1)) in
    let r = begins xs front back id (inl rest) (λ n e. absent (suc n) e) in (r.0, cc (heads, r.1)))
    (λ (h : IsPrefix (y ∷ (front ++ id ∷ back)) (x ∷ xs)).
    let heads : x ≡ y = cc (h.1) in
    let rest : IsPrefix (front ++ id ∷ back) xs = (h.0, cc (h.1)) in
    let r = begins xs front back id (inr rest) (λ n e. absent (suc n) e) in (r.0, cc (heads, r.1)))
    either

pub later_behind : LaterCommandsStandBehind
later_behind later w h p q id front back none e =
    let now = kept_before_all later w h in
    begins (history w p) front back id
    (subst (IsComparable (history w p)) e
    (comparable_earlier (history w p) (history (later ++ w) q) (history (later ++ w) p) (history (later ++ w) q)
    (history_later later w h.restored p) (prefix_self (history (later ++ w) q)) (h.same_order p q)))
    (λ n there.
    let was : is_some (command_of w id) ≡ true = all_known w p now.submitted n id there in
    absurd (cc))
