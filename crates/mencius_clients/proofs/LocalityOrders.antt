-- The commands of a key in an order, and the text that the key holds after them.
use Rattle.std.proofs.Common.{◌≡◌, inl, inr, ℕ, zero, suc, ◌<◌, ◌||◌, Bool, true, false, cond, List, [], ◌∷◌, ◌++◌, Option, Some, None, length, slice_get, arith, refl, sym, ap, ◌∙◌, append_assoc, append-nil}
use Rattle.std.specs.Str.{bytes_eq}
use Rattle.std.specs.List.{filter, cons_option}
use Rattle.std.proofs.lemmas.Bool.{cases_Bool, cases_order, or_cases}
use Rattle.std.proofs.lemmas.Slice.Eq.{bytes_eq-Decides}
use Rattle.mencius_base.specs.Command.{is_same_id}
use Rattle.mencius_base.specs.declared.command.Command.{Command}
use Rattle.mencius_base.specs.declared.command.CommandId.{CommandId}
use Rattle.mencius_model.specs.KeyMap.{key_of, value_at}
use Rattle.mencius_judge.specs.Log.{Log, command_of, commands_of, has_id}
use Rattle.mencius_judge.proofs.observations.OrderSteps.{item_here}
use Rattle.mencius_judge.proofs.promises.Identities.{place_has, same_id_eq}
use Rattle.mencius_clients.specs.Configurations.{become}
use Rattle.mencius_clients.specs.KeyLogs.{is_of_key, is_on_key}
use Rattle.mencius_clients.proofs.Lacking.{IsOnce, lacks}
use Rattle.mencius_clients.proofs.Values.{value_elsewhere, value_there}

-- ---- lists

module _ (p : CommandId → Bool) where
  pub has_filter : (xs : List CommandId) (id : CommandId) → p id ≡ true → has_id (filter p xs) id ≡ has_id xs id
  has_filter [] id h = refl
  has_filter (x ∷ xs) id h =
      elim (cases_Bool (p x)) [
        | inl e ↦
            ap (λ d. has_id (cond d (x ∷ filter p xs) (filter p xs)) id) e
            ∙ ap (λ d. is_same_id x id || d) (has_filter xs id h)
        | inr e ↦
            ap (λ d. has_id (cond d (x ∷ filter p xs) (filter p xs)) id) e
            ∙ has_filter xs id h
            ∙ elim (cases_Bool (is_same_id x id)) [
              | inl same ↦ let t : p x ≡ true = ap p (same_id_eq x id same) ∙ h in cc
              | inr other ↦ sym (ap (λ d. d || has_id xs id) other)
            ]
      ]

  pub passes : (xs : List CommandId) (id : CommandId) → has_id (filter p xs) id ≡ true → p id ≡ true
  passes [] id h = absurd (cc)
  passes (x ∷ xs) id h =
      elim (cases_Bool (p x)) [
        | inl e ↦
            elim (or_cases (is_same_id x id) (has_id (filter p xs) id)
            (sym (ap (λ d. has_id (cond d (x ∷ filter p xs) (filter p xs)) id) e) ∙ h)) [
              | inl same ↦ ap p (sym (same_id_eq x id same)) ∙ e
              | inr later ↦ passes xs id later
            ]
        | inr e ↦ passes xs id (sym (ap (λ d. has_id (cond d (x ∷ filter p xs) (filter p xs)) id) e) ∙ h)
      ]

  -- a splitting of the rest, with an item before it that does not pass
  passed : (x : CommandId) (xs front : List CommandId) (id : CommandId) (first last : List CommandId) → p x ≡ false
      → xs ≡ first ++ id ∷ last → filter p first ≡ front
      → (more : List CommandId) × (rest : List CommandId) × (x ∷ xs ≡ more ++ id ∷ rest) × (filter p more ≡ front)
  passed x xs front id first last d e is = (
    x ∷ first,
    last,
    ap (λ ys. x ∷ ys) e,
    ap (λ b. cond b (x ∷ filter p first) (filter p first)) d ∙ is,
  )

  -- what splits the commands that pass splits the whole list
  pub split_filter : (xs front back : List CommandId) (id : CommandId) → filter p xs ≡ front ++ id ∷ back
      → (first : List CommandId) × (last : List CommandId) × (xs ≡ first ++ id ∷ last) × (filter p first ≡ front)
  split_filter [] [] back id e = absurd (cc)
  split_filter [] (y ∷ front) back id e = absurd (cc)
  split_filter (x ∷ xs) [] back id e =
      elim (cases_Bool (p x)) [
        | inl d ↦
            let is : x ∷ filter p xs ≡ id ∷ back = sym (ap (λ b. cond b (x ∷ filter p xs) (filter p xs)) d) ∙ e in
            let same : x ≡ id = cc in
            ([], xs, ap (λ z. z ∷ xs) same, refl)
        | inr d ↦
            let r = split_filter xs [] back id (sym (ap (λ b. cond b (x ∷ filter p xs) (filter p xs)) d) ∙ e) in
            passed x xs [] id r.0 r.1 d r.2 r.3
      ]
  split_filter (x ∷ xs) (y ∷ front) back id e =
      elim (cases_Bool (p x)) [
        | inl d ↦
            let is : x ∷ filter p xs ≡ y ∷ (front ++ id ∷ back) =
            sym (ap (λ b. cond b (x ∷ filter p xs) (filter p xs)) d) ∙ e in
            let same : x ≡ y = cc in
            let r = split_filter xs front back id (cc) in (
              x ∷ r.0,
              r.1,
              ap (λ ys. x ∷ ys) r.2,
              ap (λ b. cond b (x ∷ filter p r.0) (filter p r.0)) d ∙ ap (λ ys. x ∷ ys) r.3 ∙ ap (λ z. z ∷ front) same,
            )
        | inr d ↦
            let r = split_filter xs (y ∷ front) back id (sym (ap (λ b. cond b (x ∷ filter p xs) (filter p xs)) d) ∙ e) in
            passed x xs (y ∷ front) id r.0 r.1 d r.2 r.3
      ]

-- a list, split at a place
pub split_place : {A : Type 0} (xs : List A) (n : ℕ) (x : A) → slice_get xs n ≡ Some x
    → (front : List A) × (back : List A) × (xs ≡ front ++ x ∷ back) × (length front ≡ n)
split_place [] n x e = absurd (cc)
split_place (y ∷ xs) zero x e = let same : y ≡ x = cc in ([], xs, ap (λ z. z ∷ xs) same, refl)
split_place (y ∷ xs) (suc n) x e =
    let r = split_place xs n x e in
    let is = r.3 in
    (y ∷ r.0, r.1, ap (λ zs. y ∷ zs) r.2, omega arith)

pub get_before : {A : Type 0} (front back : List A) (n : ℕ) → n < length front
    → slice_get (front ++ back) n ≡ slice_get front n
get_before [] back n less = absurd (omega (arith, less))
get_before (x ∷ front) back zero less = refl
get_before (x ∷ front) back (suc n) less = get_before front back n (omega (arith, less))

-- a list has each item once if no item is in the part before it
pub once_from_splits : (xs : List CommandId)
    → ((front back : List CommandId) (id : CommandId) → xs ≡ front ++ id ∷ back → has_id front id ≡ false) → IsOnce xs
once_from_splits xs h n m id e f =
    elim (cases_order n m) [
      | inl same ↦ same
      | inr (inl less) ↦ absurd (apart n m id less e f)
      | inr (inr less) ↦ absurd (apart m n id less f e)
    ]
  where
    apart : (a b : ℕ) (x : CommandId) → a < b → slice_get xs a ≡ Some x → slice_get xs b ≡ Some x → ⊥
    apart a b x less first second =
        let s = split_place xs b x second in
        let at = s.3 in
        let there : slice_get s.0 a ≡ Some x =
        sym (ap (λ ys. slice_get ys a) s.2 ∙ get_before s.0 (x ∷ s.1) a (omega arith)) ∙ first in
        let has = place_has s.0 x a there in
        let lacks_it = h s.0 s.1 x s.2 in
        cc

pub once_splits : (xs front back : List CommandId) (id : CommandId) → IsOnce xs → xs ≡ front ++ id ∷ back
    → has_id front id ≡ false
once_splits xs front back id once e = lacks xs front [] back id once e

-- the commands that pass stand once too
pub once_filter : (p : CommandId → Bool) (xs : List CommandId) → IsOnce xs → IsOnce (filter p xs)
once_filter p xs once = once_from_splits (filter p xs) (λ front back id e.
    let s = split_filter p xs front back id e in
    let own : p id ≡ true = passes p xs id (has_of_split (filter p xs) front back id e) in
    ap (λ ys. has_id ys id) (sym s.3) ∙ has_filter p s.0 id own ∙ once_splits xs s.0 s.1 id once s.2)
  where
    has_of_split : (ys front back : List CommandId) (id : CommandId) → ys ≡ front ++ id ∷ back → has_id ys id ≡ true
    has_of_split ys front back id e =
        place_has ys id (length front) (ap (λ zs. slice_get zs (length front)) e ∙ item_here front back id)

-- ---- the text of a key

module _ (w : Log) (key : List ℕ) where
  abbrev own : CommandId → Bool
  own id = is_of_key w key id

  abbrev rest : List CommandId → List CommandId
  rest ids = filter own ids

  -- commands of other keys do not change the text
  same_text : (ids : List CommandId) (cs ds : List Command) → value_at key cs ≡ value_at key ds
      → value_at key (cs ++ commands_of w ids) ≡ value_at key (ds ++ commands_of w (filter own ids))
  same_text [] cs ds e = ap (value_at key) (append-nil cs) ∙ e ∙ sym (ap (value_at key) (append-nil ds))
  same_text (x ∷ ids) cs ds e = by_command (command_of w x) refl (λ es fs h. same_text ids es fs h)
    where
      by_command : (o : Option Command) → command_of w x ≡ o
          → ((es fs : List Command) → value_at key es ≡ value_at key fs
          → value_at key (es ++ commands_of w ids) ≡ value_at key (fs ++ commands_of w (rest ids)))
          → value_at key (cs ++ commands_of w (x ∷ ids)) ≡ value_at key (ds ++ commands_of w (filter own (x ∷ ids)))
      by_command None is again =
          ap (λ o. value_at key (cs ++ cons_option o (commands_of w ids))) is ∙ again cs ds e
          ∙ sym (ap (λ b. value_at key (ds ++ commands_of w (cond b (x ∷ rest ids) (rest ids)))) (ap (is_on_key key) is)
          ∙ ap (λ o. value_at key (ds ++ cons_option o (commands_of w (rest ids)))) is)
      by_command (Some c) is again =
          let first : value_at key (cs ++ commands_of w (x ∷ ids)) ≡ value_at key ((cs ++ c ∷ []) ++ commands_of w ids) =
          ap (λ o. value_at key (cs ++ cons_option o (commands_of w ids))) is
          ∙ ap (value_at key) (sym (append_assoc cs (c ∷ []) (commands_of w ids))) in
          elim (cases_Bool (bytes_eq (key_of c.op) key)) [
            | inl own_key ↦
                let same : key_of c.op ≡ key = (bytes_eq-Decides (key_of c.op) key).0 own_key in
                first
                ∙ again (cs ++ c ∷ []) (ds ++ c ∷ [])
                (value_there cs c key same ∙ ap (λ v. become v c.op) e ∙ sym (value_there ds c key same))
                ∙ ap (value_at key) (append_assoc ds (c ∷ []) (commands_of w (rest ids)))
                ∙ sym (ap (λ b. value_at key (ds ++ commands_of w (cond b (x ∷ rest ids) (rest ids)))) (ap (is_on_key key) is ∙ own_key)
                ∙ ap (λ o. value_at key (ds ++ cons_option o (commands_of w (rest ids)))) is)
            | inr other_key ↦
                first
                ∙ again (cs ++ c ∷ []) ds
                (value_elsewhere cs c key (λ (same : key_of c.op ≡ key).
                let own_key = (bytes_eq-Decides (key_of c.op) key).1 same in cc) ∙ e)
                ∙ sym (ap (λ b. value_at key (ds ++ commands_of w (cond b (x ∷ rest ids) (rest ids)))) (ap (is_on_key key) is ∙ other_key))
          ]

  pub text_of_key : (ids : List CommandId) → value_at key (commands_of w ids) ≡ value_at key (commands_of w (filter own ids))
  text_of_key ids = same_text ids [] [] refl
