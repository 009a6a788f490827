-- What a part of a log says about the whole log.
use Rattle.std.proofs.Common.{◌≡◌, ◌⊎◌, inl, inr, Bool, true, false, cond, List, [], ◌∷◌, ◌++◌, ◌||◌, Some, None, is_some, ◌-◌, get_or, length, reverse, arith, refl, sym, subst, ap, ◌∙◌}
use Rattle.std.specs.List.{Contains}
use Rattle.std.proofs.lemmas.List.{get_or-reverse, length-reverse}
use Rattle.std.proofs.lemmas.Bool.{cases_Bool, or_cases, or_left, or_right}
use Rattle.mencius_base.specs.Command.{is_same_id}
use Rattle.mencius_base.specs.declared.command.Command.{Command}
use Rattle.mencius_base.specs.declared.command.CommandId.{CommandId}
use Rattle.mencius_log.specs.declared.observation.Answer.{Answer}
use Rattle.mencius_log.specs.declared.observation.Observation.{Observation}
use Rattle.mencius_log.specs.declared.observation.Observation.TheVariants.{Submit, Execute, Reply, Lookup, Tell, Settle, Restore}
use Rattle.mencius_judge.specs.Log.{Log, acknowledged, acknowledged_before, command_of, has_id, is_failed}
use Rattle.mencius_judge.proofs.promises.Identities.{has-append, same_id, same_id_eq}
use Rattle.mencius_judge.proofs.promises.Kept.{same_command}
use Rattle.mencius_judge.proofs.promises.Logs.{contains_cons, contains_here, contains_later, contains_none}

-- a command stays
pub command_later : (later u : Log) (id : CommandId) (c : Command) → command_of u id ≡ Some c
    → command_of (later ++ u) id ≡ Some c
command_later [] u id c e = e
command_later (o ∷ later) u id c e =
    let was = command_later later u id c e in
    same_command (later ++ u) o id (ap is_some was) ∙ was

-- ---- acknowledged commands

-- the commands after a reply to x
abbrev with_one : List CommandId → CommandId → Bool → Bool → List CommandId
with_one ids x failed known = cond (failed || known) ids (ids ++ x ∷ [])

one_stays : (ids : List CommandId) (x id : CommandId) (failed known : Bool) → has_id ids id ≡ true
    → has_id (with_one ids x failed known) id ≡ true
one_stays ids x id true known h = h
one_stays ids x id false true h = h
one_stays ids x id false false h = has-append ids x id ∙ or_right (is_same_id x id) (has_id ids id) h

one_now : (ids : List CommandId) (x : CommandId) (known : Bool) → has_id ids x ≡ known
    → has_id (with_one ids x false known) x ≡ true
one_now ids x true h = h
one_now ids x false h = has-append ids x x ∙ or_left (is_same_id x x) (has_id ids x) (same_id x)

-- the reply acknowledges the command, or the command was acknowledged before
one_either : (ids : List CommandId) (x id : CommandId) (failed known : Bool)
    → has_id (with_one ids x failed known) id ≡ true → ((x ≡ id) × (failed ≡ false)) ⊎ (has_id ids id ≡ true)
one_either ids x id true known h = inr h
one_either ids x id false true h = inr h
one_either ids x id false false h =
    elim (or_cases (is_same_id x id) (has_id ids id) (sym (has-append ids x id) ∙ h)) [
      | inl e ↦ inl (same_id_eq x id e, refl)
      | inr before ↦ inr before
    ]

pub acknowledged_more : (u : Log) (o : Observation) (id : CommandId) → has_id (acknowledged u) id ≡ true
    → has_id (acknowledged (o ∷ u)) id ≡ true
acknowledged_more u (Submit c) id e = e
acknowledged_more u (Execute p x) id e = e
acknowledged_more u (Reply x a) id e =
    one_stays (acknowledged u) x id (is_failed a) (has_id (acknowledged u) x) e
acknowledged_more u (Lookup r key x) id e = e
acknowledged_more u (Tell r p) id e = e
acknowledged_more u (Settle p) id e = e
acknowledged_more u (Restore p q n) id e = e

pub acknowledged_later : (later u : Log) (id : CommandId) → has_id (acknowledged u) id ≡ true
    → has_id (acknowledged (later ++ u)) id ≡ true
acknowledged_later [] u id e = e
acknowledged_later (o ∷ later) u id e = acknowledged_more (later ++ u) o id (acknowledged_later later u id e)

-- a reply other than `failed` acknowledges its command
pub acknowledged_now : (u : Log) (id : CommandId) (x : Answer) → is_failed x ≡ false
    → has_id (acknowledged (Reply id x ∷ u)) id ≡ true
acknowledged_now u id x counts =
    ap (λ d. has_id (with_one (acknowledged u) id d (has_id (acknowledged u) id)) id) counts
    ∙ one_now (acknowledged u) id (has_id (acknowledged u) id) refl

pub acknowledged_either : (u : Log) (id x : CommandId) (a : Answer) → has_id (acknowledged (Reply id a ∷ u)) x ≡ true
    → (id ≡ x) ⊎ (has_id (acknowledged u) x ≡ true)
acknowledged_either u id x a e =
    elim (one_either (acknowledged u) id x (is_failed a) (has_id (acknowledged u) id) e) [
      | inl now ↦ inl now.0
      | inr before ↦ inr before
    ]

-- an acknowledged command has a reply other than `failed`
pub acknowledged_found : (w : Log) (id : CommandId) → has_id (acknowledged w) id ≡ true
    → (x : Answer) × Contains w (Reply id x) × (is_failed x ≡ false)
acknowledged_found [] id e = absurd (cc)
acknowledged_found (Submit c ∷ w) id e =
    let r = acknowledged_found w id e in (r.0, contains_later (Submit c) w (Reply id r.0) r.1, r.2)
acknowledged_found (Execute p x ∷ w) id e =
    let r = acknowledged_found w id e in (r.0, contains_later (Execute p x) w (Reply id r.0) r.1, r.2)
acknowledged_found (Reply y a ∷ w) id e =
    elim (one_either (acknowledged w) y id (is_failed a) (has_id (acknowledged w) y) e) [
      | inl now ↦ (
        a,
        contains_here (Reply y a) w (Reply id a) (ap (λ (z : CommandId). Reply z a) now.0),
        now.1,
      )
      | inr before ↦
          let r = acknowledged_found w id before in (r.0, contains_later (Reply y a) w (Reply id r.0) r.1, r.2)
    ]
acknowledged_found (Lookup p key x ∷ w) id e =
    let r = acknowledged_found w id e in (r.0, contains_later (Lookup p key x) w (Reply id r.0) r.1, r.2)
acknowledged_found (Tell p q ∷ w) id e =
    let r = acknowledged_found w id e in (r.0, contains_later (Tell p q) w (Reply id r.0) r.1, r.2)
acknowledged_found (Settle p ∷ w) id e =
    let r = acknowledged_found w id e in (r.0, contains_later (Settle p) w (Reply id r.0) r.1, r.2)
acknowledged_found (Restore p q n ∷ w) id e =
    let r = acknowledged_found w id e in (r.0, contains_later (Restore p q n) w (Reply id r.0) r.1, r.2)

-- and a command that has one is acknowledged
pub acknowledged_there : (w : Log) (id : CommandId) (x : Answer) → Contains w (Reply id x) → is_failed x ≡ false
    → has_id (acknowledged w) id ≡ true
acknowledged_there [] id x h counts = absurd (contains_none (Reply id x) h)
acknowledged_there (o ∷ w) id x h counts =
    elim (contains_cons o w (Reply id x) h) [
      | inl e ↦ subst (λ (p : Observation). has_id (acknowledged (p ∷ w)) id ≡ true) (sym e) (acknowledged_now w id x counts)
      | inr there ↦ acknowledged_more w o id (acknowledged_there w id x there counts)
    ]

-- if a command was acknowledged before another one was first submitted, it was when that one was
pub before_later : (later u : Log) (id x : CommandId) → has_id (acknowledged u) x ≡ true → command_of u id ≡ None
    → is_some (command_of (later ++ u) id) ≡ true → has_id (acknowledged_before (later ++ u) id) x ≡ true
before_later [] u id x replied new there = absurd (cc)
before_later (Submit c ∷ later) u id x replied new there =
    elim (cases_Bool (is_some (command_of (later ++ u) id))) [
      | inl e ↦
          ap (λ d. has_id (cond d (acknowledged_before (later ++ u) id) (acknowledged (later ++ u))) x) e
          ∙ before_later later u id x replied new e
      | inr e ↦
          ap (λ d. has_id (cond d (acknowledged_before (later ++ u) id) (acknowledged (later ++ u))) x) e
          ∙ acknowledged_later later u x replied
    ]
before_later (Execute p y ∷ later) u id x replied new there = before_later later u id x replied new there
before_later (Reply y a ∷ later) u id x replied new there = before_later later u id x replied new there
before_later (Lookup r key y ∷ later) u id x replied new there = before_later later u id x replied new there
before_later (Tell r p ∷ later) u id x replied new there = before_later later u id x replied new there
before_later (Settle p ∷ later) u id x replied new there = before_later later u id x replied new there
before_later (Restore p q n ∷ later) u id x replied new there = before_later later u id x replied new there

pub contains_end : {A : Type 0} (front xs : List A) (x : A) → Contains xs x → Contains (front ++ xs) x
contains_end [] xs x h = h
contains_end (y ∷ front) xs x h = contains_later y (front ++ xs) x (contains_end front xs x h)

-- what is in a list is in it from its end
pub contains_reverse : {A : Type 0} (xs : List A) (x : A) → Contains xs x → Contains (reverse xs) x
contains_reverse xs x h =
    let less = h.1 in (
      length xs - 1 - h.0,
      omega (arith, length-reverse xs),
      get_or-reverse xs (length xs - 1 - h.0) x (omega arith) ∙ ap (λ n. get_or xs n x) (omega arith) ∙ h.2,
    )
