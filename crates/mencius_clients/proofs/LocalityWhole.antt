-- The commands of each key in a linearization of a whole log, and an order of all commands that has a linearization for
-- each key.
use Rattle.std.proofs.Common.{◌≡◌, inl, inr, ℕ, zero, suc, ◌<◌, ◌≤◌, Bool, true, cond, List, [], ◌∷◌, ◌++◌, Option, Some, None, is_some, length, slice_get, get_or, arith, refl, sym, subst, ap, ◌∙◌}
use Rattle.std.specs.List.{Contains, All, cons_option, filter}
use Rattle.std.proofs.lemmas.Bool.{cases_Bool, or_cases}
use Rattle.std.proofs.lemmas.List.Elements.{filter-append}
use Rattle.std.proofs.lemmas.Slice.Eq.{bytes_eq-Decides}
use Rattle.mencius_base.specs.Command.{is_same_id}
use Rattle.mencius_base.specs.declared.command.Command.{Command}
use Rattle.mencius_base.specs.declared.command.CommandId.{CommandId}
use Rattle.mencius_model.specs.KeyMap.{key_of, out, value_at}
use Rattle.mencius_log.specs.declared.observation.Observation.TheVariants.{Reply}
use Rattle.mencius_judge.specs.Answers.{IsRight}
use Rattle.mencius_judge.specs.Linearization.{IsLinearization}
use Rattle.mencius_judge.specs.Log.{Log, acknowledged, acknowledged_before, command_of, commands_of, has_id}
use Rattle.mencius_judge.proofs.keys.TextMaps.{same_bytes}
use Rattle.mencius_judge.proofs.observations.OrderSteps.{item_here}
use Rattle.mencius_judge.proofs.promises.Identities.{has_place, same_id_eq}
use Rattle.mencius_judge.proofs.promises.Logs.{contains_cons, contains_none}
use Rattle.mencius_clients.specs.declared.timed_command.TimedCommand.{TimedCommand}
use Rattle.mencius_clients.specs.KeyLogs.{is_line_of, is_of_key, is_on_key, log_of_key, order_of_key}
use Rattle.mencius_clients.specs.Locality.{AreRising, IsTimed, LinearizesByMoments, LinearizesEachKey, acknowledged_at, ids_of, submitted_at}
use Rattle.mencius_clients.proofs.Lacking.{has_either, has_item}
use Rattle.mencius_clients.proofs.Later.{acknowledged_found}
use Rattle.mencius_clients.proofs.LocalityLogs.{IsEarlier, acknowledged_kept, before_kept, command_kept, contains_filter, contains_of_filter, earlier, keep}
use Rattle.mencius_clients.proofs.LocalityOrders.{has_filter, once_filter, once_from_splits, once_splits, passes, split_filter, text_of_key}

contains_passes : {A : Type 0} (test : A → Bool) (xs : List A) (x : A) → Contains (filter test xs) x → test x ≡ true
contains_passes test [] x there = absurd (contains_none x there)
contains_passes test (y ∷ xs) x there =
    elim (cases_Bool (test y)) [
      | inl d ↦
          elim (contains_cons y (filter test xs) x
          (subst (λ b. Contains (cond b (y ∷ filter test xs) (filter test xs)) x) d there)) [
            | inl e ↦ ap test (sym e) ∙ d
            | inr later ↦ contains_passes test xs x later
          ]
      | inr d ↦
          contains_passes test xs x (subst (λ b. Contains (cond b (y ∷ filter test xs) (filter test xs)) x) d there)
    ]

module _ (p : CommandId → Bool) where
  pub acknowledged_passes : (w : Log) (id : CommandId) → has_id (acknowledged (keep p w)) id ≡ true → p id ≡ true
  acknowledged_passes w id h =
      let found = acknowledged_found (keep p w) id h in contains_passes (is_line_of p) w (Reply id found.0) found.1

  filter_at : (order front back : List CommandId) (id : CommandId) → p id ≡ true → order ≡ front ++ id ∷ back
      → filter p order ≡ filter p front ++ id ∷ filter p back
  filter_at order front back id own e =
      ap (filter p) e ∙ filter-append p front (id ∷ back)
      ∙ ap (λ d. filter p front ++ cond d (id ∷ filter p back) (filter p back)) own

  commands_kept : (w : Log) (ids : List CommandId) → commands_of (keep p w) (filter p ids) ≡ commands_of w (filter p ids)
  commands_kept w [] = refl
  commands_kept w (x ∷ ids) =
      elim (cases_Bool (p x)) [
        | inl e ↦
            ap (λ d. commands_of (keep p w) (cond d (x ∷ filter p ids) (filter p ids))) e
            ∙ ap (λ o. cons_option o (commands_of (keep p w) (filter p ids))) (command_kept p w x e)
            ∙ ap (λ cs. cons_option (command_of w x) cs) (commands_kept w ids)
            ∙ sym (ap (λ d. commands_of w (cond d (x ∷ filter p ids) (filter p ids))) e)
        | inr e ↦
            ap (λ d. commands_of (keep p w) (cond d (x ∷ filter p ids) (filter p ids))) e
            ∙ commands_kept w ids
            ∙ sym (ap (λ d. commands_of w (cond d (x ∷ filter p ids) (filter p ids))) e)
      ]

module _ (w : Log) where
  module _ (key : List ℕ) where
    abbrev own : CommandId → Bool
    own id = is_of_key w key id

    -- the log of the key
    abbrev part : Log
    part = log_of_key w key

    -- the text that a command of the key finds
    pub same_out : (c : Command) (first front : List CommandId) → key_of c.op ≡ key → filter own first ≡ front
        → out (commands_of w first) c ≡ out (commands_of part front) c
    same_out c first front same is =
        ap (λ k. value_at k (commands_of w first)) same ∙ text_of_key w key first
        ∙ ap (value_at key) (sym (commands_kept own w first))
        ∙ ap (λ ids. value_at key (commands_of part ids)) is
        ∙ sym (ap (λ k. value_at k (commands_of part front)) same)

    pub key_is : (id : CommandId) (c : Command) → own id ≡ true → command_of w id ≡ Some c → key_of c.op ≡ key
    key_is id c h is = (bytes_eq-Decides (key_of c.op) key).0 (sym (ap (is_on_key key) is) ∙ h)

    -- a command of a key's part of an order stands in the order
    own_at : (order front back : List CommandId) (id : CommandId) → filter own order ≡ front ++ id ∷ back → own id ≡ true
    own_at order front back id e = passes own order id (has_item (filter own order) front back id e)

    pub restricted : (order : List CommandId) → IsLinearization w order → IsLinearization part (filter own order)
    restricted order lin = record {
      once = once_filter own order lin.once;
      submitted = λ id has.
          let h = passes own order id has in
          ap is_some (command_kept own w id h) ∙ lin.submitted id (sym (has_filter own order id h) ∙ has);
      complete = λ id has.
          let h = acknowledged_passes own w id has in
          has_filter own order id h ∙ lin.complete id (sym (acknowledged_kept own w id h) ∙ has);
      real_time = λ front back id replied e before.
          let s = split_filter own order front back id e in
          let h = own_at order front back id e in
          let there = lin.submitted id (has_item order s.0 s.1 id s.2) in
          let found = earlier part id replied (ap is_some (command_kept own w id h) ∙ there) before in
          let h_replied = acknowledged_passes own w replied found.0 in
          ap (λ ids. has_id ids replied) (sym s.3) ∙ has_filter own s.0 replied h_replied
          ∙ lin.real_time s.0 s.1 id replied s.2 (sym (before_kept own w id replied h h_replied there) ∙ before);
      answers = λ front back id c x e there replied.
          let s = split_filter own order front back id e in
          let h = own_at order front back id e in
          let is = sym (command_kept own w id h) ∙ there in
          subst (λ held. IsRight c.op held x) (same_out c s.0 front (key_is id c h is) s.3)
          (lin.answers s.0 s.1 id c x s.2 is (contains_of_filter (is_line_of own) w (Reply id x) replied));
    }

  -- each command is a command of some key
  some_key : (id : CommandId) → (key : List ℕ) × (is_of_key w key id ≡ true)
  some_key id = by_command (command_of w id) refl
    where
      by_command : (o : Option Command) → command_of w id ≡ o → (key : List ℕ) × (is_of_key w key id ≡ true)
      by_command None is = ([], ap (is_on_key []) is)
      by_command (Some c) is = (key_of c.op, ap (is_on_key (key_of c.op)) is ∙ same_bytes (key_of c.op))

  -- an order with a linearization of each key
  module _ (order : List CommandId) (parts : (key : List ℕ) → IsLinearization (log_of_key w key) (order_of_key w key order))
    where
      all_submitted : (id : CommandId) → has_id order id ≡ true → is_some (command_of w id) ≡ true
      all_submitted id has =
          let k = some_key id in
          ap is_some (sym (command_kept (is_of_key w k.0) w id k.1))
          ∙ (parts k.0).submitted id (has_filter (is_of_key w k.0) order id k.1 ∙ has)

      all_complete : (id : CommandId) → has_id (acknowledged w) id ≡ true → has_id order id ≡ true
      all_complete id has =
          let k = some_key id in
          sym (has_filter (is_of_key w k.0) order id k.1)
          ∙ (parts k.0).complete id (acknowledged_kept (is_of_key w k.0) w id k.1 ∙ has)

      pub whole : ((front back : List CommandId) (id replied : CommandId) → order ≡ front ++ id ∷ back
          → has_id (acknowledged_before w id) replied ≡ true → has_id front replied ≡ true)
          → IsLinearization w order
      whole in_time = record {
        once = once_from_splits order (λ front back id e.
            let k = some_key id in
            let lin = parts k.0 in
            sym (has_filter (is_of_key w k.0) front id k.1)
            ∙ once_splits (order_of_key w k.0 order) (order_of_key w k.0 front) (order_of_key w k.0 back) id lin.once
            (filter_at (is_of_key w k.0) order front back id k.1 e));
        submitted = all_submitted;
        complete = all_complete;
        real_time = in_time;
        answers = λ front back id c x e there replied.
            let key = key_of c.op in
            let h : is_of_key w key id ≡ true = ap (is_on_key key) there ∙ same_bytes key in
            let lin = parts key in
            subst (λ held. IsRight c.op held x) (sym (same_out key c front (order_of_key w key front) refl refl))
            (lin.answers (order_of_key w key front) (order_of_key w key back) id c x
            (filter_at (is_of_key w key) order front back id h e)
            (command_kept (is_of_key w key) w id h ∙ there)
            (contains_filter (is_line_of (is_of_key w key)) w (Reply id x) h replied));
      }

pub each_key : LinearizesEachKey
each_key w order lin key = restricted w key order lin

-- ---- moments

-- the command at a place of an order
pub timed_at : (cs : List TimedCommand) (n : ℕ) (id : CommandId) → slice_get (ids_of cs) n ≡ Some id
    → (n < length cs) × ((d : TimedCommand) → (get_or cs n d).id ≡ id)
timed_at [] n id e = absurd (cc)
timed_at (c ∷ cs) zero id e = let same : c.id ≡ id = cc in (omega arith, λ d. same)
timed_at (c ∷ cs) (suc n) id e = let r = timed_at cs n id e in (omega (arith, r.0), r.1)

-- the place of a later command
later_place : (front back : List CommandId) (id x : CommandId) → has_id back x ≡ true
    → (m : ℕ) × (length front < m) × (slice_get (front ++ id ∷ back) m ≡ Some x)
later_place [] back id x h = let place = has_place back x h in (suc place.0, omega arith, place.2)
later_place (y ∷ front) back id x h =
    let r = later_place front back id x h in (suc r.0, omega (arith, r.1), r.2)

module _ (w : Log) (commands : List TimedCommand) (rising : AreRising commands) (timed : All (IsTimed w) commands) where
  -- the moment of the command at a place
  abbrev moment : ℕ → ℕ
  moment n = (get_or commands n (record { moment = 0; id = record { client = 0; number = 0 } })).moment

  bounds : (n : ℕ) (id : CommandId) → slice_get (ids_of commands) n ≡ Some id
      → (n < length commands) × (submitted_at w id ≤ moment n)
      × (has_id (acknowledged w) id ≡ true → moment n ≤ acknowledged_at w id)
  bounds n id e =
      let at = timed_at commands n id e in
      let d : TimedCommand = record { moment = 0; id = record { client = 0; number = 0 } } in
      let t = timed n d at.0 in (
        at.0,
        subst (λ (i : CommandId). submitted_at w i ≤ moment n) (at.1 d) t.after,
        subst (λ (i : CommandId). has_id (acknowledged w) i ≡ true → moment n ≤ acknowledged_at w i) (at.1 d) t.before,
      )

  -- a command that was acknowledged before the submission of another one has an earlier moment
  pub in_time : (front back : List CommandId) (id replied : CommandId) → ids_of commands ≡ front ++ id ∷ back
      → has_id (ids_of commands) replied ≡ true → IsEarlier w id replied → has_id front replied ≡ true
  in_time front back id replied e has was =
      elim (has_either front (id ∷ back) replied (ap (λ ids. has_id ids replied) (sym e) ∙ has)) [
        | inl h ↦ h
        | inr h ↦ elim (or_cases (is_same_id id replied) (has_id back replied) h) [
          | inl same ↦ absurd (not_itself (same_id_eq id replied same))
          | inr later ↦ absurd (not_later later)
        ]
      ]
    where
      here : slice_get (ids_of commands) (length front) ≡ Some id
      here = ap (λ ids. slice_get ids (length front)) e ∙ item_here front back id

      not_itself : id ≡ replied → ⊥
      not_itself same =
          let b = bounds (length front) id here in
          let from = b.1 in
          let to = b.2 (ap (has_id (acknowledged w)) same ∙ was.0) in
          let is : acknowledged_at w id ≡ acknowledged_at w replied = ap (acknowledged_at w) same in
          let less = was.1 in
          omega arith

      not_later : has_id back replied ≡ true → ⊥
      not_later later =
          let b = bounds (length front) id here in
          let place = later_place front back id replied later in
          let a = bounds place.0 replied (ap (λ ids. slice_get ids place.0) e ∙ place.2) in
          let order = rising (length front) place.0 (record { moment = 0; id = record { client = 0; number = 0 } }) place.1 a.0 in
          let from = b.1 in
          let to = a.2 was.0 in
          let less = was.1 in
          omega arith

pub by_moments : LinearizesByMoments
by_moments w commands rising timed parts =
    let order : List CommandId = ids_of commands in
    whole w order parts (λ front back id replied e before.
    let known = all_submitted w order parts id (has_item order front back id e) in
    let was = earlier w id replied known before in
    in_time w commands rising timed front back id replied e (all_complete w order parts replied was.0) was)
