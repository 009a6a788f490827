-- The log of a key, and the places of submissions and replies in a log.
use Rattle.std.proofs.Common.{◌≡◌, inl, inr, ◌<◌, ◌||◌, ◌&&◌, not, Bool, true, false, cond, List, [], ◌∷◌, ◌++◌, Some, None, is_some, length, arith, refl, sym, subst, ap, ◌∙◌}
use Rattle.std.specs.Option.{option_or}
use Rattle.std.specs.List.{Contains, filter}
use Rattle.std.proofs.lemmas.Bool.{cases_Bool}
use Rattle.mencius_base.specs.Command.{is_same_id}
use Rattle.mencius_base.specs.declared.command.CommandId.{CommandId}
use Rattle.mencius_log.specs.declared.observation.Answer.{Answer}
use Rattle.mencius_log.specs.declared.observation.Observation.{Observation}
use Rattle.mencius_log.specs.declared.observation.Observation.TheVariants.{Submit, Execute, Reply, Lookup, Tell, Settle, Restore}
use Rattle.mencius_judge.specs.Log.{Log, acknowledged, acknowledged_before, command_of, has_id, is_failed}
use Rattle.mencius_judge.proofs.promises.Identities.{has-append, other_id, same_id_eq}
use Rattle.mencius_judge.proofs.promises.Logs.{contains_cons, contains_here, contains_later, contains_none, kept_before, other_command}
use Rattle.mencius_clients.specs.KeyLogs.{is_line_of}
use Rattle.mencius_clients.specs.Locality.{acknowledged_at, submitted_at}
use Rattle.mencius_clients.proofs.Later.{acknowledged_more}

-- ---- lists

pub contains_filter : {A : Type 0} (test : A → Bool) (xs : List A) (x : A) → test x ≡ true → Contains xs x
    → Contains (filter test xs) x
contains_filter test [] x h there = absurd (contains_none x there)
contains_filter test (y ∷ xs) x h there =
    elim (contains_cons y xs x there) [
      | inl e ↦
          subst (λ d. Contains (cond d (y ∷ filter test xs) (filter test xs)) x) (sym (ap test e ∙ h))
          (contains_here y (filter test xs) x e)
      | inr later ↦
          let before = contains_filter test xs x h later in
          elim (cases_Bool (test y)) [
            | inl d ↦
                subst (λ b. Contains (cond b (y ∷ filter test xs) (filter test xs)) x) (sym d)
                (contains_later y (filter test xs) x before)
            | inr d ↦ subst (λ b. Contains (cond b (y ∷ filter test xs) (filter test xs)) x) (sym d) before
          ]
    ]

pub contains_of_filter : {A : Type 0} (test : A → Bool) (xs : List A) (x : A) → Contains (filter test xs) x → Contains xs x
contains_of_filter test [] x there = there
contains_of_filter test (y ∷ xs) x there =
    elim (cases_Bool (test y)) [
      | inl d ↦
          elim (contains_cons y (filter test xs) x
          (subst (λ b. Contains (cond b (y ∷ filter test xs) (filter test xs)) x) d there)) [
            | inl e ↦ contains_here y xs x e
            | inr later ↦ contains_later y xs x (contains_of_filter test xs x later)
          ]
      | inr d ↦
          contains_later y xs x (contains_of_filter test xs x
          (subst (λ b. Contains (cond b (y ∷ filter test xs) (filter test xs)) x) d there))
    ]

-- ---- one line more

-- a reply acknowledges its command, unless it is `failed`
reply_acknowledged : (v : Log) (x : CommandId) (a : Answer) (id : CommandId)
    → has_id (acknowledged (Reply x a ∷ v)) id ≡ ((not (is_failed a) && is_same_id x id) || has_id (acknowledged v) id)
reply_acknowledged v x a id = by_tests (is_failed a) (has_id (acknowledged v) x) refl
  where
    by_tests : (failed d : Bool) → has_id (acknowledged v) x ≡ d
        → has_id (cond (failed || d) (acknowledged v) (acknowledged v ++ x ∷ [])) id
        ≡ ((not failed && is_same_id x id) || has_id (acknowledged v) id)
    by_tests true d is = refl
    by_tests false true is =
        elim (cases_Bool (is_same_id x id)) [
          | inl e ↦
              ap (has_id (acknowledged v)) (sym (same_id_eq x id e)) ∙ is
              ∙ sym (ap (λ b. b || has_id (acknowledged v) id) e)
          | inr e ↦ sym (ap (λ b. b || has_id (acknowledged v) id) e)
        ]
    by_tests false false is = has-append (acknowledged v) x id

module _ (p : CommandId → Bool) where
  abbrev pub keep : Log → Log
  keep w = filter (is_line_of p) w

  -- the command of an identity that passes the test is the same
  pub command_kept : (w : Log) (id : CommandId) → p id ≡ true → command_of (keep w) id ≡ command_of w id
  command_kept [] id h = refl
  command_kept (Submit c ∷ w) id h =
      let before = command_kept w id h in
      elim (cases_Bool (p c.id)) [
        | inl e ↦
            ap (λ d. command_of (cond d (Submit c ∷ keep w) (keep w)) id) e
            ∙ ap (λ o. option_or o (cond (is_same_id c.id id) (Some c) None)) before
        | inr e ↦
            ap (λ d. command_of (cond d (Submit c ∷ keep w) (keep w)) id) e ∙ before
            ∙ sym (other_command w c id (λ (same : c.id ≡ id). let t : p c.id ≡ true = ap p same ∙ h in cc))
      ]
  command_kept (Execute s x ∷ w) id h = command_kept w id h
  command_kept (Reply x a ∷ w) id h =
      elim (cases_Bool (p x)) [
        | inl e ↦ ap (λ d. command_of (cond d (Reply x a ∷ keep w) (keep w)) id) e ∙ command_kept w id h
        | inr e ↦ ap (λ d. command_of (cond d (Reply x a ∷ keep w) (keep w)) id) e ∙ command_kept w id h
      ]
  command_kept (Lookup r key x ∷ w) id h = command_kept w id h
  command_kept (Tell r s ∷ w) id h = command_kept w id h
  command_kept (Settle s ∷ w) id h = command_kept w id h
  command_kept (Restore s q n ∷ w) id h = command_kept w id h

  -- an identity that does not pass has no command
  pub command_dropped : (w : Log) (id : CommandId) → p id ≡ false → command_of (keep w) id ≡ None
  command_dropped [] id h = refl
  command_dropped (Submit c ∷ w) id h =
      let before = command_dropped w id h in
      elim (cases_Bool (p c.id)) [
        | inl e ↦
            ap (λ d. command_of (cond d (Submit c ∷ keep w) (keep w)) id) e
            ∙ other_command (keep w) c id (λ (same : c.id ≡ id). let t : p c.id ≡ false = ap p same ∙ h in cc) ∙ before
        | inr e ↦ ap (λ d. command_of (cond d (Submit c ∷ keep w) (keep w)) id) e ∙ before
      ]
  command_dropped (Execute s x ∷ w) id h = command_dropped w id h
  command_dropped (Reply x a ∷ w) id h =
      elim (cases_Bool (p x)) [
        | inl e ↦ ap (λ d. command_of (cond d (Reply x a ∷ keep w) (keep w)) id) e ∙ command_dropped w id h
        | inr e ↦ ap (λ d. command_of (cond d (Reply x a ∷ keep w) (keep w)) id) e ∙ command_dropped w id h
      ]
  command_dropped (Lookup r key x ∷ w) id h = command_dropped w id h
  command_dropped (Tell r s ∷ w) id h = command_dropped w id h
  command_dropped (Settle s ∷ w) id h = command_dropped w id h
  command_dropped (Restore s q n ∷ w) id h = command_dropped w id h

  pub acknowledged_kept : (w : Log) (id : CommandId) → p id ≡ true
      → has_id (acknowledged (keep w)) id ≡ has_id (acknowledged w) id
  acknowledged_kept [] id h = refl
  acknowledged_kept (Submit c ∷ w) id h =
      elim (cases_Bool (p c.id)) [
        | inl e ↦
            ap (λ d. has_id (acknowledged (cond d (Submit c ∷ keep w) (keep w))) id) e ∙ acknowledged_kept w id h
        | inr e ↦
            ap (λ d. has_id (acknowledged (cond d (Submit c ∷ keep w) (keep w))) id) e ∙ acknowledged_kept w id h
      ]
  acknowledged_kept (Execute s x ∷ w) id h = acknowledged_kept w id h
  acknowledged_kept (Reply x a ∷ w) id h =
      let before = acknowledged_kept w id h in
      elim (cases_Bool (p x)) [
        | inl e ↦
            ap (λ d. has_id (acknowledged (cond d (Reply x a ∷ keep w) (keep w))) id) e
            ∙ reply_acknowledged (keep w) x a id ∙ ap (λ d. (not (is_failed a) && is_same_id x id) || d) before
            ∙ sym (reply_acknowledged w x a id)
        | inr e ↦
            let other : is_same_id x id ≡ false =
            other_id x id (λ (same : x ≡ id). let t : p x ≡ true = ap p same ∙ h in cc) in
            ap (λ d. has_id (acknowledged (cond d (Reply x a ∷ keep w) (keep w))) id) e ∙ before
            ∙ sym (reply_acknowledged w x a id
            ∙ ap (λ d. (not (is_failed a) && d) || has_id (acknowledged w) id) other
            ∙ nothing (not (is_failed a)) (has_id (acknowledged w) id))
      ]
    where
      nothing : (d b : Bool) → ((d && false) || b) ≡ b
      nothing true b = refl
      nothing false b = refl
  acknowledged_kept (Lookup r key x ∷ w) id h = acknowledged_kept w id h
  acknowledged_kept (Tell r s ∷ w) id h = acknowledged_kept w id h
  acknowledged_kept (Settle s ∷ w) id h = acknowledged_kept w id h
  acknowledged_kept (Restore s q n ∷ w) id h = acknowledged_kept w id h

  -- of the commands that were acknowledged before a submission, those that pass are the same
  pub before_kept : (w : Log) (id x : CommandId) → p id ≡ true → p x ≡ true → is_some (command_of w id) ≡ true
      → has_id (acknowledged_before (keep w) id) x ≡ has_id (acknowledged_before w id) x
  before_kept [] id x h hx there = refl
  before_kept (Submit c ∷ w) id x h hx there =
      elim (cases_Bool (p c.id)) [
        | inl e ↦
            ap (λ d. has_id (acknowledged_before (cond d (Submit c ∷ keep w) (keep w)) id) x) e
            ∙ ap (λ o. has_id (cond (is_some o) (acknowledged_before (keep w) id) (acknowledged (keep w))) x)
            (command_kept w id h)
            ∙ elim (cases_Bool (is_some (command_of w id))) [
              | inl known ↦
                  ap (λ d. has_id (cond d (acknowledged_before (keep w) id) (acknowledged (keep w))) x) known
                  ∙ before_kept w id x h hx known
                  ∙ sym (ap (λ d. has_id (cond d (acknowledged_before w id) (acknowledged w)) x) known)
              | inr new ↦
                  ap (λ d. has_id (cond d (acknowledged_before (keep w) id) (acknowledged (keep w))) x) new
                  ∙ acknowledged_kept w x hx
                  ∙ sym (ap (λ d. has_id (cond d (acknowledged_before w id) (acknowledged w)) x) new)
            ]
        | inr e ↦
            let was : is_some (command_of w id) ≡ true =
            ap is_some (sym (other_command w c id (λ (same : c.id ≡ id). let t : p c.id ≡ true = ap p same ∙ h in cc)))
            ∙ there in
            ap (λ d. has_id (acknowledged_before (cond d (Submit c ∷ keep w) (keep w)) id) x) e
            ∙ before_kept w id x h hx was
            ∙ ap (λ ids. has_id ids x) (sym (kept_before w c id was))
      ]
  before_kept (Execute s y ∷ w) id x h hx there = before_kept w id x h hx there
  before_kept (Reply y a ∷ w) id x h hx there =
      elim (cases_Bool (p y)) [
        | inl e ↦
            ap (λ d. has_id (acknowledged_before (cond d (Reply y a ∷ keep w) (keep w)) id) x) e
            ∙ before_kept w id x h hx there
        | inr e ↦
            ap (λ d. has_id (acknowledged_before (cond d (Reply y a ∷ keep w) (keep w)) id) x) e
            ∙ before_kept w id x h hx there
      ]
  before_kept (Lookup r key y ∷ w) id x h hx there = before_kept w id x h hx there
  before_kept (Tell r s ∷ w) id x h hx there = before_kept w id x h hx there
  before_kept (Settle s ∷ w) id x h hx there = before_kept w id x h hx there
  before_kept (Restore s q n ∷ w) id x h hx there = before_kept w id x h hx there

-- ---- places in a log

pub submitted_early : (w : Log) (id : CommandId) → is_some (command_of w id) ≡ true → submitted_at w id < length w
submitted_early [] id h = absurd (cc)
submitted_early (o ∷ w) id h =
    elim (cases_Bool (is_some (command_of w id))) [
      | inl e ↦
          let is : submitted_at (o ∷ w) id ≡ submitted_at w id = ap (λ d. cond d (submitted_at w id) (length w)) e in
          let less = submitted_early w id e in
          omega arith
      | inr e ↦
          let is : submitted_at (o ∷ w) id ≡ length w = ap (λ d. cond d (submitted_at w id) (length w)) e in
          omega arith
    ]

pub acknowledged_early : (w : Log) (id : CommandId) → has_id (acknowledged w) id ≡ true → acknowledged_at w id < length w
acknowledged_early [] id h = absurd (cc)
acknowledged_early (o ∷ w) id h =
    elim (cases_Bool (has_id (acknowledged w) id)) [
      | inl e ↦
          let is : acknowledged_at (o ∷ w) id ≡ acknowledged_at w id =
          ap (λ d. cond d (acknowledged_at w id) (length w)) e in
          let less = acknowledged_early w id e in
          omega arith
      | inr e ↦
          let is : acknowledged_at (o ∷ w) id ≡ length w =
          ap (λ d. cond d (acknowledged_at w id) (length w)) e in
          omega arith
    ]

-- a line more changes neither place
submitted_still : (w : Log) (o : Observation) (id : CommandId) → is_some (command_of w id) ≡ true
    → submitted_at (o ∷ w) id ≡ submitted_at w id
submitted_still w o id e = ap (λ d. cond d (submitted_at w id) (length w)) e

acknowledged_still : (w : Log) (o : Observation) (id : CommandId) → has_id (acknowledged w) id ≡ true
    → acknowledged_at (o ∷ w) id ≡ acknowledged_at w id
acknowledged_still w o id e = ap (λ d. cond d (acknowledged_at w id) (length w)) e

-- a command that was acknowledged before a submission has its reply earlier
abbrev pub IsEarlier : Log → CommandId → CommandId → Type 0
IsEarlier w id x = (has_id (acknowledged w) x ≡ true) × (acknowledged_at w x < submitted_at w id)

earlier_still : (w : Log) (o : Observation) (id x : CommandId) → is_some (command_of w id) ≡ true → IsEarlier w id x
    → IsEarlier (o ∷ w) id x
earlier_still w o id x known h =
    let s = submitted_still w o id known in
    let a = acknowledged_still w o x h.0 in
    let less = h.1 in
    (acknowledged_more w o x h.0, omega arith)

pub earlier : (w : Log) (id x : CommandId) → is_some (command_of w id) ≡ true
    → has_id (acknowledged_before w id) x ≡ true → IsEarlier w id x
earlier [] id x there h = absurd (cc)
earlier (Submit c ∷ w) id x there h =
    elim (cases_Bool (is_some (command_of w id))) [
      | inl e ↦
          earlier_still w (Submit c) id x e
          (earlier w id x e (ap (λ ids. has_id ids x) (sym (kept_before w c id e)) ∙ h))
      | inr e ↦
          let now : has_id (acknowledged w) x ≡ true =
          sym (ap (λ d. has_id (cond d (acknowledged_before w id) (acknowledged w)) x) e) ∙ h in
          let s : submitted_at (Submit c ∷ w) id ≡ length w = ap (λ d. cond d (submitted_at w id) (length w)) e in
          let a = acknowledged_still w (Submit c) x now in
          let less = acknowledged_early w x now in
          (now, omega arith)
    ]
earlier (Execute s y ∷ w) id x there h = earlier_still w (Execute s y) id x there (earlier w id x there h)
earlier (Reply y a ∷ w) id x there h = earlier_still w (Reply y a) id x there (earlier w id x there h)
earlier (Lookup r key y ∷ w) id x there h = earlier_still w (Lookup r key y) id x there (earlier w id x there h)
earlier (Tell r s ∷ w) id x there h = earlier_still w (Tell r s) id x there (earlier w id x there h)
earlier (Settle s ∷ w) id x there h = earlier_still w (Settle s) id x there (earlier w id x there h)
earlier (Restore s q n ∷ w) id x there h = earlier_still w (Restore s q n) id x there (earlier w id x there h)

-- and the other way round
abbrev pub IsBefore : Log → CommandId → CommandId → Type 0
IsBefore w id x = has_id (acknowledged_before w id) x ≡ true

-- the places of an earlier part of the log
earlier_was : (w : Log) (o : Observation) (id x : CommandId) → is_some (command_of w id) ≡ true → IsEarlier (o ∷ w) id x
    → IsEarlier w id x
earlier_was w o id x known h =
    let s = submitted_still w o id known in
    let early = submitted_early w id known in
    let less = h.1 in
    elim (cases_Bool (has_id (acknowledged w) x)) [
      | inl e ↦ let a = acknowledged_still w o x e in (e, omega arith)
      | inr e ↦
          let a : acknowledged_at (o ∷ w) x ≡ length w = ap (λ d. cond d (acknowledged_at w x) (length w)) e in
          absurd (omega arith)
    ]

pub before_if_earlier : (w : Log) (id x : CommandId) → is_some (command_of w id) ≡ true → IsEarlier w id x → IsBefore w id x
before_if_earlier [] id x there h = absurd (cc)
before_if_earlier (Submit c ∷ w) id x there h =
    elim (cases_Bool (is_some (command_of w id))) [
      | inl e ↦
          ap (λ ids. has_id ids x) (kept_before w c id e)
          ∙ before_if_earlier w id x e (earlier_was w (Submit c) id x e h)
      | inr e ↦ ap (λ d. has_id (cond d (acknowledged_before w id) (acknowledged w)) x) e ∙ h.0
    ]
before_if_earlier (Execute s y ∷ w) id x there h =
    before_if_earlier w id x there (earlier_was w (Execute s y) id x there h)
before_if_earlier (Reply y a ∷ w) id x there h =
    before_if_earlier w id x there (earlier_was w (Reply y a) id x there h)
before_if_earlier (Lookup r key y ∷ w) id x there h =
    before_if_earlier w id x there (earlier_was w (Lookup r key y) id x there h)
before_if_earlier (Tell r s ∷ w) id x there h = before_if_earlier w id x there (earlier_was w (Tell r s) id x there h)
before_if_earlier (Settle s ∷ w) id x there h = before_if_earlier w id x there (earlier_was w (Settle s) id x there h)
before_if_earlier (Restore s q n ∷ w) id x there h =
    before_if_earlier w id x there (earlier_was w (Restore s q n) id x there h)
