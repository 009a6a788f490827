-- The command and the first reply of an identity are in the log, and a further submission keeps a command.
use Rattle.std.proofs.Common.{◌≡◌, ◌≢◌, ◌⊎◌, inl, inr, ℕ, zero, suc, ◌<◌, Bool, true, false, cond, List, [], ◌∷◌, ◌++◌, Option, Some, None, get_or, is_some, length, slice_get, arith, refl, sym, subst, ap, ◌∙◌}
use Rattle.std.specs.Option.{option_or}
use Rattle.std.specs.List.{Contains}
use Rattle.mencius_base.specs.Command.{is_same_id}
use Rattle.mencius_base.specs.declared.command.Command.{Command}
use Rattle.mencius_base.specs.declared.command.CommandId.{CommandId}
use Rattle.mencius_log.specs.declared.observation.Answer.{Answer}
use Rattle.mencius_log.specs.declared.observation.Observation.TheVariants.{Submit, Execute, Reply, Lookup, Tell, Settle, Restore}
use Rattle.mencius_judge.specs.Log.{Log, acknowledged, acknowledged_before, command_of, commands_of, reply_of}
use Rattle.mencius_judge.proofs.promises.Identities.{other_id, same_id, same_id_eq}

-- ---- lists

pub contains_cons : {A : Type 0} (y : A) (xs : List A) (x : A) → Contains (y ∷ xs) x → (y ≡ x) ⊎ Contains xs x
contains_cons y xs x h = by_place h.0 h.1 h.2
  where
    by_place : (k : ℕ) → k < length (y ∷ xs) → get_or (y ∷ xs) k x ≡ x → (y ≡ x) ⊎ Contains xs x
    by_place zero less is = inl is
    by_place (suc k) less is = inr (k, omega arith, is)

pub contains_here : {A : Type 0} (y : A) (xs : List A) (x : A) → y ≡ x → Contains (y ∷ xs) x
contains_here y xs x e = (0, omega arith, e)

pub contains_later : {A : Type 0} (y : A) (xs : List A) (x : A) → Contains xs x → Contains (y ∷ xs) x
contains_later y xs x h = (suc h.0, omega (arith, h.1), h.2)

pub contains_none : {A : Type 0} (x : A) → Contains [] x → ⊥
contains_none x h = omega (arith, h.1)

-- ---- commands

pub command_found : (w : Log) (id : CommandId) (c : Command) → command_of w id ≡ Some c
    → Contains w (Submit c) × (c.id ≡ id)
command_found [] id c e = absurd (cc)
command_found (Submit command ∷ w) id c e =
    by_cases (λ h. command_found w id c h) (command_of w id) refl (is_same_id command.id id) refl e
  where
    by_cases : (command_of w id ≡ Some c → Contains w (Submit c) × (c.id ≡ id))
        → (o : Option Command) → command_of w id ≡ o → (d : Bool) → is_same_id command.id id ≡ d
        → option_or o (cond d (Some command) None) ≡ Some c → Contains (Submit command ∷ w) (Submit c) × (c.id ≡ id)
    by_cases before (Some x) was d is h =
        let r = before (was ∙ h) in (contains_later (Submit command) w (Submit c) r.0, r.1)
    by_cases before None was true is h =
        let same : command ≡ c = cc in (
          contains_here (Submit command) w (Submit c) (ap Submit same),
          sym (ap (λ (x : Command). x.id) same) ∙ same_id_eq command.id id is,
        )
    by_cases before None was false is h = absurd (cc)
command_found (Execute server x ∷ w) id c e =
    let r = command_found w id c e in (contains_later (Execute server x) w (Submit c) r.0, r.1)
command_found (Reply x answer ∷ w) id c e =
    let r = command_found w id c e in (contains_later (Reply x answer) w (Submit c) r.0, r.1)
command_found (Lookup reader key text ∷ w) id c e =
    let r = command_found w id c e in (contains_later (Lookup reader key text) w (Submit c) r.0, r.1)
command_found (Tell reader server ∷ w) id c e =
    let r = command_found w id c e in (contains_later (Tell reader server) w (Submit c) r.0, r.1)
command_found (Settle server ∷ w) id c e =
    let r = command_found w id c e in (contains_later (Settle server) w (Submit c) r.0, r.1)
command_found (Restore server source count ∷ w) id c e =
    let r = command_found w id c e in (contains_later (Restore server source count) w (Submit c) r.0, r.1)

pub known : (o : Option Command) → is_some o ≡ true → (c : Command) × (o ≡ Some c)
known None e = absurd (cc)
known (Some c) e = (c, refl)

-- if an identity has a command, a further submission does not change that command
pub kept_command : (w : Log) (c : Command) (id : CommandId) → is_some (command_of w id) ≡ true
    → command_of (Submit c ∷ w) id ≡ command_of w id
kept_command w c id e = by_option (command_of w id) e
  where
    by_option : (o : Option Command) → is_some o ≡ true
        → option_or o (cond (is_same_id c.id id) (Some c) None) ≡ o
    by_option None h = absurd (cc)
    by_option (Some x) h = refl

pub other_command : (w : Log) (c : Command) (id : CommandId) → c.id ≢ id → command_of (Submit c ∷ w) id ≡ command_of w id
other_command w c id ne = by_option (command_of w id) (is_same_id c.id id) (other_id c.id id ne)
  where
    by_option : (o : Option Command) (d : Bool) → d ≡ false → option_or o (cond d (Some c) None) ≡ o
    by_option None false h = refl
    by_option None true h = absurd (cc)
    by_option (Some x) d h = refl

pub new_command : (w : Log) (c : Command) → command_of w c.id ≡ None → command_of (Submit c ∷ w) c.id ≡ Some c
new_command w c none =
    ap (λ o. option_or o (cond (is_same_id c.id c.id) (Some c) None)) none
    ∙ ap (λ d. cond d (Some c) None) (same_id c.id)

pub command_known : (w : Log) (c : Command) → Contains w (Submit c) → is_some (command_of w c.id) ≡ true
command_known [] c h = absurd (contains_none (Submit c) h)
command_known (Submit x ∷ w) c h =
    elim (contains_cons (Submit x) w (Submit c) h) [
      | inl e ↦
          let same : x ≡ c = cc in
          subst (λ (y : Command). is_some (command_of (Submit y ∷ w) c.id) ≡ true) (sym same) (last (command_of w c.id))
      | inr later ↦
          let was : is_some (command_of w c.id) ≡ true = command_known w c later in
          ap is_some (kept_command w x c.id was) ∙ was
    ]
  where
    last : (o : Option Command) → is_some (option_or o (cond (is_same_id c.id c.id) (Some c) None)) ≡ true
    last None = ap (λ d. is_some (cond d (Some c) None)) (same_id c.id)
    last (Some y) = refl
command_known (Execute server x ∷ w) c h =
    elim (contains_cons (Execute server x) w (Submit c) h) [ inl e ↦ absurd (cc) | inr later ↦ command_known w c later ]
command_known (Reply x answer ∷ w) c h =
    elim (contains_cons (Reply x answer) w (Submit c) h) [ inl e ↦ absurd (cc) | inr later ↦ command_known w c later ]
command_known (Lookup reader key text ∷ w) c h =
    elim (contains_cons (Lookup reader key text) w (Submit c) h) [
      | inl e ↦ absurd (cc)
      | inr later ↦ command_known w c later
    ]
command_known (Tell reader server ∷ w) c h =
    elim (contains_cons (Tell reader server) w (Submit c) h) [ inl e ↦ absurd (cc) | inr later ↦ command_known w c later ]
command_known (Settle server ∷ w) c h =
    elim (contains_cons (Settle server) w (Submit c) h) [ inl e ↦ absurd (cc) | inr later ↦ command_known w c later ]
command_known (Restore server source count ∷ w) c h =
    elim (contains_cons (Restore server source count) w (Submit c) h) [
      | inl e ↦ absurd (cc)
      | inr later ↦ command_known w c later
    ]

pub kept_before : (w : Log) (c : Command) (id : CommandId) → is_some (command_of w id) ≡ true
    → acknowledged_before (Submit c ∷ w) id ≡ acknowledged_before w id
kept_before w c id e = ap (λ d. cond d (acknowledged_before w id) (acknowledged w)) e

pub new_before : (w : Log) (c : Command) (id : CommandId) → command_of w id ≡ None
    → acknowledged_before (Submit c ∷ w) id ≡ acknowledged w
new_before w c id e = ap (λ o. cond (is_some o) (acknowledged_before w id) (acknowledged w)) e

-- ---- the commands of identities

-- each identity of the list has a submitted command
abbrev pub AreKnown : Log → List CommandId → Type 0
AreKnown w ids = (n : ℕ) (id : CommandId) → slice_get ids n ≡ Some id → is_some (command_of w id) ≡ true

abbrev more : Option Command → List Command → List Command
more None cs = cs
more (Some c) cs = c ∷ cs

commands-cons : (w : Log) (id : CommandId) (ids : List CommandId)
    → commands_of w (id ∷ ids) ≡ more (command_of w id) (commands_of w ids)
commands-cons w id ids = by_option (command_of w id) refl
  where
    by_option : (o : Option Command) → command_of w id ≡ o → commands_of w (id ∷ ids) ≡ more o (commands_of w ids)
    by_option None e = grind arith
    by_option (Some c) e = grind arith

pub commands-cons_known : (w : Log) (id : CommandId) (c : Command) (ids : List CommandId) → command_of w id ≡ Some c
    → commands_of w (id ∷ ids) ≡ c ∷ commands_of w ids
commands-cons_known w id c ids e = commands-cons w id ids ∙ ap (λ o. more o (commands_of w ids)) e

pub kept_commands : (w : Log) (c : Command) (ids : List CommandId) → AreKnown w ids
    → commands_of (Submit c ∷ w) ids ≡ commands_of w ids
kept_commands w c [] h = refl
kept_commands w c (id ∷ ids) h =
    commands-cons (Submit c ∷ w) id ids
    ∙ ap (λ o. more o (commands_of (Submit c ∷ w) ids)) (kept_command w c id (h 0 id refl))
    ∙ ap (λ cs. more (command_of w id) cs) (kept_commands w c ids (λ n x e. h (suc n) x e))
    ∙ sym (commands-cons w id ids)

pub commands-append : (w : Log) (ids : List CommandId) (id : CommandId) (c : Command) → command_of w id ≡ Some c
    → commands_of w (ids ++ id ∷ []) ≡ commands_of w ids ++ c ∷ []
commands-append w [] id c e = commands-cons w id [] ∙ ap (λ o. more o []) e
commands-append w (x ∷ ids) id c e =
    commands-cons w x (ids ++ id ∷ []) ∙ ap (λ cs. more (command_of w x) cs) (commands-append w ids id c e)
    ∙ push (command_of w x) (commands_of w ids)
    ∙ ap (λ cs. cs ++ c ∷ []) (sym (commands-cons w x ids))
  where
    push : (o : Option Command) (cs : List Command) → more o (cs ++ c ∷ []) ≡ more o cs ++ c ∷ []
    push None cs = refl
    push (Some y) cs = refl

-- ---- replies

pub reply_found : (w : Log) (id : CommandId) (x : Answer) → reply_of w id ≡ Some x → Contains w (Reply id x)
reply_found [] id x e = absurd (cc)
reply_found (Submit command ∷ w) id x e = contains_later (Submit command) w (Reply id x) (reply_found w id x e)
reply_found (Execute server y ∷ w) id x e = contains_later (Execute server y) w (Reply id x) (reply_found w id x e)
reply_found (Reply y answer ∷ w) id x e =
    by_cases (λ h. reply_found w id x h) (reply_of w id) refl (is_same_id y id) refl e
  where
    by_cases : (reply_of w id ≡ Some x → Contains w (Reply id x)) → (o : Option Answer) → reply_of w id ≡ o → (d : Bool) → is_same_id y id ≡ d
        → option_or o (cond d (Some answer) None) ≡ Some x → Contains (Reply y answer ∷ w) (Reply id x)
    by_cases before (Some z) was d is h = contains_later (Reply y answer) w (Reply id x) (before (was ∙ h))
    by_cases before None was true is h =
        let ids : y ≡ id = same_id_eq y id is in
        let answers : answer ≡ x = cc in
        contains_here (Reply y answer) w (Reply id x) (cc (ids, answers))
    by_cases before None was false is h = absurd (cc)
reply_found (Lookup reader key text ∷ w) id x e =
    contains_later (Lookup reader key text) w (Reply id x) (reply_found w id x e)
reply_found (Tell reader server ∷ w) id x e =
    contains_later (Tell reader server) w (Reply id x) (reply_found w id x e)
reply_found (Settle server ∷ w) id x e = contains_later (Settle server) w (Reply id x) (reply_found w id x e)
reply_found (Restore server source count ∷ w) id x e =
    contains_later (Restore server source count) w (Reply id x) (reply_found w id x e)

-- if the log contains a reply to a command, the command has a first reply
pub reply_missing : (w : Log) (id : CommandId) (x : Answer) → Contains w (Reply id x)
    → is_some (reply_of w id) ≡ true
reply_missing [] id x h = absurd (contains_none (Reply id x) h)
reply_missing (Submit command ∷ w) id x h =
    elim (contains_cons (Submit command) w (Reply id x) h) [ inl e ↦ absurd (cc) | inr later ↦ reply_missing w id x later ]
reply_missing (Execute server y ∷ w) id x h =
    elim (contains_cons (Execute server y) w (Reply id x) h) [ inl e ↦ absurd (cc) | inr later ↦ reply_missing w id x later ]
reply_missing (Reply y answer ∷ w) id x h =
    elim (contains_cons (Reply y answer) w (Reply id x) h) [
      | inl e ↦
          let ids : y ≡ id = cc in
          last (reply_of w id) (is_same_id y id) (subst (λ (z : CommandId). is_same_id y z ≡ true) ids (same_id y))
      | inr later ↦ first (reply_of w id) (reply_missing w id x later)
    ]
  where
    last : (o : Option Answer) (d : Bool) → d ≡ true → is_some (option_or o (cond d (Some answer) None))
        ≡ true
    last None true e = refl
    last None false e = absurd (cc)
    last (Some z) d e = refl

    first : (o : Option Answer) → is_some o ≡ true
        → is_some (option_or o (cond (is_same_id y id) (Some answer) None)) ≡ true
    first None e = absurd (cc)
    first (Some z) e = refl
reply_missing (Lookup reader key text ∷ w) id x h =
    elim (contains_cons (Lookup reader key text) w (Reply id x) h) [
      | inl e ↦ absurd (cc)
      | inr later ↦ reply_missing w id x later
    ]
reply_missing (Tell reader server ∷ w) id x h =
    elim (contains_cons (Tell reader server) w (Reply id x) h) [
      | inl e ↦ absurd (cc)
      | inr later ↦ reply_missing w id x later
    ]
reply_missing (Settle server ∷ w) id x h =
    elim (contains_cons (Settle server) w (Reply id x) h) [ inl e ↦ absurd (cc) | inr later ↦ reply_missing w id x later ]
reply_missing (Restore server source count ∷ w) id x h =
    elim (contains_cons (Restore server source count) w (Reply id x) h) [
      | inl e ↦ absurd (cc)
      | inr later ↦ reply_missing w id x later
    ]
