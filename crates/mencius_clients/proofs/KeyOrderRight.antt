-- The order of a key that a search found is a linearization of the log of the key, with moments.
use Rattle.std.proofs.Common.{◌≡◌, inl, inr, ℕ, ◌≤◌, max, Bool, true, cond, List, [], ◌∷◌, ◌++◌, Option, Some, None, is_some, length, reverse, slice_get, arith, refl, sym, subst, ap, ◌∙◌, append_assoc}
use Rattle.std.specs.List.{Contains, filter}
use Rattle.std.proofs.lemmas.Bool.{cases_Bool, or_cases, or_left, or_right}
use Rattle.std.proofs.lemmas.List.{length-reverse, reverse-append}
use Rattle.std.proofs.lemmas.Slice.Eq.{bytes_eq-Decides}
use Rattle.mencius_base.specs.Command.{is_same_id}
use Rattle.mencius_base.specs.declared.command.Command.{Command}
use Rattle.mencius_base.specs.declared.command.CommandId.{CommandId}
use Rattle.mencius_model.specs.KeyMap.{key_of, value_at}
use Rattle.mencius_log.specs.declared.observation.Observation.{Observation}
use Rattle.mencius_log.specs.declared.observation.Observation.TheVariants.{Submit, Execute, Reply, Lookup, Tell, Settle, Restore}
use Rattle.mencius_judge.specs.Answers.{IsRight}
use Rattle.mencius_judge.specs.Linearization.{IsLinearization}
use Rattle.mencius_judge.specs.Log.{Log, acknowledged, command_of, commands_of, has_id}
use Rattle.mencius_judge.proofs.promises.Identities.{same_id, same_id_eq}
use Rattle.mencius_judge.proofs.promises.Logs.{command_known, contains_here, contains_later, known}
use Rattle.mencius_clients.specs.declared.timed_command.TimedCommand.{TimedCommand}
use Rattle.mencius_clients.specs.Configurations.{submitted_by}
use Rattle.mencius_clients.specs.KeyOrders.{IsKeyOrder, timed_lines, timed_one}
use Rattle.mencius_clients.specs.KeyLogs.{is_line_of, is_of_key, is_on_key, log_of_key}
use Rattle.mencius_clients.specs.Locality.{IsTimed, acknowledged_at, ids_of, submitted_at}
use Rattle.mencius_clients.proofs.Lacking.{has_item}
use Rattle.mencius_clients.proofs.LocalityLogs.{acknowledged_kept, before_kept, command_kept, contains_of_filter, earlier, submitted_early}
use Rattle.mencius_clients.proofs.LocalityOrders.{split_place}
use Rattle.mencius_clients.proofs.LocalitySorting.{Each, IsSorted, each_all, sorted_rising}
use Rattle.mencius_clients.proofs.LocalityWhole.{acknowledged_passes, in_time, key_is, same_out}

-- ---- the line of a submission

pub contains_middle : (later u : Log) (o : Observation) → Contains (later ++ o ∷ u) o
contains_middle [] u o = contains_here o u o refl
contains_middle (x ∷ later) u o = contains_later x (later ++ o ∷ u) o (contains_middle later u o)

submitted_in : (later u : Log) (c : Command) → submitted_at (later ++ Submit c ∷ u) c.id ≤ length u
submitted_in [] u c =
    elim (cases_Bool (is_some (command_of u c.id))) [
      | inl e ↦
          let less = submitted_early u c.id e in
          let is : submitted_at (Submit c ∷ u) c.id ≡ submitted_at u c.id =
          ap (λ d. cond d (submitted_at u c.id) (length u)) e in
          omega arith
      | inr e ↦
          let is : submitted_at (Submit c ∷ u) c.id ≡ length u = ap (λ d. cond d (submitted_at u c.id) (length u)) e in
          omega arith
    ]
submitted_in (o ∷ later) u c =
    let v : Log = later ++ Submit c ∷ u in
    let there : is_some (command_of v c.id) ≡ true = command_known v c (contains_middle later u (Submit c)) in
    let is : submitted_at (o ∷ v) c.id ≡ submitted_at v c.id = ap (λ d. cond d (submitted_at v c.id) (length v)) there in
    let before = submitted_in later u c in
    omega arith

pub is_submission : (o : Option Observation) (c : Command) → submitted_by o ≡ Some c → o ≡ Some (Submit c)
is_submission None c e = absurd (cc)
is_submission (Some (Submit d)) c e = let same : d ≡ c = cc in ap (λ x. Some (Submit x)) same
is_submission (Some (Execute s x)) c e = absurd (cc)
is_submission (Some (Reply x a)) c e = absurd (cc)
is_submission (Some (Lookup r k x)) c e = absurd (cc)
is_submission (Some (Tell r s)) c e = absurd (cc)
is_submission (Some (Settle s)) c e = absurd (cc)
is_submission (Some (Restore s q n)) c e = absurd (cc)

-- a command is first submitted no later than at a line that submits it
pub submitted_here : (log : List Observation) (line : ℕ) (c : Command) → submitted_by (slice_get log line) ≡ Some c
    → submitted_at (reverse log) c.id ≤ line
submitted_here log line c e =
    let s = split_place log line (Submit c) (is_submission (slice_get log line) c e) in
    let whole : reverse log ≡ reverse s.1 ++ Submit c ∷ reverse s.0 =
    ap reverse s.2 ∙ reverse-append s.0 (Submit c ∷ s.1)
    ∙ ap (λ xs. xs ++ reverse s.0) (reverse-append (Submit c ∷ []) s.1)
    ∙ append_assoc (reverse s.1) (Submit c ∷ []) (reverse s.0) in
    let bound = submitted_in (reverse s.1) (reverse s.0) c in
    let size = length-reverse s.0 in
    let at = s.3 in
    let is : submitted_at (reverse log) c.id ≡ submitted_at (reverse s.1 ++ Submit c ∷ reverse s.0) c.id =
    ap (λ (l : Log). submitted_at l c.id) whole in
    omega arith

-- ---- the commands of lines

each_one : (P : TimedCommand → Type 0) (o : Option Command) (moment : ℕ) (rest : List TimedCommand)
    → ((c : Command) → o ≡ Some c → P (record { moment = moment; id = c.id })) → Each P rest
    → Each P (timed_one o moment rest)
each_one P None moment rest f h = h
each_one P (Some c) moment rest f h = (f c refl, h)

sorted_one : (o : Option Command) (moment : ℕ) (rest : List TimedCommand) → Each (λ c. moment ≤ c.moment) rest
    → IsSorted rest → IsSorted (timed_one o moment rest)
sorted_one None moment rest late h = h
sorted_one (Some c) moment rest late h = (late, h)

each_id : (P : CommandId → Type 0) (cs : List TimedCommand) (id : CommandId) → Each (λ c. P c.id) cs
    → has_id (ids_of cs) id ≡ true → P id
each_id P [] id h has = absurd (cc)
each_id P (c ∷ cs) id h has =
    elim (or_cases (is_same_id c.id id) (has_id (ids_of cs) id) has) [
      | inl same ↦ subst P (same_id_eq c.id id same) h.0
      | inr later ↦ each_id P cs id h.1 later
    ]

pub has_front : (order front back : List CommandId) (id x : CommandId) → order ≡ front ++ id ∷ back → has_id front x ≡ true
    → has_id order x ≡ true
has_front order front back id x e has = ap (λ ids. has_id ids x) e ∙ longer front
    has
  where
    longer : (xs : List CommandId) → has_id xs x ≡ true → has_id (xs ++ id ∷ back) x ≡ true
    longer [] h = absurd (cc)
    longer (y ∷ xs) h =
        elim (or_cases (is_same_id y x) (has_id xs x) h) [
          | inl same ↦ or_left (is_same_id y x) (has_id (xs ++ id ∷ back) x) same
          | inr later ↦ or_right (is_same_id y x) (has_id (xs ++ id ∷ back) x) (longer xs later)
        ]

filter_all_ids : (p : CommandId → Bool) (xs : List CommandId) → ((x : CommandId) → has_id xs x ≡ true → p x ≡ true)
    → filter p xs ≡ xs
filter_all_ids p [] h = refl
filter_all_ids p (x ∷ xs) h =
    ap (λ d. cond d (x ∷ filter p xs) (filter p xs)) (h x (or_left (is_same_id x x) (has_id xs x) (same_id x)))
    ∙ ap (λ ys. x ∷ ys) (filter_all_ids p xs (λ y has. h y (or_right (is_same_id x y) (has_id xs y) has)))

module _ (log : List Observation) where
  abbrev w : Log
  w = reverse log

  lines_late : (n m : ℕ) (lines : List ℕ) → n ≤ m → Each (λ c. n ≤ c.moment) (timed_lines log m lines)
  lines_late n m [] less = tt
  lines_late n m (line ∷ lines) less =
      let more : n ≤ max m line = omega (arith, less) in
      each_one (λ c. n ≤ c.moment) (submitted_by (slice_get log line)) (max m line) (timed_lines log (max m line) lines)
      (λ c e. more) (lines_late n (max m line) lines more)

  pub lines_sorted : (m : ℕ) (lines : List ℕ) → IsSorted (timed_lines log m lines)
  lines_sorted m [] = tt
  lines_sorted m (line ∷ lines) =
      sorted_one (submitted_by (slice_get log line)) (max m line) (timed_lines log (max m line) lines)
      (lines_late (max m line) (max m line) lines (omega arith)) (lines_sorted (max m line) lines)

  lines_each : (P : CommandId → Type 0) (m : ℕ) (lines : List ℕ)
      → ((line : ℕ) (c : Command) → Contains lines line → submitted_by (slice_get log line) ≡ Some c → P c.id)
      → Each (λ c. P c.id) (timed_lines log m lines)
  lines_each P m [] h = tt
  lines_each P m (line ∷ lines) h =
      each_one (λ c. P c.id) (submitted_by (slice_get log line)) (max m line) (timed_lines log (max m line) lines)
      (λ c e. h line c (contains_here line lines line refl) e)
      (lines_each P (max m line) lines (λ other c there e. h other c (contains_later line lines other there) e))

  -- no acknowledged command of the lines has its reply before this place
  abbrev AreLater : ℕ → List ℕ → Type 0
  AreLater m lines =
      (line : ℕ) (c : Command) → Contains lines line → submitted_by (slice_get log line) ≡ Some c
      → has_id (acknowledged w) c.id ≡ true → m ≤ acknowledged_at w c.id

  -- nor before a line that stands before its own
  abbrev AreInTime : List ℕ → Type 0
  AreInTime lines =
      (front back : List ℕ) (line later : ℕ) (c : Command) → lines ≡ front ++ line ∷ back → Contains (line ∷ back) later
      → submitted_by (slice_get log later) ≡ Some c → has_id (acknowledged w) c.id ≡ true
      → line ≤ acknowledged_at w c.id

  lines_timed : (m : ℕ) (lines : List ℕ) → AreLater m lines → AreInTime lines → Each (IsTimed w) (timed_lines log m lines)
  lines_timed m [] later times = tt
  lines_timed m (line ∷ lines) later times =
      each_one (IsTimed w) (submitted_by (slice_get log line)) (max m line) (timed_lines log (max m line) lines)
      (λ c e. record {
        after = let bound = submitted_here log line c e in omega arith;
        before = λ acked.
            let there = contains_here line lines line refl in
            let a = later line c there e acked in
            let b = times [] lines line line c refl there e acked in
            omega arith;
      })
      (lines_timed (max m line) lines
      (λ other c there e acked.
      let further = contains_later line lines other there in
      let a = later other c further e acked in
      let b = times [] lines line other c refl further e acked in
      omega arith)
      (λ front back other further c is there e acked.
      times (line ∷ front) back other further c (ap (λ ls. line ∷ ls) is) there e acked))

  -- ---- the order of a key

  module _ (submitted : (id : CommandId) → has_id (acknowledged w) id ≡ true → is_some (command_of w id) ≡ true)
      (key : List ℕ) (lines : List ℕ) (k : IsKeyOrder log key lines) where
    abbrev commands : List TimedCommand
    commands = timed_lines log 0 lines

    abbrev own : CommandId → Bool
    own id = is_of_key w key id

    -- the command of the identity is a command of the key
    abbrev pub IsOwn : CommandId → Type 0
    IsOwn id = (c : Command) × (command_of w id ≡ Some c) × (key_of c.op ≡ key)

    pub all_own : Each (λ c. IsOwn c.id) commands
    all_own =
        lines_each IsOwn 0 lines (λ line c there e.
        let l = k.each line there in
        let same : l.command ≡ c = let s = l.submits in cc in
        subst (λ (d : Command). IsOwn d.id) same (l.command, l.first, l.of_key))

    pub all_timed : Each (IsTimed w) commands
    all_timed = lines_timed 0 lines (λ line c there e acked. omega arith) k.in_time

    own_id : (id : CommandId) → has_id (ids_of commands) id ≡ true → own id ≡ true
    own_id id has =
        let c = each_id IsOwn commands id all_own has in
        ap (is_on_key key) c.1 ∙ (bytes_eq-Decides (key_of c.0.op) key).1 c.2

    known_id : (id : CommandId) → has_id (ids_of commands) id ≡ true → is_some (command_of w id) ≡ true
    known_id id has = ap is_some (each_id IsOwn commands id all_own has).1

    acked_there : (id : CommandId) → own id ≡ true → has_id (acknowledged w) id ≡ true → has_id (ids_of commands) id ≡ true
    acked_there id h acked =
        let c = known (command_of w id) (submitted id acked) in
        k.complete id c.0 acked c.1 (key_is w key id c.0 h c.1)

    pub key_linearizes : IsLinearization (log_of_key w key) (ids_of commands)
    key_linearizes = record {
      once = k.once;
      submitted = λ id has. ap is_some (command_kept own w id (own_id id has)) ∙ known_id id has;
      complete = λ id has.
          let h = acknowledged_passes own w id has in
          acked_there id h (sym (acknowledged_kept own w id h) ∙ has);
      real_time = λ front back id replied e before.
          let has = has_item (ids_of commands) front back id e in
          let h = own_id id has in
          let there = known_id id has in
          let found = earlier (log_of_key w key) id replied (ap is_some (command_kept own w id h) ∙ there) before in
          let h_replied = acknowledged_passes own w replied found.0 in
          let was = earlier w id replied there (sym (before_kept own w id replied h h_replied there) ∙ before) in
          in_time w commands (sorted_rising commands (lines_sorted 0 lines)) (each_all (IsTimed w) commands all_timed)
          front back id replied e (acked_there replied h_replied was.0) was;
      answers = λ front back id c x e there replied.
          let has = has_item (ids_of commands) front back id e in
          let h = own_id id has in
          let is = sym (command_kept own w id h) ∙ there in
          let same = key_is w key id c h is in
          let right = k.answers front back id c x e is (contains_of_filter (is_line_of own) w (Reply id x) replied) in
          subst (λ held. IsRight c.op held x)
          (same_out w key c front front same
          (filter_all_ids own front (λ y has_y. own_id y (has_front (ids_of commands) front back id y e has_y))))
          (subst (λ key_there. IsRight c.op (value_at key_there (commands_of w front)) x) (sym same) right);
    }
