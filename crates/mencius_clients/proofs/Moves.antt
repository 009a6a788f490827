-- How a line of the log changes which commands wait, and how far an order is reached.
use Rattle.std.proofs.Common.{◌≡◌, ◌≢◌, ◌⊎◌, inl, inr, ℕ, true, false, List, [], ◌∷◌, ◌++◌, Option, Some, None, is_some, sym, subst, ap, ◌∙◌, ⊎_elim}
use Rattle.std.proofs.lemmas.Bool.{cases_Bool, cases_eq}
use Rattle.mencius_base.specs.declared.command.Command.{Command}
use Rattle.mencius_base.specs.declared.command.CommandId.{CommandId}
use Rattle.mencius_model.specs.KeyMap.{key_of, value_at}
use Rattle.mencius_log.specs.declared.observation.Answer.{Answer}
use Rattle.mencius_log.specs.declared.observation.Observation.{Observation}
use Rattle.mencius_log.specs.declared.observation.Observation.TheVariants.{Submit, Reply}
use Rattle.mencius_judge.specs.Log.{Log, acknowledged, command_of, commands_of, has_id, is_failed}
use Rattle.mencius_judge.proofs.promises.Identities.{id_cases}
use Rattle.mencius_judge.proofs.promises.Kept.{same_command}
use Rattle.mencius_judge.proofs.promises.Logs.{command_found, new_command, other_command}
use Rattle.mencius_clients.specs.declared.configuration.Configuration.{Configuration}
use Rattle.mencius_clients.specs.Configurations.{IsAcknowledged, IsFreed, IsIdle, has_slot}
use Rattle.mencius_clients.specs.Reached.{AreWaiting, IsCurrent, IsReached}
use Rattle.mencius_clients.proofs.Renamings.{apart_named, names_still, still_renamed}
use Rattle.mencius_clients.proofs.Lacking.{lacks_both}
use Rattle.mencius_clients.proofs.Later.{acknowledged_either, acknowledged_more, acknowledged_now, command_later}

pub command_more : (u : Log) (o : Observation) (id : CommandId) (c : Command) → command_of u id ≡ Some c
    → command_of (o ∷ u) id ≡ Some c
command_more u o id c e = command_later (o ∷ []) u id c e

pub some_more : (u : Log) (o : Observation) (id : CommandId) → is_some (command_of u id) ≡ true
    → is_some (command_of (o ∷ u) id) ≡ true
some_more u o id e = ap is_some (same_command u o id e) ∙ e

pub open_before : (u : Log) (o : Observation) (id : CommandId) → has_id (acknowledged (o ∷ u)) id ≡ false
    → has_id (acknowledged u) id ≡ false
open_before u o id e = ⊎_elim
    (λ (there : has_id (acknowledged u) id ≡ true). let more = acknowledged_more u o id there in absurd (cc))
    (λ (none : has_id (acknowledged u) id ≡ false). none)
    (cases_Bool (has_id (acknowledged u) id))

-- ---- a line that says nothing new of the key

pub record IsQuiet (w u : Log) (o : Observation) (key : List ℕ) : Type 0 where
  pub commands : (id : CommandId) (c : Command) → command_of (o ∷ u) id ≡ Some c → key_of c.op ≡ key
      → command_of u id ≡ Some c
  pub replies : (id : CommandId) (c : Command) → has_id (acknowledged (o ∷ u)) id ≡ true → command_of w id ≡ Some c
      → key_of c.op ≡ key → has_id (acknowledged u) id ≡ true
  pub open_still : (id : CommandId) (c : Command) → command_of u id ≡ Some c → key_of c.op ≡ key
      → has_id (acknowledged u) id ≡ false → has_id (acknowledged (o ∷ u)) id ≡ false

module _ (w u : Log) (o : Observation) (key : List ℕ) (quiet : IsQuiet w u o key) (calls : ℕ → Option Command) where
  pub waiting_still : (log : List Observation) → AreWaiting log u key calls → AreWaiting log (o ∷ u) key calls
  waiting_still log h = record {
    of_key = h.of_key;
    called = λ t c e. command_more u o c.id c (h.called t c e);
    open_yet = λ t c e. quiet.open_still c.id c (h.called t c e) (h.of_key t c e) (h.open_yet t c e);
    apart = h.apart;
    all = λ id c e own none. h.all id c (quiet.commands id c e own) own (open_before u o id none);
  }

  pub reached_still : (log : List Observation) (order front : List CommandId) (c : Configuration)
      → IsReached w u log key calls order front c → IsReached w (o ∷ u) log key calls order front c
  reached_still log order front c h = record {
    rest = h.rest;
    splits = h.splits;
    early = h.early;
    reads = λ id has. let read = h.reads id has in (read.0, command_more u o id read.0 read.1, read.2, read.3);
    called = λ id d has is own. some_more u o id (h.called id d has is own);
    returned = λ id d replied is own. h.returned id d (quiet.replies id d replied is own) is own;
    taken = h.taken;
    names = h.names;
    within = h.within;
    free = h.free;
    current = h.current;
  }

-- ---- a command has its reply

module _ (w u : Log) (id : CommandId) (answer : Answer) (counts : is_failed answer ≡ false) (key : List ℕ) (calls new : ℕ → Option Command)
    (slot : ℕ) (here : new slot ≡ None) (elsewhere : (t : ℕ) → t ≢ slot → new t ≡ calls t) where
  apart_from : (t : ℕ) (d : Command) → new t ≡ Some d → t ≢ slot
  apart_from t d e same = let at : new slot ≡ Some d = subst (λ s. new s ≡ Some d) same e in cc

  was_there : (t : ℕ) (d : Command) → new t ≡ Some d → calls t ≡ Some d
  was_there t d e = sym (elsewhere t (apart_from t d e)) ∙ e

  pub waiting_freed : (log : List Observation) (command : Command) → calls slot ≡ Some command → command.id ≡ id
      → AreWaiting log u key calls → AreWaiting log (Reply id answer ∷ u) key new
  waiting_freed log command waits its h = record {
    of_key = λ t c e. h.of_key t c (was_there t c e);
    called = λ t c e. h.called t c (was_there t c e);
    open_yet = λ t c e. ⊎_elim
        (λ (now : has_id (acknowledged (Reply id answer ∷ u)) c.id ≡ true).
        elim (acknowledged_either u id c.id answer now) [
          | inl same ↦ absurd (apart_from t c e (h.apart t slot c command (was_there t c e) waits (sym same ∙ sym its)))
          | inr before ↦ let was = h.open_yet t c (was_there t c e) in absurd (cc)
        ])
        (λ (none : has_id (acknowledged (Reply id answer ∷ u)) c.id ≡ false). none)
        (cases_Bool (has_id (acknowledged (Reply id answer ∷ u)) c.id));
    apart = λ t s c d e f same. h.apart t s c d (was_there t c e) (was_there s d f) same;
    all = λ x c e own none. elim (h.all x c e own (open_before u (Reply id answer) x none)) [
      | inl old ↦ inl (
        old.0,
        elsewhere old.0 (λ (same : old.0 ≡ slot). other x c e none (old.0) old.1 same) ∙ old.1,
      )
      | inr idle ↦ inr idle
    ];
  }
    where
      other : (x : CommandId) (c : Command) → command_of u x ≡ Some c → has_id (acknowledged (Reply id answer ∷ u)) x ≡ false
          → (t : ℕ) → calls t ≡ Some c → t ≡ slot → ⊥
      other x c e none t at same =
          let one : command ≡ c = cc (at, waits, same) in
          let ids : id ≡ x = sym its ∙ ap (λ (g : Command). g.id) one ∙ (command_found u x c e).1 in
          let replied : has_id (acknowledged (Reply id answer ∷ u)) x ≡ true =
          subst (λ (y : CommandId). has_id (acknowledged (Reply id answer ∷ u)) y ≡ true) ids
          (acknowledged_now u id answer counts) in cc

  pub reached_freed : (log : List Observation) (order front : List CommandId) (c d : Configuration)
      → ((f : Command) → calls slot ≡ Some f → has_id (acknowledged w) f.id ≡ true) → ((x : CommandId) → has_id (acknowledged w) x ≡ true → IsAcknowledged log x)
      → (h : IsReached w u log key calls order front c) → has_id (h.early ++ front) id ≡ true → IsFreed log calls slot c d
      → IsReached w (Reply id answer ∷ u) log key new order front d
  reached_freed log order front c d kept said h has freed = record {
    rest = h.rest;
    splits = h.splits;
    early = h.early;
    reads = h.reads;
    called = h.called;
    returned = λ x f replied is own. elim (acknowledged_either u id x answer replied) [
      | inl same ↦ subst (λ (y : CommandId). has_id (h.early ++ front) y ≡ true) same has
      | inr before ↦ h.returned x f before is own
    ];
    taken = λ t f e replied.
        let y = said f.id replied in
        freed.elsewhere t f (apart_from t f e) (was_there t f e) y ∙ h.taken t f (was_there t f e) replied;
    names = names_still w calls new slot kept elsewhere h.names;
    within = λ t g f at bit named.
        let ne = apart_from t g at.0 in
        h.within t g f (was_there t g at.0, at.1) (freed.within t ne bit)
        (sym (elsewhere (h.names.renamed t) (apart_named w calls new slot kept elsewhere h.names t ne))
        ∙ ap new (sym (still_renamed w calls new slot kept elsewhere h.names t)) ∙ named);
    free = λ t e. ⊎_elim
        (λ (same : t ≡ slot). ap (has_slot d.done) same ∙ freed.here)
        (λ (ne : t ≢ slot). ⊎_elim
        (λ (bit : has_slot d.done t ≡ true).
        let was = freed.within t ne bit in
        let gone = h.free t (sym (elsewhere t ne) ∙ e) in absurd (cc))
        (λ (none : has_slot d.done t ≡ false). none)
        (cases_Bool (has_slot d.done t)))
        (cases_eq t slot);
    current = still (value_at key (commands_of w front)) h.rest h.current;
  }
    where
      still : (held : Option (List ℕ)) (rest : List CommandId) → IsCurrent w log h.early key held rest c
          → IsCurrent w log h.early key held rest d
      still held rest (inl now) = inl (freed.text ∙ now.0, λ unseen. absurd (cc (unseen, freed.seen)))
      still held rest (inr stale) = inr (freed.seen, stale.1)

-- ---- a command is called

module _ (w u later : Log) (command : Command) (whole : w ≡ later ++ Submit command ∷ u)
    (first : command_of u command.id ≡ None) (key : List ℕ) (own : key_of command.op ≡ key)
    (calls new : ℕ → Option Command) (slot : ℕ) (free : calls slot ≡ None) (here : new slot ≡ Some command)
    (elsewhere : (t : ℕ) → t ≢ slot → new t ≡ calls t) where
  -- it stands in the slot, or another one where it stood
  either : (t : ℕ) (d : Command) → new t ≡ Some d → ((t ≡ slot) × (d ≡ command)) ⊎ ((t ≢ slot) × (calls t ≡ Some d))
  either t d e = ⊎_elim
      (λ (same : t ≡ slot). let one : d ≡ command = cc (e, here, same) in inl (same, one))
      (λ (ne : t ≢ slot). inr (ne, sym (elsewhere t ne) ∙ e))
      (cases_eq t slot)

  in_whole : command_of w command.id ≡ Some command
  in_whole = subst (λ (l : Log). command_of l command.id ≡ Some command) (sym whole)
      (command_later later (Submit command ∷ u) command.id command (new_command u command first))

  other_called : (log : List Observation) (t : ℕ) (d : Command) → AreWaiting log u key calls → calls t ≡ Some d → d.id ≢ command.id
  other_called log t d h e same =
      let there = h.called t d e in
      let gone : command_of u d.id ≡ None = ap (command_of u) same ∙ first in cc

  pub waiting_called : (log : List Observation) → has_id (acknowledged u) command.id ≡ false → AreWaiting log u key calls
      → AreWaiting log (Submit command ∷ u) key new
  waiting_called log unsaid h = record {
    of_key = λ t d e. elim (either t d e) [
      | inl at ↦ ap (λ (g : Command). key_of g.op) at.1 ∙ own
      | inr at ↦ h.of_key t d at.1
    ];
    called = λ t d e. elim (either t d e) [
      | inl at ↦
          subst (λ (g : Command). command_of (Submit command ∷ u) g.id ≡ Some g) (sym at.1)
          (new_command u command first)
      | inr at ↦ command_more u (Submit command) d.id d (h.called t d at.1)
    ];
    open_yet = λ t d e. elim (either t d e) [
      | inl at ↦ subst (λ (g : Command). has_id (acknowledged u) g.id ≡ false) (sym at.1) unsaid
      | inr at ↦ h.open_yet t d at.1
    ];
    apart = λ t s c d e f same. elim (either t c e) [
      | inl at ↦ elim (either s d f) [
        | inl it ↦ at.0 ∙ sym it.0
        | inr it ↦ absurd (other_called log s d h it.1 (sym same ∙ ap (λ (g : Command). g.id) at.1))
      ]
      | inr at ↦ elim (either s d f) [
        | inl it ↦ absurd (other_called log t c h at.1 (same ∙ ap (λ (g : Command). g.id) it.1))
        | inr it ↦ h.apart t s c d at.1 it.1 same
      ]
    ];
    all = λ id d e its none. elim (id_cases command.id id) [
      | inl same ↦ inl (
        slot,
        here ∙ sym (new_command u command first) ∙ ap (command_of (Submit command ∷ u)) same ∙ e,
      )
      | inr ne ↦ elim (h.all id d (sym (other_command u command id ne) ∙ e) its none) [
        | inl old ↦ inl (old.0, elsewhere old.0 (λ (same : old.0 ≡ slot). absurd (taken old.0 d old.1 same)) ∙ old.1)
        | inr idle ↦ inr idle
      ]
    ];
  }
    where
      taken : (t : ℕ) (d : Command) → calls t ≡ Some d → t ≡ slot → ⊥
      taken t d e same = cc

  pub reached_called : (log : List Observation) (order front : List CommandId) (c : Configuration)
      → IsReached w u log key calls order front c → IsReached w (Submit command ∷ u) log key new order front c
  reached_called log order front c h = record {
    rest = h.rest;
    splits = h.splits;
    early = h.early;
    reads = λ id has.
        let read = h.reads id has in (read.0, command_more u (Submit command) id read.0 read.1, read.2, read.3);
    called = λ id d has is its. some_more u (Submit command) id (h.called id d has is its);
    returned = h.returned;
    taken = λ t d e replied. elim (either t d e) [
      | inl at ↦
          ap (has_slot c.done) at.0 ∙ h.free slot free
          ∙ sym (ap (has_id (h.early ++ front)) (ap (λ (g : Command). g.id) at.1) ∙ lacks_both h.early front command.id late absent)
      | inr at ↦ h.taken t d at.1 replied
    ];
    names = names_still w calls new slot none_kept elsewhere h.names;
    within = λ t g f at bit named. elim (either t g at.0) [
      | inl it ↦ absurd (not_yet t it.0 bit)
      | inr it ↦ h.within t g f (it.1, at.1) bit
          (sym (elsewhere (h.names.renamed t) (apart_named w calls new slot none_kept elsewhere h.names t it.0))
          ∙ ap new (sym (still_renamed w calls new slot none_kept elsewhere h.names t)) ∙ named)
    ];
    free = λ t e. ⊎_elim
        (λ (same : t ≡ slot). absurd (filled t e same))
        (λ (ne : t ≢ slot). h.free t (sym (elsewhere t ne) ∙ e))
        (cases_eq t slot);
    current = h.current;
  }
    where
      none_kept : (f : Command) → calls slot ≡ Some f → has_id (acknowledged w) f.id ≡ true
      none_kept f e = absurd (cc)

      not_yet : (t : ℕ) → t ≡ slot → has_slot c.done t ≡ true → ⊥
      not_yet t same bit = let gone : has_slot c.done t ≡ false = ap (has_slot c.done) same ∙ h.free slot free in cc

      late : has_id h.early command.id ≡ false
      late = ⊎_elim
          (λ (has : has_id h.early command.id ≡ true). let read = h.reads command.id has in let there = read.1 in absurd (cc))
          (λ (none : has_id h.early command.id ≡ false). none)
          (cases_Bool (has_id h.early command.id))

      absent : has_id front command.id ≡ false
      absent = ⊎_elim
          (λ (has : has_id front command.id ≡ true).
          let was = h.called command.id command has in_whole own in
          let gone : is_some (command_of u command.id) ≡ false = ap is_some first in absurd (cc))
          (λ (none : has_id front command.id ≡ false). none)
          (cases_Bool (has_id front command.id))

      filled : (t : ℕ) → new t ≡ None → t ≡ slot → ⊥
      filled t e same = let at : new slot ≡ None = subst (λ s. new s ≡ None) same e in cc

-- ---- an idle command is called

module _ (w u : Log) (log : List Observation) (command : Command) (first : command_of u command.id ≡ None)
    (idle : IsIdle log command) (key : List ℕ) (calls : ℕ → Option Command) where
  pub waiting_idle : AreWaiting log u key calls → AreWaiting log (Submit command ∷ u) key calls
  waiting_idle h = record {
    of_key = h.of_key;
    called = λ t c e. command_more u (Submit command) c.id c (h.called t c e);
    open_yet = h.open_yet;
    apart = h.apart;
    all = λ id d e own none. elim (id_cases command.id id) [
      | inl same ↦
          let now : command_of (Submit command ∷ u) id ≡ Some command =
          subst (λ (x : CommandId). command_of (Submit command ∷ u) x ≡ Some command) same (new_command u command first) in
          let one : command ≡ d = cc in
          inr (subst (IsIdle log) one idle)
      | inr ne ↦ h.all id d (sym (other_command u command id ne) ∙ e) own none
    ];
  }

  pub reached_idle : (order front : List CommandId) (c : Configuration) → IsReached w u log key calls order front c
      → IsReached w (Submit command ∷ u) log key calls order front c
  reached_idle order front c h = record {
    rest = h.rest;
    splits = h.splits;
    early = h.early;
    reads = λ id has.
        let read = h.reads id has in (read.0, command_more u (Submit command) id read.0 read.1, read.2, read.3);
    called = λ id d has is own. some_more u (Submit command) id (h.called id d has is own);
    returned = h.returned;
    taken = h.taken;
    names = h.names;
    within = h.within;
    free = h.free;
    current = h.current;
  }
