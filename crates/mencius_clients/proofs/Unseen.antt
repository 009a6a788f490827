-- Texts that are overwritten before anyone sees them.
use Rattle.std.proofs.Common.{◌≡◌, ◌≢◌, Bool, true, false, ◌||◌, if◌then◌else◌, ℕ, List, [], ◌∷◌, Option, Some, None, refl, sym, ap, ◌∙◌}
use Rattle.mencius_base.specs.Command.{is_same_id}
use Rattle.std.specs.Str.{bytes_eq}
use Rattle.std.proofs.lemmas.Slice.Eq.{bytes_eq-Decides}
use Rattle.mencius_base.specs.declared.command.Command.{Command}
use Rattle.mencius_base.specs.declared.command.CommandId.{CommandId}
use Rattle.mencius_model.specs.KeyMap.{key_of}
use Rattle.mencius_judge.specs.Log.{Log, acknowledged, command_of, has_id}
use Rattle.mencius_judge.proofs.keys.TextMaps.{other_bytes, same_bytes}
use Rattle.mencius_clients.specs.Configurations.{become, is_cas}
use Rattle.mencius_clients.specs.Reached.{fate, is_same_text, on_command, overwritten, sees}

pub same_texts : (a b : Option (List ℕ)) → is_same_text a b ≡ true → a ≡ b
same_texts None None e = refl
same_texts None (Some x) e = absurd (cc)
same_texts (Some x) None e = absurd (cc)
same_texts (Some x) (Some y) e = ap Some ((bytes_eq-Decides x y).0 e)

pub is_same : (a : Option (List ℕ)) → is_same_text a a ≡ true
is_same None = refl
is_same (Some x) = same_bytes x

module _ (w : Log) (early : List CommandId) (key : List ℕ) (held : Option (List ℕ)) (x : CommandId) (rest : List CommandId)
    (c : Command) (is : command_of w x ≡ Some c) where
  before : Bool
  before = overwritten w early key held rest

  all : overwritten w early key held (x ∷ rest)
      ≡ fate (bytes_eq (key_of c.op) key) (sees w early x) (is_same_text (become held c.op) held) (is_cas c.op)
      (overwritten w early key held rest) (overwritten w early key (become held c.op) rest)
  all = ap (on_command (λ d. fate (bytes_eq (key_of d.op) key) (sees w early x) (is_same_text (become held d.op) held)
      (is_cas d.op) (overwritten w early key held rest) (overwritten w early key (become held d.op) rest))
      (overwritten w early key held rest)) is

  pub at_other : key_of c.op ≢ key → overwritten w early key held (x ∷ rest) ≡ overwritten w early key held rest
  at_other ne =
      all ∙ ap (λ d. fate d (sees w early x) (is_same_text (become held c.op) held) (is_cas c.op)
      (overwritten w early key held rest) (overwritten w early key (become held c.op) rest))
      (other_bytes (key_of c.op) key (λ e. ne (sym e)))

  own : key_of c.op ≡ key → (seen same compares : Bool) → sees w early x ≡ seen
      → is_same_text (become held c.op) held ≡ same → is_cas c.op ≡ compares
      → overwritten w early key held (x ∷ rest)
      ≡ fate true seen same compares (overwritten w early key held rest) (overwritten w early key (become held c.op) rest)
  own e seen same compares first second third =
      all
      ∙ ap (λ d. fate d (sees w early x) (is_same_text (become held c.op) held) (is_cas c.op)
      (overwritten w early key held rest) (overwritten w early key (become held c.op) rest))
      (ap (bytes_eq (key_of c.op)) (sym e) ∙ same_bytes (key_of c.op))
      ∙ ap (λ d. fate true d (is_same_text (become held c.op) held) (is_cas c.op)
      (overwritten w early key held rest) (overwritten w early key (become held c.op) rest)) first
      ∙ ap (λ d. fate true seen d (is_cas c.op)
      (overwritten w early key held rest) (overwritten w early key (become held c.op) rest)) second
      ∙ ap (λ d. fate true seen same d
      (overwritten w early key held rest) (overwritten w early key (become held c.op) rest)) third

  pub at_seen : key_of c.op ≡ key → sees w early x ≡ true → overwritten w early key held (x ∷ rest) ≡ false
  at_seen e seen = own e true (is_same_text (become held c.op) held) (is_cas c.op) seen refl refl

  pub at_same : key_of c.op ≡ key → sees w early x ≡ false → is_same_text (become held c.op) held ≡ true
      → overwritten w early key held (x ∷ rest) ≡ overwritten w early key held rest
  at_same e none same = own e false true (is_cas c.op) none same refl

  pub at_cas : key_of c.op ≡ key → sees w early x ≡ false → is_same_text (become held c.op) held ≡ false
      → is_cas c.op ≡ true → overwritten w early key held (x ∷ rest) ≡ overwritten w early key (become held c.op) rest
  at_cas e none changes compares = own e false false true none changes compares

  pub at_write : key_of c.op ≡ key → sees w early x ≡ false → is_same_text (become held c.op) held ≡ false
      → is_cas c.op ≡ false → overwritten w early key held (x ∷ rest) ≡ true
  at_write e none changes blind = own e false false false none changes blind

-- ---- one early read more

-- an acknowledged command that is not early sees the text, and no other one does
pub sees_later : (w : Log) (early : List CommandId) (x : CommandId) → has_id early x ≡ false
    → sees w early x ≡ has_id (acknowledged w) x
sees_later w early x none = ap (λ b. if b then false else has_id (acknowledged w) x) none

pub sees_early : (w : Log) (early : List CommandId) (x : CommandId) → has_id early x ≡ true → sees w early x ≡ false
sees_early w early x there = ap (λ b. if b then false else has_id (acknowledged w) x) there

pub sees_lost : (w : Log) (early : List CommandId) (x : CommandId) → has_id (acknowledged w) x ≡ false → sees w early x ≡ false
sees_lost w early x lost = by_test (has_id early x)
  where
    by_test : (b : Bool) → (if b then false else has_id (acknowledged w) x) ≡ false
    by_test true = refl
    by_test false = lost

fate_more : (own more sees same compares before before_more after after_more : Bool) → (more ≡ true → sees ≡ true)
    → (before ≡ true → before_more ≡ true) → (after ≡ true → after_more ≡ true)
    → fate own sees same compares before after ≡ true → fate own more same compares before_more after_more ≡ true
fate_more false more sees same compares before before_more after after_more less first second h = first h
fate_more true more true same compares before before_more after after_more less first second h = absurd (cc)
fate_more true true false same compares before before_more after after_more less first second h =
    let there = less refl in absurd (cc)
fate_more true false false true compares before before_more after after_more less first second h = first h
fate_more true false false false true before before_more after after_more less first second h = second h
fate_more true false false false false before before_more after after_more less first second h = refl

module _ (w : Log) (key : List ℕ) (early : List CommandId) (read : CommandId) where
  sees_less : (x : CommandId) → sees w (read ∷ early) x ≡ true → sees w early x ≡ true
  sees_less x = by_tests (is_same_id read x) (has_id early x) (has_id (acknowledged w) x)
    where
      by_tests : (same known replied : Bool) → (if same || known then false else replied) ≡ true
          → (if known then false else replied) ≡ true
      by_tests true known replied h = absurd (cc)
      by_tests false known replied h = h

  -- what no one sees, no one sees with one early read more
  pub overwritten_more : (held : Option (List ℕ)) (rest : List CommandId) → overwritten w early key held rest ≡ true
      → overwritten w (read ∷ early) key held rest ≡ true
  overwritten_more held [] h = absurd (cc)
  overwritten_more held (x ∷ rest) h = by_command (λ v. overwritten_more v rest) (command_of w x) h
    where
      by_command : ((v : Option (List ℕ)) → overwritten w early key v rest ≡ true → overwritten w (read ∷ early) key v rest ≡ true)
          → (o : Option Command)
          → on_command (λ c. fate (bytes_eq (key_of c.op) key) (sees w early x) (is_same_text (become held c.op) held)
          (is_cas c.op) (overwritten w early key held rest) (overwritten w early key (become held c.op) rest))
          (overwritten w early key held rest) o ≡ true
          → on_command (λ c. fate (bytes_eq (key_of c.op) key) (sees w (read ∷ early) x) (is_same_text (become held c.op) held)
          (is_cas c.op) (overwritten w (read ∷ early) key held rest) (overwritten w (read ∷ early) key (become held c.op) rest))
          (overwritten w (read ∷ early) key held rest) o ≡ true
      by_command more None e = more held e
      by_command more (Some c) e =
          fate_more (bytes_eq (key_of c.op) key) (sees w (read ∷ early) x) (sees w early x)
          (is_same_text (become held c.op) held) (is_cas c.op)
          (overwritten w early key held rest) (overwritten w (read ∷ early) key held rest)
          (overwritten w early key (become held c.op) rest) (overwritten w (read ∷ early) key (become held c.op) rest)
          (sees_less x) (more held) (more (become held c.op)) e
