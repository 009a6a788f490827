-- The texts of arguments that are UTF-8 are their bytes.
use Rattle.std.specs.Prelude.{Vec}
use Rattle.std.specs.Str.{IsUtf8, is_utf8}
use Rattle.std.proofs.Common.{◌≡◌, ℕ, true, false, List, [], ◌∷◌, refl, ap₂, inl, inr}
use Rattle.std.proofs.lemmas.Bool.{and_parts, cases_Bool}
use Rattle.std.proofs.lemmas.Str.{IsUtf8-from_is_utf8, utf8_lossy-IsUtf8}
use Rattle.mencius_command_line.specs.CommandLine.{are_texts, bytes_of, lossy_of}

pub texts_kept : {Z : Type 0} (arguments : List (Vec ℕ Z)) → are_texts (bytes_of arguments) ≡ true
    → lossy_of arguments ≡ bytes_of arguments
texts_kept [] h = refl
texts_kept (a ∷ rest) h =
    let parts = and_parts (is_utf8 a.items) (are_texts (bytes_of rest)) h in
    ap₂ (λ text texts. text ∷ texts) (utf8_lossy-IsUtf8 a.items (IsUtf8-from_is_utf8 a.items parts.0))
    (texts_kept rest parts.1)

pub no_text : (bytes : List ℕ) → (IsUtf8 bytes → ⊥) → false ≡ is_utf8 bytes
no_text bytes none = elim (cases_Bool (is_utf8 bytes)) [
  | inl holds ↦ absurd (none (IsUtf8-from_is_utf8 bytes holds))
  | inr fails ↦ rw fails refl
]
