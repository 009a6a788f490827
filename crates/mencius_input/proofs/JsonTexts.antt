-- Bytes are JSON exactly if they are UTF-8 and their text is JSON.
use Rattle.std.proofs.Common.{◌≡◌, List, ℕ, None, Some, true, false, refl, cond, Bool}
use Rattle.std.specs.Prelude.{IsUtf8}
use Rattle.std.specs.Str.{is_utf8}
use Rattle.std.proofs.lemmas.Str.{IsUtf8-from_is_utf8, is_utf8-from_IsUtf8}
use Rattle.serde_json.specs.Data.{Data}
use Rattle.serde_json.specs.Read.{read}
use Rattle.mencius_input.specs.Scenario.{json_of}

pub utf8_yes : (bytes : List ℕ) → IsUtf8 bytes → json_of bytes ≡ read bytes
unfolding json_of
utf8_yes bytes spelled = rw (is_utf8-from_IsUtf8 bytes spelled) refl

pub utf8_no : (bytes : List ℕ) → (IsUtf8 bytes → read bytes ≡ None) → json_of bytes ≡ None
unfolding json_of
utf8_no bytes h = by_test (is_utf8 bytes) refl
  where
    by_test : (a : Bool) → is_utf8 bytes ≡ a → cond a (read bytes) None ≡ None
    by_test true e = h (IsUtf8-from_is_utf8 bytes e)
    by_test false e = refl

-- bytes that are JSON have the same value as their text
pub json_read : (bytes : List ℕ) (d : Data) → json_of bytes ≡ Some d → read bytes ≡ Some d
unfolding json_of
json_read bytes d is = by_test (is_utf8 bytes) is
  where
    by_test : (a : Bool) → cond a (read bytes) None ≡ Some d → read bytes ≡ Some d
    by_test true is = is
    by_test false is = absurd cc
