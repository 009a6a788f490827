-- When a reply to a command is right.
use Rattle.std.specs.Prelude.{◌≡◌, ◌||◌, ℕ, Bool, true, not, List, Option, Some, None, IsTrue}
use Rattle.mencius_base.specs.declared.command.Op.{Op}
use Rattle.mencius_model.specs.KeyMap.{has_text, expected, is_read}
use Rattle.mencius_log.specs.declared.observation.Answer.{Answer}
use Rattle.mencius_log.specs.declared.observation.Answer.TheVariants.{Held, Done, Failed}

-- whether a key that holds `held` has the text that an operation expects. The operation may expect none
abbrev pub is_met : Option (List ℕ) → Option (List ℕ) → Bool
is_met None held = true
is_met (Some old) held = has_text held old

-- whether `ok` is right for an operation, if its key holds this text before it. A `cas` has to bind its key
abbrev pub is_done : Op → Option (List ℕ) → Bool
is_done op held = is_met (expected op) held

-- whether `failed` is right for an operation, if its key holds this text before it. A `get` changes nothing, and a
-- `cas` may not bind its key
abbrev pub is_without_effect : Op → Option (List ℕ) → Bool
is_without_effect op held = is_read op || not (is_done op held)

-- the reply is right for an operation, if its key holds the text `held` before it
abbrev pub IsRight : Op → Option (List ℕ) → Answer → Type 0
IsRight op held (Held text) = text ≡ held
IsRight op held Done = IsTrue (is_done op held)
IsRight op held Failed = IsTrue (is_without_effect op held)
