-- The map from keys to texts, and the effect of commands on it.
use Rattle.std.specs.Prelude.{ℕ, Bool, true, false, List, Option, Some, None, bytes_eq, if◌then◌else◌}
use Rattle.std.specs.List.{fold}
use Rattle.std.specs.Ordering.{nat_cmp}
use Rattle.std.specs.Cmp.Lexicographic.{slice_cmp}
use Rattle.std.specs.FinMap as finite
use Rattle.mencius_base.specs.declared.command.Command.{Command}
use Rattle.mencius_base.specs.declared.command.Op.{Op}
use Rattle.mencius_base.specs.declared.command.Op.TheVariants.{Set, Get, Del, Cas}

-- A map from keys to texts. Keys and texts are lists of bytes.
abbrev pub KeyMap : Type 0
KeyMap = finite.FinMap (slice_cmp nat_cmp) (List ℕ)

-- Whether a key holds exactly the text `held`. The first argument is the text that the key holds, if it holds one.
abbrev pub has_text : Option (List ℕ) → List ℕ → Bool
has_text None held = false
has_text (Some former) held = bytes_eq former held

-- The map after an operation. Set binds the key, Del removes it, and Get changes nothing. Cas binds the key if it held
-- exactly the text that the operation expects.
abbrev pub apply : KeyMap → Op → KeyMap
apply store (Set key text) = finite.insert store key text
apply store (Get key) = store
apply store (Del key) = finite.remove store key
apply store (Cas key held text) =
    if has_text (finite.get store key) held then finite.insert store key text else store

-- The key of an operation.
abbrev pub key_of : Op → List ℕ
key_of (Set key text) = key
key_of (Get key) = key
key_of (Del key) = key
key_of (Cas key held text) = key

-- The text that an operation expects its key to hold, if it compares before it writes.
abbrev pub expected : Op → Option (List ℕ)
expected (Set key text) = None
expected (Get key) = None
expected (Del key) = None
expected (Cas key held text) = Some held

-- The text that an operation writes, if it writes one.
abbrev pub new_text : Op → Option (List ℕ)
new_text (Set key text) = Some text
new_text (Get key) = None
new_text (Del key) = None
new_text (Cas key held text) = Some text

-- Whether an operation only reads.
abbrev pub is_read : Op → Bool
is_read (Set key text) = false
is_read (Get key) = true
is_read (Del key) = false
is_read (Cas key held text) = false

-- The map that these commands build from the empty map, one after the other.
abbrev pub map_after : List Command → KeyMap
map_after cs = fold (λ store command. apply store command.op) finite.empty cs

-- The text that the map of the commands `cs` holds at the key of `command`, if it holds one. This is the reply of
-- `command` if it is executed after `cs`.
abbrev pub out : List Command → Command → Option (List ℕ)
out cs command = finite.get (map_after cs) (key_of command.op)

-- The text that the map of these commands holds at a key, if it holds one.
abbrev pub value_at : List ℕ → List Command → Option (List ℕ)
value_at key commands = finite.get (map_after commands) key
