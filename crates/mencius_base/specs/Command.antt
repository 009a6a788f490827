-- The operations that make a command, and the commands that have the same identity.
use Rattle.std.specs.Prelude.{ℕ, Bool, List, [], length, Option, Some, None, ◌==◌, ◌&&◌, ◌||◌, not, nat_le, if◌then◌else◌}
use Rattle.std.specs.List.{list_all}
use Rattle.std.specs.Char.{is_ascii_alphanumeric}
use Rattle.mencius_base.specs.Limits.{most_key_bytes, most_text_bytes}
use Rattle.mencius_base.specs.declared.command.BadCommand.{BadCommand}
use Rattle.mencius_base.specs.declared.command.BadCommand.TheVariants.{KeyByte, TextByte, KeyLength, TextLength}
use Rattle.mencius_base.specs.declared.command.CommandId.{CommandId}
use Rattle.mencius_base.specs.declared.command.Op.{Op}
use Rattle.mencius_base.specs.declared.command.Op.TheVariants.{Set, Get, Del, Cas}

-- whether a byte is an ASCII letter, a digit, `_`, `-` or `.`
abbrev pub is_name_byte : ℕ → Bool
is_name_byte byte = is_ascii_alphanumeric byte || byte == 95 || byte == 45 || byte == 46

-- whether a word has only bytes that keys and texts may have
unfoldable pub is_name : List ℕ → Bool
is_name word = list_all is_name_byte word

-- whether a key has 1 to 64 bytes
abbrev pub is_key_length : List ℕ → Bool
is_key_length key = nat_le 1 (length key) && nat_le (length key) most_key_bytes

-- whether a text has at most 256 bytes
abbrev pub is_text_length : List ℕ → Bool
is_text_length text = nat_le (length text) most_text_bytes

-- the first fault of a key and two texts, if they have one. Faults of bytes come before faults of lengths
abbrev pub bad_entry : List ℕ → List ℕ → List ℕ → Option BadCommand
bad_entry key held text =
    if not (is_name key) then Some KeyByte
    else (if not (is_name held && is_name text) then Some TextByte
    else (if not (is_key_length key) then Some KeyLength
    else (if not (is_text_length held && is_text_length text) then Some TextLength
    else None)))

-- the first fault of an operation, if it has one. An empty text has no fault
abbrev pub bad_op : Op → Option BadCommand
bad_op (Set key text) = bad_entry key [] text
bad_op (Get key) = bad_entry key [] []
bad_op (Del key) = bad_entry key [] []
bad_op (Cas key held text) = bad_entry key held text

-- whether two identities have the same client and the same number
abbrev pub is_same_id : CommandId → CommandId → Bool
is_same_id a x = a.client == x.client && a.number == x.number
