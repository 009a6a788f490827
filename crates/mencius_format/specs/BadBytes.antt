-- Operations whose keys and texts are not checked yet, and the faults of bad bytes and bad lengths.
use Rattle.std.specs.Prelude.{◌≡◌, Option, Some, None, Result, Ok, Err, if◌then◌else◌}
use Rattle.mencius_base.specs.declared.command.BadCommand.{BadCommand}
use Rattle.mencius_base.specs.declared.command.BadCommand.TheVariants.{KeyByte, TextByte, KeyLength, TextLength}
use Rattle.mencius_base.specs.declared.command.Op.{Op}
use Rattle.mencius_io.specs.declared.fault.IoFault.{IoFault}
use Rattle.mencius_io.specs.declared.fault.IoFault.TheVariants.{BadShape, BadLimit}
use Rattle.mencius_format.specs.ValuesOrFaults.{value_or_fault, has_no_limit, FailsBy}
use Rattle.mencius_format.specs.Operations.{has_names}

-- the operation, or None if its key or one of its texts has a byte that is not allowed
abbrev pub without_bad_byte : Op → Option Op
without_bad_byte op = if has_names op then Some op else None

-- a returned operation is the one that the words describe, unless it has a bad byte. Then the words describe none. A
-- returned fault is NoMemory, or it is BadShape and the words describe no operation
abbrev pub Spells : Result Op IoFault → Option Op → Type 0
Spells (Ok op) said = said ≡ without_bad_byte op
Spells (Err f) said = FailsBy f (value_or_fault has_no_limit said)

-- a bad byte is the fault BadShape, and a bad length is BadLimit
abbrev pub fault_of : BadCommand → IoFault
fault_of KeyByte = BadShape
fault_of TextByte = BadShape
fault_of KeyLength = BadLimit
fault_of TextLength = BadLimit
