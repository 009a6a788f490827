-- The content of an input, or the fault of a bad input.
use Rattle.std.specs.Prelude.{◌≡◌, ℕ, nat_lt, if◌then◌else◌, IfSome, Result, Ok, Err, List, length, Option}
use Rattle.mencius_io.specs.declared.fault.IoFault.{IoFault}
use Rattle.mencius_io.specs.declared.fault.IoFault.TheVariants.{BadLimit}
use Rattle.mencius_io.specs.Streams.{most_bytes}

-- the result of reading these bytes, or `BadLimit` if there are more than `most_bytes` bytes
abbrev pub unless_long : {X : Type 0} → (List ℕ → Result X IoFault) → List ℕ → Result X IoFault
unless_long read bytes = if nat_lt most_bytes (length bytes) then Err BadLimit else read bytes

-- reading some bytes gives x. They are the bytes of the reader, if those are known
abbrev pub Says : {X : Type 0} → (List ℕ → Result X IoFault) → Option (List ℕ) → X → Type 0
Says read known x = (bytes : List ℕ) × IfSome known (λ all. all ≡ bytes) × (read bytes ≡ Ok x)

-- reading the reader's bytes gives this fault, if these bytes are known
abbrev pub HasFault : {X : Type 0} → (List ℕ → Result X IoFault) → Option (List ℕ) → IoFault → Type 0
HasFault read known fault = IfSome known (λ bytes. read bytes ≡ Err fault)
