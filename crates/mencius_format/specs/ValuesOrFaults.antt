-- The check of a read value, first for its shape and then for its limits.
use Rattle.std.specs.Prelude.{◌≡◌, Bool, true, Option, Some, None, Result, Ok, Err, if◌then◌else◌}
use Rattle.mencius_io.specs.declared.fault.IoFault.{IoFault}
use Rattle.mencius_io.specs.declared.fault.IoFault.TheVariants.{BadShape, BadLimit, NoMemory}

-- a missing value gives BadShape, a value past the limits gives BadLimit, and any other value is returned
abbrev pub value_or_fault : {X : Type 0} → (X → Bool) → Option X → Result X IoFault
value_or_fault within None = Err BadShape
value_or_fault within (Some x) = if within x then Ok x else Err BadLimit

-- a limit that every value meets
abbrev pub has_no_limit : {X : Type 0} → X → Bool
has_no_limit x = true

-- both values, or the fault of one of them. If both have a fault, the first one counts, unless it is BadLimit. Then the
-- second one counts
abbrev pub both_or_fault : {X Y : Type 0} → Result X IoFault → Result Y IoFault → Result (X × Y) IoFault
both_or_fault (Ok x) (Ok y) = Ok (x, y)
both_or_fault (Ok x) (Err f) = Err f
both_or_fault (Err BadLimit) (Err f) = Err f
both_or_fault (Err f) y = Err f

-- the expected result is this fault. If the fault is NoMemory, the expected result may be anything
abbrev pub FailsBy : {X : Type 0} → IoFault → Result X IoFault → Type 0
FailsBy NoMemory answer = Unit {0}
FailsBy f answer = answer ≡ Err f

-- the returned result is the expected one, unless the returned result is NoMemory
abbrev pub Gives : {X : Type 0} → Result X IoFault → Result X IoFault → Type 0
Gives (Ok x) answer = answer ≡ Ok x
Gives (Err f) answer = FailsBy f answer

-- the same result, with the function `view` applied to its value
abbrev pub map_ok : {X Y : Type 0} → (X → Y) → Result X IoFault → Result Y IoFault
map_ok view (Ok x) = Ok (view x)
map_ok view (Err f) = Err f
