-- The reason why reading a value stops.
use Rattle.std.specs.Prelude.{◌≡◌, ◌⊎◌, Option, None}
use Rattle.mencius_io.specs.declared.fault.IoFault.{IoFault}
use Rattle.mencius_io.specs.declared.fault.IoFault.TheVariants.{NoMemory, NotJson}

-- memory ran out, or the fault is `NotJson` and no value of the requested form comes next
abbrev pub StopsBy : {X : Type 0} → Option X → IoFault → Type 0
StopsBy next fault = (fault ≡ NoMemory) ⊎ ((fault ≡ NotJson) × (next ≡ None))
