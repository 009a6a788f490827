-- A fault that stops reading a part also stops reading the whole.
use Rattle.std.proofs.Common.{◌≡◌, Result, IfErr, inl, inr, Option, None}
use Rattle.std.specs.Result.{IsErrAnd}
use Rattle.std.proofs.lemmas.Result.{err_from_is_err_and}
use Rattle.mencius_io.specs.declared.fault.IoFault.{IoFault}
use Rattle.mencius_input.specs.Stops.{StopsBy}

pub stops_whole : {X Y : Type 0} (part : Option X) (whole : Option Y) (fault : IoFault) → (part ≡ None → whole ≡ None)
    → StopsBy part fault → StopsBy whole fault
stops_whole part whole fault none (inl memory) = inl memory
stops_whole part whole fault none (inr own) = inr (own.0, none own.1)

pub stops_at : {X Y : Type 0} (result : Result X IoFault) (next : Option Y) (fault : IoFault)
    → IsErrAnd result (λ e. e ≡ fault) → StopsBy next fault → IfErr result (λ stop. StopsBy next stop)
stops_at result next fault h stops = let failing = err_from_is_err_and result h in rw (failing.1, failing.2) stops
