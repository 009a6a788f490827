-- A function that returns the result of its last call promises something only if that call succeeds.
use Rattle.std.proofs.Common.{◌≡◌, ℕ, List, Result, Ok, Err, OnOk, if◌then◌else◌}
use Rattle.std.proofs.lemmas.Result.{on_ok_weaker}
use Rattle.std.specs.Result.{is_ok}

-- the promise of the function follows from that of the last call
pub last_ok : {X E P Q : Type 0} (r : Result X E) → OnOk r P → (P → Q) → OnOk r Q
last_ok r h f = on_ok_weaker r f h

-- the promise of the function follows from the text after the last call. A call that fails leaves the text as it was
pub last_str : {X E Q : Type 0} (r : Result X E) (old new all : List ℕ) → new ≡ (if is_ok r then all else old)
    → (new ≡ all → Q) → OnOk r Q
last_str (Ok x) old new all h f = f h
last_str (Err x) old new all h f = tt
