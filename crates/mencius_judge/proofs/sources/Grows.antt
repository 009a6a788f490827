-- A history never gets shorter, in a log whose snapshots were taken over by servers without a history.
use Rattle.std.proofs.Common.{◌≡◌, ℕ, ◌≤◌, Bool, true, false, cond, eqb, [], ◌∷◌, ◌++◌, length, take, arith, refl, sym, ap, ◌∙◌, length-append}
use Rattle.std.proofs.lemmas.Bool.{eq-eqb, eqb-true}
use Rattle.mencius_base.specs.declared.command.CommandId.{CommandId}
use Rattle.mencius_log.specs.declared.observation.Observation.{Observation}
use Rattle.mencius_log.specs.declared.observation.Observation.TheVariants.{Submit, Execute, Reply, Lookup, Tell, Settle, Restore}
use Rattle.mencius_judge.specs.Log.{Log, history}
use Rattle.mencius_judge.specs.Promises.{WereRestored}
use Rattle.mencius_judge.specs.Quotes.{NumberedLog, log_of}

-- ---- one more observation

-- an execution extends the history of its server, and of no other server
pub executed : (w : Log) (p : ℕ) (id : CommandId) → history (Execute p id ∷ w) p ≡ history w p ++ id ∷ []
executed w p id = ap (λ d. cond d (history w p ++ id ∷ []) (history w p)) (eq-eqb p p refl)

-- a snapshot gives its server the first commands of another server
pub restored : (w : Log) (p source count : ℕ) → history (Restore p source count ∷ w) p ≡ take count (history w source)
restored w p source count = ap (λ d. cond d (take count (history w source)) (history w p)) (eq-eqb p p refl)

pub restored_before : (o : Observation) (w : Log) → WereRestored (o ∷ w) → WereRestored w
restored_before (Submit command) w h = h
restored_before (Execute server id) w h = h
restored_before (Reply id answer) w h = h
restored_before (Lookup reader key text) w h = h
restored_before (Tell reader server) w h = h
restored_before (Settle server) w h = h
restored_before (Restore server source count) w h = h.2

pub longer : (o : Observation) (w : Log) (p : ℕ) → WereRestored (o ∷ w)
    → length (history w p) ≤ length (history (o ∷ w) p)
longer (Submit command) w p h = omega arith
longer (Execute server id) w p h = by_test (eqb server p)
  where
    by_test : (d : Bool) → length (history w p) ≤ length (cond d (history w p ++ id ∷ []) (history w p))
    by_test true = omega (arith, length-append (history w p) (id ∷ []))
    by_test false = omega arith
longer (Reply id answer) w p h = omega arith
longer (Lookup reader key text) w p h = omega arith
longer (Tell reader server) w p h = omega arith
longer (Settle server) w p h = omega arith
longer (Restore server source count) w p h = by_test (eqb server p) refl
  where
    by_test : (d : Bool) → eqb server p ≡ d
        → length (history w p) ≤ length (cond d (take count (history w source)) (history w p))
    by_test true e =
        let none : length (history w p) ≡ 0 = ap (λ q. length (history w q)) (sym (eqb-true server p e))
        ∙ ap length h.0 in
        omega (arith, none)
    by_test false e = omega arith

-- ---- many more lines

pub restored_rest : (later earlier : NumberedLog) → WereRestored (log_of (later ++ earlier))
    → WereRestored (log_of earlier)
restored_rest [] earlier h = h
restored_rest (line ∷ later) earlier h =
    restored_rest later earlier (restored_before line.observation (log_of (later ++ earlier)) h)

pub longer_rest : (later earlier : NumberedLog) (p : ℕ) → WereRestored (log_of (later ++ earlier))
    → length (history (log_of earlier) p) ≤ length (history (log_of (later ++ earlier)) p)
longer_rest [] earlier p h = omega arith
longer_rest (line ∷ later) earlier p h =
    let before = longer_rest later earlier p (restored_before line.observation (log_of (later ++ earlier)) h) in
    let last = longer line.observation (log_of (later ++ earlier)) p h in
    omega (arith, before, last)
