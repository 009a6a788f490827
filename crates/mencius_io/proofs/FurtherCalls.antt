-- After another call, the written text is longer by one part, and the count of failed calls is still right.
use Rattle.std.proofs.Common.{◌≡◌, ◌&&◌, ◌==◌, Bool, true, false, cond, List, [], ℕ, Option, ◌+◌, ◌++◌, take, drop, ap, append-nil, subst, ◌∙◌, arith}
use Rattle.std.proofs.lemmas.Bool.Decides.{nat_tests}
use Rattle.std.proofs.Math.Seq.{take-add}
use Rattle.std.proofs.KnownBytes.{Appends-trans}
use Rattle.std.specs.Io.KnownBytes.{Appends, Consumes}
use Rattle.mencius_io.specs.Streams.{HasCounted, HasFailed, one_more}

-- the written prefix of a text grows by the next part of the text
pub appends_further : (old mid new : Option (List ℕ)) (m n : ℕ) (text : List ℕ) → Appends old mid (take m text)
    → Appends mid new (take n (drop m text)) → Appends old new (take (m + n) text)
appends_further old mid new m n text h l =
    rw (take-add m n text) (Appends-trans old mid new (take m text) (take n (drop m text)) h l)

-- a write that took at least one byte did not count as a failure
pub took_some : (room : Bool) (n old new : ℕ) → new ≡ cond (room && (n == 0)) (one_more old) old → (n ≡ 0 → ⊥)
    → new ≡ old
took_some true n old new e some = grind (arith, nat_tests)
took_some false n old new e some = e

-- two counted series of calls, one after the other, are one counted series
pub counted_further : (old mid new : ℕ) → HasCounted old mid → HasCounted mid new → HasCounted old new
counted_further old mid new h l = grind arith

-- if the second of two counted series of calls failed, both series together failed
pub failed_further : (old mid new : ℕ) → HasCounted old mid → HasCounted mid new → HasFailed mid new → HasFailed old new
failed_further old mid new h l failed = grind arith

take_none : (n : ℕ) (xs : List ℕ) → n ≡ 0 → take n xs ≡ []
take_none n xs e = ap (λ (m : ℕ). take m xs) e

-- a read that returned no byte leaves the bytes that were taken as they were
pub nothing_more : (known new : Option (List ℕ)) (bytes buf : List ℕ) (n : ℕ) → n ≡ 0
    → Consumes known new (bytes ++ take n buf) → Consumes known new bytes
nothing_more known new bytes buf n e h =
    subst (Consumes known new) (ap (λ xs. bytes ++ xs) (take_none n buf e) ∙ append-nil bytes) h
