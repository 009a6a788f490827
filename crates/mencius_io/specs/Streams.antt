-- The failed calls that a reader or a writer counts, and the effects of reading and writing on their bytes.
use Rattle.std.specs.Prelude.{◌≡◌, ◌⊎◌, ℕ, ◌+◌, ◌-◌, ◌^◌, ◌<◌, ◌≤◌, ◌==◌, ◌&&◌, List, length, take, min, Option, Result, MatchResult, if◌then◌else◌, nat_lt}
use Rattle.std.specs.Io.KnownBytes.{Appends, Consumes}

-- the knowledge about a reader or a writer. `bytes` are the bytes that are still to be read, or that were written so
-- far, if they are known. `failures` is the number of failed calls
pub record StreamState : Type 0 where
  pub bytes : Option (List ℕ)
  pub failures : ℕ

-- a reader or a writer of `std`, and the number of its failed calls
pub record WithFailures (T : Type 0) : Type 0 where
  pub inner : T
  pub failures : ℕ

-- the greatest count of failed calls. A count that reaches it no longer rises
abbrev pub most_failures : ℕ
most_failures = 2 ^ 64 - 1

-- the count after another failure, which is never above the greatest count
abbrev pub one_more : ℕ → ℕ
one_more count = min (count + 1) most_failures

-- a read that returned an error counts as a failure. No other read does
abbrev pub CountsRead : {E : Type 0} → ℕ → ℕ → Result ℕ E → Type 0
CountsRead old new r = MatchResult r (λ _. new ≡ old) (λ _. new ≡ one_more old)

-- a write that returned an error counts as a failure, and so does a write that took none of at least one byte. No other
-- write does
abbrev pub CountsWrite : {E : Type 0} → ℕ → ℕ → Result ℕ E → List ℕ → Type 0
CountsWrite old new r buf = MatchResult r
    (λ n. new ≡ (if nat_lt 0 (length buf) && (n == 0) then one_more old else old))
    (λ _. new ≡ one_more old)

-- the count rose, or it is at its greatest value
abbrev pub HasFailed : ℕ → ℕ → Type 0
HasFailed old new = (old < new) ⊎ (new ≡ most_failures)

-- the count stayed, or `HasFailed` holds and the count is not above its greatest value
abbrev pub HasCounted : ℕ → ℕ → Type 0
HasCounted old new = (new ≡ old) ⊎ (HasFailed old new × (new ≤ most_failures))

-- the greatest number of failed calls. A task makes 1,000 interrupted calls again, and another failure ends the work
abbrev pub most_failed_calls : ℕ
most_failed_calls = 1001

-- the greatest length of a scenario, in bytes
abbrev pub most_bytes : ℕ
most_bytes = 16777216

-- at most this number of bytes was taken from the bytes that were left
abbrev pub TakesAtMost : ℕ → Option (List ℕ) → Option (List ℕ) → Type 0
TakesAtMost most old new = (bytes : List ℕ) × (length bytes ≤ most) × Consumes old new bytes

-- a prefix of the text was written, and nothing more
abbrev pub WritesFront : Option (List ℕ) → Option (List ℕ) → List ℕ → Type 0
WritesFront old new text = (n : ℕ) × (n ≤ length text) × Appends old new (take n text)
