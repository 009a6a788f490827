-- A text that grew by several pieces, one after the other.
use Rattle.std.proofs.Common.{◌≡◌, ◌++◌, ◌∙◌, ℕ, List, Result, Ok, Err, OnOk, ap, append_assoc}
use Rattle.std.specs.Prelude.{if◌then◌else◌}
use Rattle.std.specs.Result.{is_ok}
use Rattle.std.proofs.lemmas.Result.{on_ok_weaker}

-- a text that grew by a piece and then by the rest grew by both together
pub with_piece : {T E : Type 0} (r : Result T E) (old piece now rest new : List ℕ) → now ≡ old ++ piece
    → OnOk r (new ≡ now ++ rest) → OnOk r (new ≡ old ++ (piece ++ rest))
with_piece r old piece now rest new e h =
    on_ok_weaker r (λ f. f ∙ ap (λ xs. xs ++ rest) e ∙ append_assoc old piece rest) h

-- the last call appended the piece, unless it failed
pub last_piece : {T E : Type 0} (r : Result T E) (old piece new : List ℕ)
    → new ≡ (if is_ok r then old ++ piece else old) → OnOk r (new ≡ old ++ piece)
last_piece (Ok x) old piece new h = h
last_piece (Err e) old piece new h = tt
