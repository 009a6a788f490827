-- Two texts that are written one after the other count as one text, and a lookup finds the text at its key.
use Rattle.mencius_app.proofs.Words.{◌≡◌, ℕ, List, ◌++◌, length, Option, refl, ap, sym, ◌∙◌, arith, IsPrefix, Command, ClusterState, trace_of, longest_commands, value_at, ◌⊎◌, inl, inr, ◌+◌, ◌^◌, ◌<◌, ◌≤◌, take, subst, Result, Ok, Err, OnErr, OnOk, Appends, length-append, HasFailed, StreamState, WritesFront, most_failures}
use Rattle.mencius_board.specs.Boards.{longest_of}
use Rattle.mencius_app.specs.Run.{text_at}
use Rattle.std.proofs.KnownBytes.{Appends-trans}
use Rattle.std.proofs.Math.Seq.{take-append-add}
use Rattle.mencius_app.specs.Calls.{WritesOrFails}

-- a lookup in the longest history of a board finds the text that the commands of this history leave at the key
pub found_at : (x : ClusterState) (key : List ℕ) (found : Option (List ℕ)) → found ≡ value_at key (longest_of x)
    → found ≡ text_at x key
unfolding longest_of
found_at x key found is = is

-- a prefix of the second text, after the whole first text, is a prefix of both texts together
pub front_behind : (old mid new : Option (List ℕ)) (xs ys : List ℕ) → Appends old mid xs → WritesFront mid new ys
    → WritesFront old new (xs ++ ys)
front_behind old mid new xs ys h (n, few, l) = (
  length xs + n,
  omega (arith, few, length-append xs ys),
  subst (Appends old new) (sym (take-append-add xs ys n)) (Appends-trans old mid new xs (take n ys) h l),
)

-- a failure still counts after calls that left the count of failures or raised it
pub failed_behind : (old mid new : ℕ) → (old ≤ mid) ⊎ (mid ≡ most_failures) → new < 2 ^ 64 → HasFailed mid new
    → HasFailed old new
failed_behind old mid new (inl more) small (inl rose) = inl (omega arith)
failed_behind old mid new (inr most) small (inl rose) = absurd (omega (arith, most, small, rose))
failed_behind old mid new h small (inr most) = inr most

pub on_err_also : {T F : Type 0} (r : Result T F) (P Q : Type 0) → (P → Q) → OnErr r P → OnErr r Q
on_err_also (Ok x) P Q also h = h
on_err_also (Err e) P Q also h = also h

-- after a call that writes a text, the whole text is written, or the writer failed after a prefix of it
pub write_result : {T F : Type 0} (r : Result T F) (old new : StreamState) (text shown : List ℕ) → text ≡ shown
    → OnOk r (Appends old.bytes new.bytes text) → WritesFront old.bytes new.bytes text
    → OnErr r (HasFailed old.failures new.failures) → WritesOrFails old new shown
write_result (Ok x) old new text shown same whole front failed = subst (WritesOrFails old new) same (front, inl whole)
write_result (Err e) old new text shown same whole front failed = subst (WritesOrFails old new) same (front, inr failed)
