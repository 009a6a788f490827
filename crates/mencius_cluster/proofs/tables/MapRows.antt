-- Lookups and writes in the map of submitted commands agree with those in the list of rows.
use Rattle.std.proofs.Common.{◌≡◌, ℕ, zero, suc, List, [], ◌∷◌, Option, Some, None, Result, Ok, Err, cond, map, option_map, slice_get, refl, sym, ap, ◌∙◌}
use Rattle.std.proofs.lemmas.Option.{slice_get-map}
use Rattle.std.specs.Map.{lookup}
use Rattle.std.specs.Result.{OnOk}
use Rattle.indexmap.specs.IndexMap.{set_value_at}
use Rattle.mencius_base.specs.Command.{is_same_id}
use Rattle.mencius_base.specs.declared.command.CommandId.{CommandId}
use Rattle.mencius_cluster.specs.declared.salt.Identity.{Identity}
use Rattle.mencius_cluster.specs.declared.submission.Submission.{Submission}
use Rattle.mencius_cluster.specs.Submissions.{Row, row_of}

pub row_by_identity : (id : CommandId) (es : List (Identity × Submission))
    → lookup (λ (x : Identity). is_same_id id x.id) es ≡ lookup (is_same_id id) (map row_of es)
row_by_identity id [] = refl
row_by_identity id (e ∷ es) = ap (λ o. cond (is_same_id id e.0.id) (Some e.1) o) (row_by_identity id es)

submission_of_row : (o : Option (Identity × Submission))
    → option_map (λ (e : Identity × Submission). e.1) o ≡ option_map (λ (row : Row). row.1) (option_map row_of o)
submission_of_row None = refl
submission_of_row (Some e) = refl

pub row_by_ticket : (es : List (Identity × Submission)) (t : ℕ)
    → option_map (λ (e : Identity × Submission). e.1) (slice_get es t)
    ≡ option_map (λ (row : Row). row.1) (slice_get (map row_of es) t)
row_by_ticket es t =
    submission_of_row (slice_get es t) ∙ ap (option_map (λ (row : Row). row.1)) (sym (slice_get-map row_of es t))

-- storing another submission at a ticket has the same effect on the map and on the rows
pub rows_after : (es : List (Identity × Submission)) (t : ℕ) (x : Submission)
    → map row_of (set_value_at es t x) ≡ set_value_at (map row_of es) t x
rows_after [] t x = refl
rows_after (e ∷ es) zero x = refl
rows_after (e ∷ es) (suc t) x = ap (λ rows. row_of e ∷ rows) (rows_after es t x)

pub both_ok : {T E P Q R : Type 0} (r : Result T E) → (P → Q → R) → OnOk r P → OnOk r Q → OnOk r R
both_ok (Ok x) each good also = each good also
both_ok (Err e) each good also = good
