use Rattle.std.proofs.Common.{◌≡◌, false, take}
use Rattle.std.specs.List.{list_any}
use Rattle.serde_json.specs.View.{view}
use Rattle.mencius_input.specs.FieldsOf.{run_fields}
use Rattle.mencius_input.specs.Kinds.{has_field}
use Rattle.mencius_input.proofs.kind.has_run_field.Given as goal

abbrev pub invariant-loop-field : goal.invariant-loop-field
invariant-loop-field l = list_any (λ field. has_field field (view l.value)) (take l.field-index run_fields) ≡ false
