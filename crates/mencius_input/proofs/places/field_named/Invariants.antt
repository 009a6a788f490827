use Rattle.std.proofs.Common.{◌≡◌, None, take}
use Rattle.std.specs.List.{find}
use Rattle.std.specs.Str.{bytes_eq}
use Rattle.mencius_input.specs.FieldsOf.{field_name, whole_fields}
use Rattle.mencius_input.proofs.places.field_named.Given as goal

abbrev pub invariant-loop-field : goal.invariant-loop-field
invariant-loop-field l =
    find (λ field. bytes_eq l.name (field_name field)) (take l.field-index (whole_fields l.fn.kind)) ≡ None
