use Rattle.std.proofs.Common.{◌≡◌, map, take}
use Rattle.mencius_input.specs.FieldsOf.{default_of, whole_fields}
use Rattle.mencius_input.proofs.fields.defaults.Given as goal

abbrev pub invariant-loop-field : goal.invariant-loop-field
invariant-loop-field l = l.wholes.items ≡ map default_of (take l.field-index (whole_fields l.fn.kind))
