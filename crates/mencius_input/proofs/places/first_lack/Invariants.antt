use Rattle.std.proofs.Common.{◌≡◌, None, take}
use Rattle.std.specs.List.{find}
use Rattle.serde_json.specs.View.{view}
use Rattle.mencius_input.specs.FieldsOf.{whole_fields}
use Rattle.mencius_input.specs.Places.{is_lacking}
use Rattle.mencius_input.proofs.places.first_lack.Given as goal

abbrev pub invariant-loop-field : goal.invariant-loop-field
invariant-loop-field l = find (is_lacking (view l.scenario)) (take l.field-index (whole_fields l.kind)) ≡ None
