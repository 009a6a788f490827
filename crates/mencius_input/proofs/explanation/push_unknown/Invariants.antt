use Rattle.std.proofs.Common.{◌≡◌, ◌++◌, drop, string_bytes, take}
use Rattle.mencius_input.specs.FieldsOf.{whole_fields}
use Rattle.mencius_input.specs.Explanations.{further_names}
use Rattle.mencius_input.proofs.explanation.push_unknown.Given as goal

abbrev pub invariant-loop-field : goal.invariant-loop-field
invariant-loop-field l =
    string_bytes l.words
    ≡ string_bytes l.initial.words ++ further_names (take l.field-index (drop 1 (whole_fields l.kind)))
