use Rattle.std.proofs.Common.{◌≡◌, Some, inr, refl, arith}
use Rattle.json.specs.Json.{read_key}
use Rattle.json.proofs.Grammar.{read_key-shorter}
use Rattle.serde_json.specs.Data.{no_members}
use Rattle.mencius_input.proofs.objects.NamedFields.{no_fields}
use Rattle.mencius_json.proofs.NextValues.{members_close, members_further, members_no_name, members_start, members_stop}
use Rattle.mencius_input.proofs.Stops.{stops_at, stops_whole}
use Rattle.mencius_input.proofs.fields.next_fields.Goals as goal

pub fields-init : goal.fields-init
fields-init c = (no_members, members_start _ _, no_fields _ _ c.in_ok-wholes.ensures)

pub returns-in_err-name-clause-err : goal.returns-in_err-name-clause-err
returns-in_err-name-clause-err c =
    let l = c.fields in
    stops_at _ _ _ c.from_residual-in_err-name.ensures.1
    (inr (refl, members_no_name _ _ l.reader l.invariant.0 l.invariant.1 c.in_err-name.ensures.value))

pub fields-preserved : goal.fields-preserved
fields-preserved c =
    let l = c.fields in
    let key = c.in-Some.name.now in
    let s = c.next_key.new.self in
    let named : read_key l.reader ≡ Some (Some key, s) = grind arith in
    let done = c.in_ok-read_field.ensures in (
      _,
      members_further _ _ l.reader l.invariant.0 l.invariant.1 key s _ done.ok.0 named
          (read_key-shorter l.reader (Some key) s named) done.shorter done.ok.1,
      done.ok.2 l.invariant.0 l.invariant.2,
    )

pub returns-in_err-read_field-clause-err : goal.returns-in_err-read_field-clause-err
returns-in_err-read_field-clause-err c =
    let l = c.fields in
    let key = c.in-Some.name.now in
    let s = c.next_key.new.self in
    let named : read_key l.reader ≡ Some (Some key, s) = grind arith in
    stops_at _ _ _ c.from_residual-in_err-read_field.ensures.1
    (stops_whole _ _ _ (λ none. members_stop _ _ l.reader l.invariant.0 l.invariant.1 key s named none)
    c.in_err-read_field.ensures.err)

pub returns-clause-ok : goal.returns-clause-ok
returns-clause-ok c =
    let l = c.fields in (
      l.invariant.0,
      members_close _ _ l.reader l.invariant.0 l.invariant.1 c.next_key.new.self (grind arith),
      l.invariant.2,
    )
