use Rattle.std.proofs.Common.{rules, sym}
use Rattle.mencius_input.proofs.objects.NamedFields.{list_set, other_set, whole_set}
use Rattle.mencius_input.proofs.fields.read_field.Goals as goal

pub returns-in_ok-whole-in-Some-clause-ok : goal.returns-in_ok-whole-in-Some-clause-ok
returns-in_ok-whole-in-Some-clause-ok c =
    let done = c.in_ok-whole-in-Some.ensures.ok in (
      done.0,
      done.1,
      λ ms h. whole_set c.args.kind c.args.fields.now ms c.args.name.now done.0 h c.in-Some.index _
          (sym c.in-Some.ensures) (search rules),
    )

pub returns-in_ok-kept-in-None-clause-ok : goal.returns-in_ok-kept-in-None-clause-ok
returns-in_ok-kept-in-None-clause-ok c =
    let done = c.in_ok-kept-in-None.ensures.ok in (
      done.0,
      done.1,
      λ ms h. list_set c.args.kind c.args.fields.now ms c.args.name.now done.0 h _
          (sym c.in-None.ensures) (search rules) done.2,
    )

pub returns-in_ok-pass-in-None-clause-ok : goal.returns-in_ok-pass-in-None-clause-ok
returns-in_ok-pass-in-None-clause-ok c =
    let done = c.in_ok-pass-in-None.ensures.ok in (
      done.0,
      done.1,
      λ ms h. other_set c.args.kind c.args.fields.now ms c.args.name.now done.0 h
          (sym c.in-None.ensures) (search rules),
    )
