use Rattle.std.proofs.Common.{◌∙◌, ℕ, Result, ap, inl, inr, subst, sym}
use Rattle.clap.specs.Words.{HasKind, found_of}
use Rattle.clap.proofs.WalkLemmas.{first_value-rows}
use Rattle.mencius_io.specs.declared.fault.IoFault.{IoFault}
use Rattle.mencius_command_line.specs.DrawOptions.{place_faults, place_in}
use Rattle.mencius_command_line.proofs.draw_options.place_in.Goals as goal

pub returns-in-Ok-clause-place : goal.returns-in-Ok-clause-place
returns-in-Ok-clause-place c =
    ap (place_in c.args.other) (sym (c.in-Some.ensures ∙ first_value-rows (found_of c.args.matches.now) c.args.name.now))
    ∙ sym c.in-Ok.ensures

pub returns-in-Ok-clause-faults : goal.returns-in-Ok-clause-faults
returns-in-Ok-clause-faults c =
    ap place_faults (ap (place_in c.args.other) (sym (c.in-Some.ensures
    ∙ first_value-rows (found_of c.args.matches.now) c.args.name.now)) ∙ sym c.in-Ok.ensures)

pub returns-in_ok-place_error-in-Err-clause-faults : goal.returns-in_ok-place_error-in-Err-clause-faults
returns-in_ok-place_error-in-Err-clause-faults c =
    let there = ap (place_in c.args.other) (c.in-Some.ensures
    ∙ first_value-rows (found_of c.args.matches.now) c.args.name.now) in
    subst (λ (r : Result ℕ IoFault). HasKind (place_faults r) c.in_ok-place_error-in-Err.field-0)
    (c.in-Err.ensures ∙ there) (inr (inl c.in_ok-place_error-in-Err.ensures))

pub returns-in-None-clause-place : goal.returns-in-None-clause-place
returns-in-None-clause-place c =
    ap (place_in c.args.other) (sym (c.in-None.ensures ∙ first_value-rows (found_of c.args.matches.now) c.args.name.now))

pub returns-in-None-clause-faults : goal.returns-in-None-clause-faults
returns-in-None-clause-faults c =
    ap place_faults (ap (place_in c.args.other) (sym (c.in-None.ensures
    ∙ first_value-rows (found_of c.args.matches.now) c.args.name.now)))
