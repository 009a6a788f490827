use Rattle.std.proofs.Common.{◌∙◌, ℕ, Result, ap, codes, inl, inr, subst, sym}
use Rattle.clap.specs.Words.{HasKind, found_of}
use Rattle.clap.proofs.WalkLemmas.{first_value-rows}
use Rattle.mencius_io.specs.declared.fault.IoFault.{IoFault}
use Rattle.mencius_command_line.specs.ClientOptions.{most_faults, most_in}
use Rattle.mencius_command_line.proofs.client_options.most_in.Goals as goal

pub returns-in-Ok-clause-most : goal.returns-in-Ok-clause-most
returns-in-Ok-clause-most c =
    ap most_in (sym (c.in-Some.ensures ∙ first_value-rows (found_of c.args.matches.now) (codes "most")))
    ∙ sym c.in-Ok.ensures

pub returns-in-Ok-clause-faults : goal.returns-in-Ok-clause-faults
returns-in-Ok-clause-faults c =
    ap most_faults (ap most_in (sym (c.in-Some.ensures
    ∙ first_value-rows (found_of c.args.matches.now) (codes "most"))) ∙ sym c.in-Ok.ensures)

pub returns-in_ok-most_error-in-Err-clause-faults : goal.returns-in_ok-most_error-in-Err-clause-faults
returns-in_ok-most_error-in-Err-clause-faults c =
    let there = ap most_in (c.in-Some.ensures
    ∙ first_value-rows (found_of c.args.matches.now) (codes "most")) in
    subst (λ (r : Result ℕ IoFault). HasKind (most_faults r) c.in_ok-most_error-in-Err.field-0)
    (c.in-Err.ensures ∙ there) (inr (inl c.in_ok-most_error-in-Err.ensures))

pub returns-in-None-clause-most : goal.returns-in-None-clause-most
returns-in-None-clause-most c =
    ap most_in (sym (c.in-None.ensures ∙ first_value-rows (found_of c.args.matches.now) (codes "most")))

pub returns-in-None-clause-faults : goal.returns-in-None-clause-faults
returns-in-None-clause-faults c =
    ap most_faults (ap most_in (sym (c.in-None.ensures
    ∙ first_value-rows (found_of c.args.matches.now) (codes "most"))))
