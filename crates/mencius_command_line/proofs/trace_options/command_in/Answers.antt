use Rattle.std.proofs.Common.{◌∙◌, Option, Result, Some, ap, codes, inl, inr, subst, sym}
use Rattle.clap.specs.Words.{HasKind, found_of}
use Rattle.clap.proofs.WalkLemmas.{first_value-rows}
use Rattle.mencius_base.specs.declared.command.CommandId.{CommandId}
use Rattle.mencius_io.specs.declared.fault.IoFault.{IoFault}
use Rattle.mencius_format.specs.ValuesOrFaults.{map_ok}
use Rattle.mencius_command_line.specs.TraceOptions.{command_in, word_faults}
use Rattle.mencius_command_line.proofs.trace_options.command_in.Goals as goal

pub returns-in-Ok-clause-command : goal.returns-in-Ok-clause-command
returns-in-Ok-clause-command c =
    ap command_in (sym (c.in-Some.ensures ∙ first_value-rows (found_of c.args.matches.now) (codes "command")))
    ∙ ap (map_ok Some) (sym c.in-Ok.ensures)

pub returns-in-Ok-clause-faults : goal.returns-in-Ok-clause-faults
returns-in-Ok-clause-faults c =
    ap word_faults (ap command_in (sym (c.in-Some.ensures ∙ first_value-rows (found_of c.args.matches.now) (codes "command")))
    ∙ ap (map_ok Some) (sym c.in-Ok.ensures))

pub returns-in_ok-word_error-in-Err-clause-faults : goal.returns-in_ok-word_error-in-Err-clause-faults
returns-in_ok-word_error-in-Err-clause-faults c =
    let there = ap command_in (c.in-Some.ensures ∙ first_value-rows (found_of c.args.matches.now) (codes "command")) in
    subst (λ (r : Result (Option CommandId) IoFault). HasKind (word_faults r) c.in_ok-word_error-in-Err.field-0)
    (ap (map_ok Some) c.in-Err.ensures ∙ there) (inr (inl c.in_ok-word_error-in-Err.ensures))

pub returns-in-None-clause-command : goal.returns-in-None-clause-command
returns-in-None-clause-command c =
    ap command_in (sym (c.in-None.ensures ∙ first_value-rows (found_of c.args.matches.now) (codes "command")))

pub returns-in-None-clause-faults : goal.returns-in-None-clause-faults
returns-in-None-clause-faults c =
    ap word_faults (ap command_in (sym (c.in-None.ensures ∙ first_value-rows (found_of c.args.matches.now) (codes "command"))))
