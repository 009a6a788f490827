use Rattle.std.proofs.Common.{◌≡◌, ◌∙◌, Some, ap, subst, sym}
use Rattle.std.proofs.lemmas.Result.{IfErr-weaker, IfOk-weaker}
use Rattle.clap.specs.Words.{HasKind, found_of, rows_of, subcommand_rows_of}
use Rattle.mencius_command_line.specs.CommandLine.{TaskState, task_by_name, value_faults}
use Rattle.mencius_command_line.proofs.CommandLines.{task_found}
use Rattle.mencius_command_line.proofs.line.task_of.Goals as goal

pub returns-in-Some-clause-task : goal.returns-in-Some-clause-task
returns-in-Some-clause-task c =
    let rows = rows_of (found_of c.in-Some.options.now) in
    let there : subcommand_rows_of c.args.matches.now ≡ Some (c.in-Some.name.now, rows) =
    task_found _ c.in-Some.name.now rows c.in-Some.ensures.name c.in-Some.ensures.rows in
    IfOk-weaker c.task_named.result _ _ (λ task h. h ∙ ap task_by_name (sym there)) c.task_named.ensures.task

pub returns-in-Some-clause-faults : goal.returns-in-Some-clause-faults
returns-in-Some-clause-faults c =
    let rows = rows_of (found_of c.in-Some.options.now) in
    let there : subcommand_rows_of c.args.matches.now ≡ Some (c.in-Some.name.now, rows) =
    task_found _ c.in-Some.name.now rows c.in-Some.ensures.name c.in-Some.ensures.rows in
    IfErr-weaker c.task_named.result _ _ (λ e h. subst (λ (a : TaskState). HasKind (value_faults a) e)
    (ap task_by_name (sym there)) h) c.task_named.ensures.faults
