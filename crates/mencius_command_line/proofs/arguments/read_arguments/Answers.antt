use Rattle.std.proofs.Common.{◌≡◌, ◌∙◌, ap, map, string_bytes, rules, subst}
use Rattle.std.proofs.lemmas.Result.{IfOk-weaker}
use Rattle.clap.specs.Words.{FailsBy}
use Rattle.mencius_command_line.specs.CommandLine.{bytes_of, faults, line_of, task_in}
use Rattle.mencius_command_line.proofs.ArgumentTexts.{texts_kept}
use Rattle.mencius_command_line.proofs.arguments.read_arguments.Goals as goal

pub returns-clause-task : goal.returns-clause-task
returns-clause-task c =
    let same : map string_bytes c.as_slice.result.now ≡ line_of (bytes_of c.args.arguments.now) = search rules
    ∙ ap line_of (texts_kept c.args.arguments.now c.requires) in
    IfOk-weaker c.read_command_line.result _ _ (λ task h. h ∙ ap task_in same) c.read_command_line.ensures.task

pub returns-clause-faults : goal.returns-clause-faults
returns-clause-faults c =
    let same : map string_bytes c.as_slice.result.now ≡ line_of (bytes_of c.args.arguments.now) = search rules
    ∙ ap line_of (texts_kept c.args.arguments.now c.requires) in
    subst (λ ws. FailsBy (faults ws) c.read_command_line.result) same c.read_command_line.ensures.faults
