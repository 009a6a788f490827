use Rattle.std.proofs.Common.{◌≡◌, ◌∙◌, ap}
use Rattle.std.proofs.lemmas.Result.{IfOk-weaker}
use Rattle.clap.specs.Words.{App, app_of, with_subcommand}
use Rattle.mencius_command_line.specs.CommandLine.{judge_task, run_task, with_replays}
use Rattle.mencius_command_line.proofs.line.command_line.Goals as goal

abbrev top_of : App → App → App
top_of a d = with_subcommand a d.top

pub returns : goal.returns
returns c =
    let judging : app_of c.in_ok-program-2.program ≡ top_of with_replays judge_task =
    c.in_ok-program-2.ensures judge_task c.judge_command.ensures
    ∙ ap (λ a. top_of a judge_task) c.in_ok-program.ensures in
    IfOk-weaker c.with_task-2.result _ _ (λ r h. h ∙ ap (λ a. top_of a run_task) judging)
    (c.with_task-2.ensures run_task c.run_command.ensures)
