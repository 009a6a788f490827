use Rattle.std.proofs.Common.{◌≡◌, ◌∙◌, ap, ap₂}
use Rattle.std.proofs.lemmas.Result.{IfOk-weaker}
use Rattle.clap.specs.Words.{App, app_of, with_subcommand}
use Rattle.mencius_command_line.specs.CommandLine.{replay_task, without_tasks}
use Rattle.mencius_command_line.specs.TraceOptions.{trace_task}
use Rattle.mencius_command_line.specs.DrawOptions.{draw_task}
use Rattle.mencius_command_line.proofs.line.with_replays.Goals as goal

abbrev top_of : App → App → App
top_of a d = with_subcommand a d.top

pub returns : goal.returns
returns c =
    let first : app_of c.in_ok-program.program ≡ top_of without_tasks replay_task =
    c.in_ok-program.ensures replay_task c.replay_command.ensures
    ∙ ap (λ a. top_of a replay_task) c.without_tasks.ensures in
    let second : app_of c.in_ok-program-2.program ≡ top_of (top_of without_tasks replay_task) trace_task =
    c.in_ok-program-2.ensures trace_task c.trace_command.ensures
    ∙ ap (λ a. top_of a trace_task) first in
    let third : app_of c.in_ok-program-3.program ≡ top_of (top_of (top_of without_tasks replay_task) trace_task) draw_task =
    c.in_ok-program-3.ensures draw_task c.draw_command.ensures
    ∙ ap (λ a. top_of a draw_task) second in
    IfOk-weaker c.subcommand.result _ _ (λ r h. h.shape c.new_task.ensures.local
    ∙ ap₂ top_of third c.new_task.ensures.app) c.subcommand.ensures
