use Rattle.mencius_command_line.proofs.line.judge_command.Goals as goal

pub returns : goal.returns
returns c =
    c.with_flag-4.ensures _ (c.in_ok-task-4.ensures _ (c.in_ok-task-3.ensures _ (c.in_ok-task-2.ensures _ (c.in_ok-task.ensures _ c.new_task-task.ensures))))
