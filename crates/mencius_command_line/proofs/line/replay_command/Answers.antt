use Rattle.mencius_command_line.proofs.line.replay_command.Goals as goal

pub returns : goal.returns
returns c = c.with_flag.ensures _ c.new_task.ensures
