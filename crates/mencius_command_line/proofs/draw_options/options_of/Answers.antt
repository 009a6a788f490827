use Rattle.std.proofs.Common.{rules}
use Rattle.mencius_command_line.proofs.draw_options.options_of.Goals as goal

pub returns-clause-options : goal.returns-clause-options
returns-clause-options c = search rules

pub returns-clause-faults : goal.returns-clause-faults
returns-clause-faults c = search rules
