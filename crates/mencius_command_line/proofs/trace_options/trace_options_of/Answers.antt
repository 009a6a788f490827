use Rattle.std.proofs.Common.{rules}
use Rattle.mencius_command_line.proofs.trace_options.trace_options_of.Goals as goal

pub returns-clause-options : goal.returns-clause-options
returns-clause-options c = search rules

pub returns-clause-faults : goal.returns-clause-faults
returns-clause-faults c = search rules
