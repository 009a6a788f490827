use Rattle.std.proofs.Common.{rules}
use Rattle.mencius_command_line.proofs.draw_options.scheme_by.Goals as goal

pub returns-in-true-false : goal.returns-in-true-false
returns-in-true-false c = search rules
