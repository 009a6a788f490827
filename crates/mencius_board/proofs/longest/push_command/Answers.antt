use Rattle.std.proofs.Common.{rules}
use Rattle.mencius_board.proofs.longest.push_command.Goals as goal

pub returns : goal.returns
returns c = search rules
