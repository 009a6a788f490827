use Rattle.std.proofs.Common.{rules}
use Rattle.mencius_command_line.proofs.line.is_key.Goals as goal

pub returns-then-not-is_empty : goal.returns-then-not-is_empty
returns-then-not-is_empty c = search rules
