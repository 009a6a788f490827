use Rattle.std.proofs.Common.{rules}
use Rattle.mencius_input.proofs.places.first_lack.Goals as goal

pub returns-then-is_lacking-2 : goal.returns-then-is_lacking-2
returns-then-is_lacking-2 c = search rules

pub returns : goal.returns
returns c = search rules
