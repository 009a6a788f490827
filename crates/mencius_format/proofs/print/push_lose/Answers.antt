use Rattle.std.proofs.Common.{rules}
use Rattle.mencius_format.proofs.print.push_lose.Goals as goal

pub returns : goal.returns
returns c = search rules
