use Rattle.std.proofs.Common.{rules}
use Rattle.mencius_draw.proofs.ways.arrow_of.Goals as goal

pub returns : goal.returns
returns c = search rules
