use Rattle.std.proofs.Common.{rules}
use Rattle.mencius_draw.proofs.ways.beside_mark.Goals as goal

pub returns : goal.returns
returns c = search rules
