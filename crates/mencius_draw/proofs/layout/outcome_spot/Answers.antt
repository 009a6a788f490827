use Rattle.std.proofs.Common.{rules}
use Rattle.mencius_draw.proofs.layout.outcome_spot.Goals as goal

pub returns : goal.returns
returns c = search rules
