use Rattle.std.proofs.Common.{rules}
use Rattle.mencius_draw.proofs.layout.is_drawn.Goals as goal

pub returns-then-options-place : goal.returns-then-options-place
returns-then-options-place c = search rules
