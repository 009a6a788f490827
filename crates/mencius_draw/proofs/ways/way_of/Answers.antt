use Rattle.std.proofs.Common.{rules}
use Rattle.mencius_draw.proofs.ways.way_of.Goals as goal

pub returns-in-Event-default-Lose-default-false : goal.returns-in-Event-default-Lose-default-false
returns-in-Event-default-Lose-default-false c = search rules
