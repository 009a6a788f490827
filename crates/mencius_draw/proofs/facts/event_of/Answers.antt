use Rattle.std.proofs.Common.{rules}
use Rattle.mencius_draw.proofs.facts.event_of.Goals as goal

pub returns-in-Some : goal.returns-in-Some
returns-in-Some c = search rules
