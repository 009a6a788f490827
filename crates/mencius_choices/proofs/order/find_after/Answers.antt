use Rattle.std.proofs.Common.{rules}
use Rattle.mencius_choices.proofs.order.find_after.Goals as goal

pub returns-in-Some : goal.returns-in-Some
returns-in-Some c = search rules

pub returns : goal.returns
returns c = search rules
