use Rattle.std.proofs.Common.{rules}
use Rattle.mencius_input.proofs.newest.in_version.Goals as goal

pub returns-then-not-may_stand_in : goal.returns-then-not-may_stand_in
returns-then-not-may_stand_in g c = search rules

pub returns : goal.returns
returns g c = search rules
