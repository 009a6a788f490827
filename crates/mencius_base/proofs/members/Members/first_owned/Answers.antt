use Rattle.std.proofs.Common.{rules}
use Rattle.mencius_base.proofs.members.Members.first_owned.Goals as goal

pub returns-clause-place : goal.returns-clause-place
returns-clause-place c = search rules

pub returns-clause-near : goal.returns-clause-near
returns-clause-near c = search rules
