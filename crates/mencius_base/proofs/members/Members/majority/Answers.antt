use Rattle.std.proofs.Common.{rules}
use Rattle.mencius_base.proofs.members.Members.majority.Goals as goal

pub returns : goal.returns
returns c = search rules
