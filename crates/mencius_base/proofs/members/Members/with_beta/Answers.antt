use Rattle.std.proofs.Common.{rules}
use Rattle.mencius_base.proofs.members.Members.with_beta.Goals as goal

pub returns-then-n-lt1-clause-valid : goal.returns-then-n-lt1-clause-valid
returns-then-n-lt1-clause-valid c = search rules
