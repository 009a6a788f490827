use Rattle.std.proofs.Common.{rules}
use Rattle.mencius_base.proofs.outbox.Outbox.push.Goals as goal

pub returns-clause-messages : goal.returns-clause-messages
returns-clause-messages c = search rules
