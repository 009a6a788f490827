use Rattle.std.proofs.Common.{rules}
use Rattle.mencius_io.proofs.read.read_some.Goals as goal

pub returns-then-not-spend_retry-clause-bytes : goal.returns-then-not-spend_retry-clause-bytes
returns-then-not-spend_retry-clause-bytes g c = search rules

pub returns-then-not-spend_retry-clause-retried : goal.returns-then-not-spend_retry-clause-retried
returns-then-not-spend_retry-clause-retried g c = search rules
