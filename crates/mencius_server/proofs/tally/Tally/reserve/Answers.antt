use Rattle.std.proofs.Common.{rules}
use Rattle.mencius_server.proofs.tally.Tally.reserve.Goals as goal

pub returns-clause-refusal : goal.returns-clause-refusal
returns-clause-refusal c = search rules

pub returns-clause-rounds : goal.returns-clause-rounds
returns-clause-rounds c = search rules
