use Rattle.mencius_model.proofs.reached.WithinLimits.{counts_within, learned_within, messages_addressed, messages_within}
use Rattle.mencius_model.proofs.laws.limits.Goals as goal

pub returns-clause-counts : goal.returns-clause-counts
returns-clause-counts c = counts_within

pub returns-clause-messages : goal.returns-clause-messages
returns-clause-messages c = messages_within

pub returns-clause-learned : goal.returns-clause-learned
returns-clause-learned c = learned_within

pub returns-clause-addressed : goal.returns-clause-addressed
returns-clause-addressed c = messages_addressed
