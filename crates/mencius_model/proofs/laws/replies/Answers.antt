use Rattle.mencius_model.proofs.Theorems as theorem
use Rattle.mencius_model.proofs.laws.replies.Goals as goal

pub returns-clause-unknown : goal.returns-clause-unknown
returns-clause-unknown c = theorem.unknown

pub returns-clause-given : goal.returns-clause-given
returns-clause-given c = theorem.replied

pub returns-clause-pending : goal.returns-clause-pending
returns-clause-pending c = theorem.awaited

pub returns-clause-once : goal.returns-clause-once
returns-clause-once c = theorem.one_reply
