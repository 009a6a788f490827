use Rattle.std.proofs.Common.{rules}
use Rattle.mencius_base.proofs.outbox.Outbox.reserve.Goals as goal

pub returns-then-extra-self-clause-refusal : goal.returns-then-extra-self-clause-refusal
returns-then-extra-self-clause-refusal c = search rules

pub returns-in_err-reserve-clause-refusal : goal.returns-in_err-reserve-clause-refusal
returns-in_err-reserve-clause-refusal c = search rules

pub returns-clause-room : goal.returns-clause-room
returns-clause-room c = search rules

pub returns-clause-refusal : goal.returns-clause-refusal
returns-clause-refusal c = search rules
