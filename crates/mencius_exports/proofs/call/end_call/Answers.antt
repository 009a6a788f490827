use Rattle.std.proofs.Common.{refl}
use Rattle.mencius_exports.proofs.CallEnds.{written}
use Rattle.mencius_exports.proofs.call.end_call.Goals as goal

pub returns-clause-status : goal.returns-clause-status
returns-clause-status c = c.end-status.ensures.status

pub returns-clause-said : goal.returns-clause-said
returns-clause-said c = written _ _ c.if-errors-gt0-2.false c.end-status.ensures.lines.1

pub returns-clause-read : goal.returns-clause-read
returns-clause-read c = refl
