use Rattle.std.proofs.Common.{rules}
use Rattle.mencius_server.proofs.Server.waiting_at.Goals as goal

pub returns-then-not-is_lost : goal.returns-then-not-is_lost
returns-then-not-is_lost c = search rules

pub returns : goal.returns
returns c = search rules
