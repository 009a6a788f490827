use Rattle.std.proofs.Common.{rules}
use Rattle.mencius_server.proofs.Server.push_own_skip.Goals as goal

pub returns-clause-pushed : goal.returns-clause-pushed
returns-clause-pushed c = record {
  messages = search rules;
  room = search rules;
  limit = search rules;
}

pub returns-clause-after : goal.returns-clause-after
returns-clause-after c = search rules
