use Rattle.std.proofs.Common.{rules}
use Rattle.mencius_server.proofs.suspicions.FirstPhases.{rounds_ordered}
use Rattle.mencius_server.proofs.revocation.next_round_of.Goals as goal

pub returns-clause-round : goal.returns-clause-round
returns-clause-round c =
    search (
      rules,
      rounds_ordered c.args.members.count c.args.slot.now.trying c.args.slot.now.promised,
      rounds_ordered c.args.members.count c.args.slot.now.promised c.args.slot.now.trying,
    )
