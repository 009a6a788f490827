use Rattle.std.proofs.Common.{◌≤◌, arith}
use Rattle.mencius_base.specs.Limits.{most_servers}
use Rattle.mencius_trace.proofs.SettledMessages.{of_servers, settled_all}
use Rattle.mencius_trace.proofs.unheard.settled.Goals as goal

pub settle-requires : goal.settle-requires
settle-requires c =
    let few : c.args.cluster.now.members.count ≤ most_servers =
    omega (arith, c.servers-within_limit.ensures.count, c.servers-within_limit.ensures.few) in
    of_servers c.args.cluster.now.members c.args.cluster.now.journal _ few c.replays.ensures
    _ c.journal-entry-items.ensures c.loop-entry.entry-index _ c.loop-entry-test.true

pub returns : goal.returns
returns c k p =
    settled_all c.args.cluster.now.members c.args.cluster.now.journal _ c.replays.ensures k p _ c.loop-entry.entry-index
    _ c.journal-entry-items.ensures c.loop-entry-test.false (c.loop-entry.invariant k p)
