use Rattle.mencius_server.proofs.stored.StoredInstances.{new_sound}
use Rattle.mencius_server.proofs.tallies.InstanceTallies.{uncounted}
use Rattle.mencius_server.proofs.instances.Instances.new.Goals as goal

pub invariant_of-result : goal.invariant_of-result
invariant_of-result c =
    uncounted _ _ _ _ _ _
    (new_sound c.args.members c.new-2.result c.in_ok-skipped.skipped.items c.new-2.ensures
    c.in_ok-skipped.ensures.none c.in_ok-skipped.ensures.count) c.new-3.ensures c.in_ok-learned_intervals.ensures
