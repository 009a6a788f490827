use Rattle.std.proofs.Common.{sym}
use Rattle.mencius_server.proofs.suspicions.SuspicionBySlots.{lacking_intervals, open_stored_shows, open_stored_slot, open_stored_sound}
use Rattle.mencius_server.proofs.tallies.OneTally.{alike_same}
use Rattle.mencius_server.proofs.tallies.InstanceTallies.{counts_kept, unchanged}
use Rattle.mencius_server.proofs.instances.Instances.store_open.Goals as goal

pub store_all-requires-clause-learned_intervals : goal.store_all-requires-clause-learned_intervals
store_all-requires-clause-learned_intervals c =
    lacking_intervals _ _ _ _ _ c.self.view_is c.self.invariant.sound c.args.interval.now c.requires.members
    c.requires.small _ _ c.requires.interval.member c.index-skipped.ensures _ c.self.invariant.learned_intervals

pub invariant_of-self-2 : goal.invariant_of-self-2
invariant_of-self-2 c =
    counts_kept _ _ _ _ _ _ _ _ _
    (open_stored_sound _ _ _ _ _ c.self.view_is c.self.invariant.sound c.args.interval.now c.requires.members
    c.requires.small _ _ c.requires.interval.member c.index-skipped.ensures _ c.in_ok-store_all.ensures.ok)
    (λ j small. alike_same _ _ _
    (sym (open_stored_slot _ _ _ _ _ c.self.view_is c.self.invariant.sound c.args.interval.now c.requires.members
    c.requires.small _ _ c.requires.interval.member c.index-skipped.ensures _ c.in_ok-store_all.ensures.ok j)))
    c.self.invariant

pub invariant_of-self : goal.invariant_of-self
invariant_of-self c = unchanged _ _ _ _ _ _ _ c.in_err-store_all.ensures.err c.self.invariant

pub returns-clause-ok : goal.returns-clause-ok
returns-clause-ok c =
    open_stored_shows _ _ _ _ _ c.self.view_is c.self.invariant.sound c.args.interval.now c.requires.members
    c.requires.small _ _ c.requires.interval.member c.index-skipped.ensures _ c.in_ok-store_all.ensures.ok
