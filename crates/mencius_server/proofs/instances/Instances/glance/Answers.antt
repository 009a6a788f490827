use Rattle.std.proofs.Common.{sym, ◌∙◌, ap}
use Rattle.mencius_server.specs.Glances.{glance_of}
use Rattle.mencius_server.proofs.stored.StoredInstances.{seen_none, seen_some}
use Rattle.mencius_server.proofs.instances.Instances.glance.Goals as goal

pub returns-in-Some : goal.returns-in-Some
returns-in-Some c =
    c.glance_at.ensures
    ∙ ap glance_of
    (sym (seen_some c.self.inside.stored.members c.self.inside.stored.slots c.self.inside.stored.skipped.items
    c.args.self.now
    c.self.view_is c.args.inst c.in-Some.slot.now c.requires c.in-Some.ensures.there))

pub returns-in-None : goal.returns-in-None
returns-in-None c =
    c.glance_at-in-None.ensures
    ∙ ap glance_of (c.slot_by_skip.ensures
    ∙ sym (seen_none c.self.inside.stored.members c.self.inside.stored.slots c.self.inside.stored.skipped.items
    c.args.self.now
    c.self.view_is c.args.inst c.requires c.in-None.ensures.none))
