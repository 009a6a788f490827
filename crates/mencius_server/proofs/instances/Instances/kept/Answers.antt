use Rattle.std.proofs.Common.{◌∙◌}
use Rattle.mencius_server.proofs.stored.StoredInstances.{stored_count}
use Rattle.mencius_server.proofs.instances.Instances.kept.Goals as goal

pub returns : goal.returns
returns c =
    c.len-slots.ensures.count
    ∙ stored_count _ _ _ _ c.self.view_is c.len-slots.ensures.few
