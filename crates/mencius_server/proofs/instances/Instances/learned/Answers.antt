use Rattle.std.proofs.Common.{sym, ◌∙◌, ap}
use Rattle.coord_paxos.specs.SlotState.{SlotState}
use Rattle.mencius_server.proofs.stored.StoredInstances.{seen}
use Rattle.mencius_server.proofs.instances.Instances.learned.Goals as goal

pub returns : goal.returns
returns c = c.learned.ensures
    ∙ ap (λ (s : SlotState). s.learned)
    (sym (seen _ _ _ _ c.self.view_is c.args.inst c.requires))
