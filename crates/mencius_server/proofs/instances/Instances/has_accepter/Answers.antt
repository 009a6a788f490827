use Rattle.std.proofs.Common.{◌∙◌, ap, false, get_or, sym}
use Rattle.coord_paxos.specs.SlotState.{SlotState}
use Rattle.mencius_server.proofs.stored.StoredInstances.{seen_some}
use Rattle.mencius_server.proofs.instances.Instances.has_accepter.Goals as goal

pub returns-then-from-accepts : goal.returns-then-from-accepts
returns-then-from-accepts c = λ h.
    ap (λ (s : SlotState). get_or s.accepts c.args.from false)
    (seen_some _ _ _ _ c.self.view_is
    c.args.inst c.in-Some.slot.now c.requires c.in-Some.ensures.there)
    ∙ ap (λ xs. get_or xs c.args.from false) (sym c.accepts-accepts.ensures.value)
    ∙ h
