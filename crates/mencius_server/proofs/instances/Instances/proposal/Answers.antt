use Rattle.std.proofs.Common.{sym, ◌∙◌, ap}
use Rattle.coord_paxos.specs.SlotState.{SlotState}
use Rattle.mencius_server.proofs.stored.StoredInstances.{by_skip_quiet, seen_none, seen_some}
use Rattle.mencius_server.proofs.instances.Instances.proposal.Goals as goal

pub returns-in-Some : goal.returns-in-Some
returns-in-Some c =
    c.proposal.ensures
    ∙ ap (λ (s : SlotState). s.proposal)
    (sym (seen_some _ _ _ _ c.self.view_is c.args.inst _ c.requires c.in-Some.ensures.there))

pub returns-in-None : goal.returns-in-None
returns-in-None c =
    sym (ap (λ (s : SlotState). s.proposal)
    (seen_none _ _ _ _ c.self.view_is c.args.inst c.requires c.in-None.ensures.none)
    ∙ (by_skip_quiet c.self.inside.stored.members _).2)
