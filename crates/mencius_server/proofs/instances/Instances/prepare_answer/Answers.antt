use Rattle.std.proofs.Common.{sym, ◌∙◌, ap}
use Rattle.coord_paxos.specs.Slot.{prepare_answer}
use Rattle.coord_paxos.specs.SlotState.{SlotState}
use Rattle.mencius_server.proofs.stored.StoredInstances.{seen_none, seen_some}
use Rattle.mencius_server.proofs.instances.Instances.prepare_answer.Goals as goal

pub returns-in-Some : goal.returns-in-Some
returns-in-Some c =
    c.prepare_answer.ensures
    ∙ ap (λ (s : SlotState). prepare_answer s c.args.ballot)
    (sym (seen_some _ _ _ _ c.self.view_is c.args.inst _ c.requires c.in-Some.ensures.there))

pub returns-in-None : goal.returns-in-None
returns-in-None c =
    c.prepare_answer-in-None.ensures
    ∙ ap (λ (s : SlotState). prepare_answer s c.args.ballot) (c.slot_by_skip.ensures
    ∙ sym (seen_none _ _ _ _ c.self.view_is c.args.inst c.requires c.in-None.ensures.none))
