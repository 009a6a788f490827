use Rattle.std.proofs.Common.{◌<◌, sym, ◌∙◌, ap, subst}
use Rattle.coord_paxos.specs.Slot.{acceptance_answer}
use Rattle.coord_paxos.specs.SlotState.{SlotState}
use Rattle.mencius_server.proofs.stored.StoredInstances.{seen_none, seen_some}
use Rattle.mencius_server.proofs.instances.Instances.acceptance_answer.Goals as goal

pub returns-in-Some : goal.returns-in-Some
returns-in-Some c =
    c.acceptance_answer.ensures
    ∙ ap (λ (s : SlotState). acceptance_answer s c.args.from c.args.ballot)
    (sym (seen_some _ _ _ _ c.self.view_is c.args.inst _ c.requires.small c.in-Some.ensures.there))

pub returns-in-None : goal.returns-in-None
returns-in-None c =
    c.acceptance_answer-in-None.ensures
    ∙ ap (λ (s : SlotState). acceptance_answer s c.args.from c.args.ballot) (c.slot_by_skip.ensures
    ∙ sym (seen_none _ _ _ _ c.self.view_is c.args.inst c.requires.small c.in-None.ensures.none))

pub acceptance_answer-requires : goal.acceptance_answer-requires
acceptance_answer-requires c =
    subst (λ (s : SlotState). c.args.from < s.members.count)
    (seen_some _ _ _ _ c.self.view_is c.args.inst _ c.requires.small c.in-Some.ensures.there) c.requires.member

pub acceptance_answer-requires-in-None : goal.acceptance_answer-requires-in-None
acceptance_answer-requires-in-None c =
    subst (λ (s : SlotState). c.args.from < s.members.count)
    (seen_none _ _ _ _ c.self.view_is c.args.inst c.requires.small c.in-None.ensures.none ∙ sym c.slot_by_skip.ensures)
    c.requires.member
