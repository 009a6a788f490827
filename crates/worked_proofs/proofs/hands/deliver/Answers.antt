use Rattle.worked_proofs.proofs.HandDeliveries.{delivered_then}
use Rattle.worked_proofs.proofs.hands.deliver.Goals as goal

pub returns-clause-delivery : goal.returns-clause-delivery
returns-clause-delivery c =
    delivered_then c.events.ensures.delivery c.isolation.ensures.others c.hear.result c.args.message.now
    c.args.receiver.now c.hear.new.self c.args.second.now c.args.third.now c.args.out.now c.hear.new.out
    c.requires.addressed c.hear.ensures.heard c.hear.ensures.refusal c.hear.ensures.same.limit c.requires.others
