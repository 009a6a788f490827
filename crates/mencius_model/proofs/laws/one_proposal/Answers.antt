use Rattle.mencius_model.proofs.paxos.SentOnce.{one_proposal_holds}
use Rattle.mencius_model.proofs.laws.one_proposal.Goals as goal

pub returns : goal.returns
returns c = one_proposal_holds
