use Rattle.mencius_model.proofs.paxos.SentOnce.{one_suggestion_holds}
use Rattle.mencius_model.proofs.laws.one_suggestion.Goals as goal

pub returns : goal.returns
returns c = one_suggestion_holds
