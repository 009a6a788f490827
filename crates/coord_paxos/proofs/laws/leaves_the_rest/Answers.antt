use Rattle.coord_paxos.proofs.SlotLaws.{proposal_elsewhere, suggestion_elsewhere, uncounted, untouched}
use Rattle.coord_paxos.proofs.laws.leaves_the_rest.Goals as goal

pub returns-clause-untouched : goal.returns-clause-untouched
returns-clause-untouched c = untouched

pub returns-clause-uncounted : goal.returns-clause-uncounted
returns-clause-uncounted c = uncounted

pub returns-clause-proposals : goal.returns-clause-proposals
returns-clause-proposals c = proposal_elsewhere

pub returns-clause-suggestions : goal.returns-clause-suggestions
returns-clause-suggestions c = suggestion_elsewhere
