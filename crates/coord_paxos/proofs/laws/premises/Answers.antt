use Rattle.coord_paxos.proofs.ReachedTraces.{accepted_goes_to_owner, accepted_was_proposed, free_is_unsaid, next_is_untried, promise_is_positive, propose_is_proposal, suggest_is_proposal, untouched_leaves_premises}
use Rattle.coord_paxos.proofs.laws.premises.Goals as goal

pub returns-clause-voted : goal.returns-clause-voted
returns-clause-voted c = accepted_was_proposed

pub returns-clause-free : goal.returns-clause-free
returns-clause-free c = free_is_unsaid

pub returns-clause-untried : goal.returns-clause-untried
returns-clause-untried c = next_is_untried

pub returns-clause-suggested : goal.returns-clause-suggested
returns-clause-suggested c = suggest_is_proposal

pub returns-clause-proposed : goal.returns-clause-proposed
returns-clause-proposed c = propose_is_proposal

pub returns-clause-promised : goal.returns-clause-promised
returns-clause-promised c = promise_is_positive

pub returns-clause-accepted : goal.returns-clause-accepted
returns-clause-accepted c = accepted_goes_to_owner

pub returns-clause-between : goal.returns-clause-between
returns-clause-between c = untouched_leaves_premises
