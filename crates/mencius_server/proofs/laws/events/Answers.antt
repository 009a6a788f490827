use Rattle.mencius_server.proofs.events.HeardMessages.{hear_is_event, hear_learns}
use Rattle.mencius_server.proofs.events.SubmissionEvents.{retry_is_event, submit_is_event}
use Rattle.mencius_server.proofs.events.SuspicionEvents.{suspect_is_event}
use Rattle.mencius_server.proofs.laws.events.Goals as goal

pub returns-clause-submission : goal.returns-clause-submission
returns-clause-submission c = submit_is_event

pub returns-clause-delivery : goal.returns-clause-delivery
returns-clause-delivery c = hear_is_event

pub returns-clause-learned : goal.returns-clause-learned
returns-clause-learned c = hear_learns

pub returns-clause-suspicion : goal.returns-clause-suspicion
returns-clause-suspicion c = suspect_is_event

pub returns-clause-retry : goal.returns-clause-retry
returns-clause-retry c = retry_is_event
