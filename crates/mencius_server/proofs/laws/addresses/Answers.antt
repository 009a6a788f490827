use Rattle.mencius_server.proofs.events.Addresses.{hear_addresses, retry_addresses, submit_addresses, suspect_addresses}
use Rattle.mencius_server.proofs.laws.addresses.Goals as goal

pub returns-clause-submission : goal.returns-clause-submission
returns-clause-submission c = submit_addresses

pub returns-clause-delivery : goal.returns-clause-delivery
returns-clause-delivery c = hear_addresses

pub returns-clause-suspicion : goal.returns-clause-suspicion
returns-clause-suspicion c = suspect_addresses

pub returns-clause-retry : goal.returns-clause-retry
returns-clause-retry c = retry_addresses
