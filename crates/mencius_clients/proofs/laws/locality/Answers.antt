-- The laws of keys.
use Rattle.mencius_clients.proofs.LocalityMerging.{local}
use Rattle.mencius_clients.proofs.LocalityWhole.{by_moments, each_key}
use Rattle.mencius_clients.proofs.laws.locality.Goals as goal

pub returns-clause-local : goal.returns-clause-local
returns-clause-local c = local

pub returns-clause-restricted : goal.returns-clause-restricted
returns-clause-restricted c = each_key

pub returns-clause-merged : goal.returns-clause-merged
returns-clause-merged c = by_moments
