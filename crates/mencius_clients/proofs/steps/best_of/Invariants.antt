use Rattle.mencius_clients.specs.declared.configuration.Configuration.{Configuration}
use Rattle.mencius_clients.specs.Configurations.{IsOneOf}
use Rattle.mencius_clients.proofs.Fewer.{HaveBest}
use Rattle.mencius_clients.proofs.steps.best_of.Given as goal

abbrev pub invariant-loop-count : goal.invariant-loop-count
invariant-loop-count l =
    HaveBest l.log l.lost l.configurations l.best.configurations.items l.count
    × ((d : Configuration) → IsOneOf l.best.configurations.items d → IsOneOf l.configurations d)
