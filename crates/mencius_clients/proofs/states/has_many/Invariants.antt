use Rattle.mencius_clients.specs.declared.configuration.Configuration.{Configuration}
use Rattle.mencius_clients.specs.Configurations.{IsOneOf}
use Rattle.mencius_clients.specs.States.{AreRising}
use Rattle.mencius_clients.proofs.states.has_many.Given as goal

abbrev pub invariant-loop-place : goal.invariant-loop-place
invariant-loop-place l =
    AreRising l.log l.rising.items
    × ((d : Configuration) → IsOneOf l.rising.items d → IsOneOf l.configurations d)
