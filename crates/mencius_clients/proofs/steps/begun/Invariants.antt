use Rattle.mencius_clients.specs.Configurations.{waiting}
use Rattle.mencius_clients.proofs.Growing.{HaveRead}
use Rattle.mencius_clients.proofs.SoundSteps.{SoBegun}
use Rattle.mencius_clients.proofs.steps.begun.Given as goal

abbrev pub invariant-loop-configuration : goal.invariant-loop-configuration
invariant-loop-configuration l =
    HaveRead l.log (waiting l.log l.slots) l.configurations l.work.configurations.items l.configuration-index
    × SoBegun l.log l.slots l.configurations l.initial.trail.items l.trail.items l.work.configurations.items
