use Rattle.mencius_clients.proofs.Growing.{HaveFollowed}
use Rattle.mencius_clients.proofs.SoundSteps.{SoStepped}
use Rattle.mencius_clients.proofs.steps.push_steps.Given as goal

abbrev pub invariant-loop-slot : goal.invariant-loop-slot
invariant-loop-slot l =
    HaveFollowed l.log l.slots l.initial.work.configurations.items l.work.configurations.items l.from l.slot
    × SoStepped l.log l.slots l.from l.initial.trail.items l.trail.items l.initial.work.configurations.items
    l.work.configurations.items
