use Rattle.mencius_clients.specs.Configurations.{AreSettled}
use Rattle.mencius_clients.proofs.SoundSteps.{SoSettled}
use Rattle.mencius_clients.proofs.steps.settled.Given as goal

abbrev pub invariant-loop-place : goal.invariant-loop-place
invariant-loop-place l =
    AreSettled l.log l.slots l.configurations l.slot l.place l.work.configurations.items l.next.configurations.items
    × SoSettled l.log l.slots l.configurations l.slot l.fn.trail.items l.trail.items l.work.configurations.items
    l.next.configurations.items
