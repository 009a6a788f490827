use Rattle.mencius_clients.proofs.SoundSteps.{SoRead}
use Rattle.mencius_clients.proofs.steps.with_read_steps.Given as goal

abbrev pub invariant-loop-slot : goal.invariant-loop-slot
invariant-loop-slot l = SoRead l.log l.slots l.from l.initial.trail.items l.trail.items l.new
