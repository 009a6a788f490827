use Rattle.mencius_app.proofs.texts.KeptEvents.{IsKept}
use Rattle.mencius_app.proofs.traces.step_and_keep.Given as goal

abbrev pub invariant-loop-event : goal.invariant-loop-event
invariant-loop-event l = IsKept l.initial.cluster l.fn.events l.event-iterator l.cluster l.kept.items
