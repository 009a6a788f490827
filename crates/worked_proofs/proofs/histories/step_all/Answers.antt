use Rattle.mencius_cluster.proofs.events.EventLists.{accepted_further, refused_further}
use Rattle.worked_proofs.proofs.histories.step_all.Goals as goal

pub loop-event-preserved-in-Ok : goal.loop-event-preserved-in-Ok
loop-event-preserved-in-Ok c = (_, accepted_further _ _ _ _ _ _ _ c.loop-event.invariant.1 c.in-Ok.ensures.effect)

pub loop-event-preserved : goal.loop-event-preserved
loop-event-preserved c = (
  _,
  refused_further _ _ _ _ _ _ _ c.loop-event.invariant.1 c.in-Err.ensures.refusal
      c.in_ok-memory_apart-in-Err.ensures.1 c.in-Err.ensures.err,
)
