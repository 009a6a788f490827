use Rattle.mencius_app.proofs.Words.{refl, events_text}
use Rattle.mencius_trace.specs.EventLines.{event_lines}
use Rattle.mencius_app.proofs.texts.EventTexts.{told_more}
use Rattle.mencius_app.proofs.traces.push_kept_events.Goals as goal

pub loop-event-preserved : goal.loop-event-preserved
loop-event-preserved c =
    told_more (events_text c.args.view.now c.args.suggested.now) (event_lines c.args.view.now c.args.suggested.now) (λ m w n e es. refl) _ _ _ _ _ _ _ _ _ c.in-Some.event _ c.loop-event.invariant
    c.in-Some.ensures.steps.0 c.in_ok-tell.ensures.text c.in_ok-tell.ensures.trace c.in_ok-tell.ensures.members
