use Rattle.mencius_app.proofs.Words.{string_bytes, events_text}
use Rattle.std.specs.Vec.Iter.{into_iter_items}
use Rattle.mencius_app.proofs.texts.EventTexts.{HasLines}
use Rattle.mencius_app.proofs.traces.push_kept_events.Given as goal

abbrev pub invariant-loop-event : goal.invariant-loop-event
invariant-loop-event l =
    HasLines (events_text l.view l.suggested) l.initial.cluster (string_bytes l.initial.text) l.fn.events.items (into_iter_items l.event-iterator) l.cluster
    (string_bytes l.text) l.place
