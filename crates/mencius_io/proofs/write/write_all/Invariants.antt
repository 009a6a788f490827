use Rattle.std.proofs.Common.{◌≡◌, ◌⊎◌, ◌≤◌, ◌<◌, ◌+◌, ◌-◌, length, take}
use Rattle.std.specs.Io.KnownBytes.{Appends}
use Rattle.mencius_io.specs.Streams.{most_failed_calls, most_failures}
use Rattle.mencius_io.proofs.write.write_all.Given as goal

abbrev pub invariant-loop-written : goal.invariant-loop-written
invariant-loop-written g l = record {
  within : l.written ≤ length l.text;
  front : Appends (g.W.Sink.state l.initial.sink).bytes (g.W.Sink.state l.sink).bytes (take l.written l.text);
  few : (g.W.Sink.state l.sink).failures + l.retries < (g.W.Sink.state l.initial.sink).failures + most_failed_calls;
  counted : ((g.W.Sink.state l.initial.sink).failures ≤ (g.W.Sink.state l.sink).failures) ⊎ ((g.W.Sink.state l.sink).failures ≡ most_failures);
}

abbrev pub decreases-loop-written : goal.decreases-loop-written
decreases-loop-written g l = (length l.text - l.written) + l.retries
