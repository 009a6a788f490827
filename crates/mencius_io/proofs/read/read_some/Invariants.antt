use Rattle.std.proofs.Common.{◌≤◌, ◌+◌}
use Rattle.std.specs.Io.KnownBytes.{Keeps}
use Rattle.mencius_io.specs.Streams.{HasCounted}
use Rattle.mencius_io.proofs.read.read_some.Given as goal

abbrev pub invariant-calls : goal.invariant-calls
invariant-calls g l = record {
  kept : Keeps (g.R.Source.state l.initial.source).bytes (g.R.Source.state l.source).bytes;
  few : (g.R.Source.state l.source).failures + l.retries ≤ (g.R.Source.state l.initial.source).failures + l.initial.retries;
  counted : HasCounted (g.R.Source.state l.initial.source).failures (g.R.Source.state l.source).failures;
}

abbrev pub decreases-calls : goal.decreases-calls
decreases-calls g l = l.retries
