use Rattle.std.proofs.Common.{◌≤◌, ◌<◌, ◌+◌, ◌-◌, vec_len}
use Rattle.std.specs.Io.KnownBytes.{Consumes}
use Rattle.mencius_io.specs.Streams.{HasCounted, most_bytes, most_failed_calls}
use Rattle.mencius_io.proofs.read.read_all.Given as goal

abbrev pub invariant-reads : goal.invariant-reads
invariant-reads g l = record {
  within : vec_len l.bytes ≤ most_bytes + 1;
  taken : Consumes (g.R.Source.state l.initial.source).bytes (g.R.Source.state l.source).bytes l.bytes.items;
  few : (g.R.Source.state l.source).failures + l.retries < (g.R.Source.state l.initial.source).failures + most_failed_calls;
  counted : HasCounted (g.R.Source.state l.initial.source).failures (g.R.Source.state l.source).failures;
}

abbrev pub decreases-reads : goal.decreases-reads
decreases-reads g l = most_bytes + 1 - vec_len l.bytes
