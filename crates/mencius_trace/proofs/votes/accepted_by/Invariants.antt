use Rattle.std.proofs.Common.{◌≡◌, ◌<◌, ℕ, None, get_or, take, vec_len}
use Rattle.mencius_base.specs.Limits.{instance_count}
use Rattle.mencius_cluster.specs.State.{trace_of}
use Rattle.mencius_model.specs.Trace.{sent_messages}
use Rattle.mencius_trace.proofs.SentAcceptances.{accepted_among}
use Rattle.mencius_trace.proofs.votes.accepted_by.Given as goal

abbrev pub invariant-loop-number : goal.invariant-loop-number
invariant-loop-number l = record {
  len : vec_len l.ballots ≡ instance_count;
  ballots : (i : ℕ) → i < instance_count
      → get_or l.ballots.items i None ≡ accepted_among l.server i (take l.number (sent_messages (trace_of l.cluster)));
}
