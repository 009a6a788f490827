use Rattle.std.proofs.Common.{◌≡◌, None, take}
use Rattle.mencius_cluster.specs.State.{trace_of}
use Rattle.mencius_model.specs.Trace.{sent_messages}
use Rattle.mencius_trace.proofs.SentAcceptances.{proposed_among}
use Rattle.mencius_trace.proofs.votes.proposal.Given as goal

abbrev pub invariant-loop-number : goal.invariant-loop-number
invariant-loop-number l = proposed_among l.inst l.ballot (take l.number (sent_messages (trace_of l.cluster))) ≡ None
