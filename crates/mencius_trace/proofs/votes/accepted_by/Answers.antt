use Rattle.std.proofs.Common.{◌≤◌, length, sym, arith}
use Rattle.mencius_cluster.specs.State.{trace_of}
use Rattle.mencius_model.specs.Trace.{sent_messages}
use Rattle.mencius_trace.proofs.SentAcceptances.{accepted_further, accepted_whole}
use Rattle.mencius_trace.proofs.votes.accepted_by.Goals as goal

pub loop-number-preserved : goal.loop-number-preserved
loop-number-preserved c = record {
  len = c.raise.ensures.len;
  ballots = λ i small.
      accepted_further c.args.server i (sent_messages (trace_of c.args.cluster.now)) c.loop-number.number _ _ _
      (sym c.in-Some.ensures) (c.loop-number.invariant.ballots i small) (c.raise.ensures.greater i small);
}

pub returns-clause-ballots : goal.returns-clause-ballots
returns-clause-ballots c i small =
    let w = trace_of c.args.cluster.now in
    let past : length (sent_messages w) ≤ c.loop-number.number =
    omega (arith, c.loop-number-test.false, c.messages-number-end.ensures) in
    accepted_whole c.args.server i w c.loop-number.number _ past (c.loop-number.invariant.ballots i small)
