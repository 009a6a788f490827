use Rattle.std.proofs.Common.{◌≤◌, length, sym, arith}
use Rattle.mencius_cluster.specs.State.{trace_of}
use Rattle.mencius_model.specs.Trace.{sent_messages}
use Rattle.mencius_trace.proofs.SentAcceptances.{proposed_here, unsaid_further, unsaid_whole}
use Rattle.mencius_trace.proofs.votes.proposal.Goals as goal

pub returns-in-Some-proposal_by : goal.returns-in-Some-proposal_by
returns-in-Some-proposal_by c =
    proposed_here c.args.inst c.args.ballot (trace_of c.args.cluster.now) c.loop-number.number _ _
    (sym c.in-Some.ensures) c.loop-number.invariant c.in-Some-proposal_by.ensures

pub loop-number-preserved : goal.loop-number-preserved
loop-number-preserved c =
    unsaid_further c.args.inst c.args.ballot (sent_messages (trace_of c.args.cluster.now)) c.loop-number.number _
    (sym c.in-Some.ensures) c.loop-number.invariant (sym c.in_default-proposal_by.ensures)

pub returns : goal.returns
returns c =
    let w = trace_of c.args.cluster.now in
    let past : length (sent_messages w) ≤ c.loop-number.number =
    omega (arith, c.loop-number-test.false, c.messages-number-end.ensures) in
    sym (unsaid_whole c.args.inst c.args.ballot w c.loop-number.number past c.loop-number.invariant)
