use Rattle.mencius_cluster.specs.State.{trace_of}
use Rattle.mencius_trace.proofs.MessageLines.{messages_further, messages_start, messages_whole}
use Rattle.mencius_trace.proofs.effects.push_sent.Goals as goal

pub loop-number-init : goal.loop-number-init
loop-number-init c = messages_start (trace_of c.args.cluster.now) c.args.first _ _

pub loop-number-preserved : goal.loop-number-preserved
loop-number-preserved c =
    messages_further (trace_of c.args.cluster.now) c.args.first _ c.loop-number.number _ _ _ c.loop-number.auto.number
    c.loop-number-test.true c.loop-number.invariant c.in_ok-push_sent_at.ensures

pub returns : goal.returns
returns c =
    messages_whole (trace_of c.args.cluster.now) c.args.first _ c.loop-number.number _ _ c.loop-number.auto.number
    c.loop-number.auto.number-end c.loop-number-test.false c.messages-number-end.ensures c.loop-number.invariant
