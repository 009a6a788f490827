use Rattle.std.proofs.Common.{append-nil, string_bytes, sym}
use Rattle.mencius_cluster.specs.State.{trace_of}
use Rattle.mencius_trace.proofs.TextLoops.{texts_further}
use Rattle.mencius_trace.specs.Slots.{slot_line_at, slot_lines}
use Rattle.mencius_trace.proofs.slots.push_slots.Goals as goal

pub loop-inst-init : goal.loop-inst-init
unfolding slot_lines
loop-inst-init c = sym (append-nil (string_bytes c.args.text.now))

pub loop-inst-preserved : goal.loop-inst-preserved
unfolding slot_lines
loop-inst-preserved c =
    texts_further (slot_line_at c.args.cluster.now.members (trace_of c.args.cluster.now) c.args.server)
    c.loop-inst.inst _ _ _ c.loop-inst.invariant c.in_ok-push_slot_at.ensures
