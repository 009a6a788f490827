use Rattle.std.proofs.Common.{◌≡◌, ◌||◌, ◌+◌, true, false, ap, sym, subst, ◌∙◌, arith, string_bytes}
use Rattle.mencius_base.specs.Limits.{instance_count}
use Rattle.mencius_cluster.specs.State.{trace_of}
use Rattle.mencius_trace.proofs.TextLoops.{IsWaitingTo, waiting_next, waiting_none, waiting_some, waiting_start}
use Rattle.mencius_trace.proofs.last_lines.push_waiting.Goals as goal
use Rattle.mencius_trace.proofs.last_lines.push_waiting.Goals.{then-branch, else-branch}

pub loop-inst-init : goal.loop-inst-init
loop-inst-init c = waiting_start (trace_of c.args.cluster.now) c.args.server (string_bytes c.args.text.now)

pub loop-inst-preserved : goal.loop-inst-preserved
loop-inst-preserved c =
    let either : (c.in_ok-some.some || c.loop-inst.some) ≡ c.if-branch.some =
    elim c.if-branch.branch [
      | then-branch way ↦ ap (λ bit. bit || c.loop-inst.some) way.if-branch.true ∙ sym way.if-branch.true
          ∙ sym way.some-is
      | else-branch way ↦ ap (λ bit. bit || c.loop-inst.some) way.if-branch.false ∙ sym way.some-is
    ] in
    subst (λ some. IsWaitingTo (trace_of c.args.cluster.now) c.args.server (c.loop-inst.inst + 1) some
    (string_bytes c.args.text.now) (string_bytes c.push_waiting_at.new.text)) either
    (waiting_next (trace_of c.args.cluster.now) c.args.server c.loop-inst.inst c.loop-inst.some c.in_ok-some.some _ _ _
    c.loop-inst.invariant c.in_ok-some.ensures.text c.in_ok-some.ensures.some)

pub returns-in_ok-push_str : goal.returns-in_ok-push_str
returns-in_ok-push_str c =
    let end : c.loop-inst.inst ≡ instance_count = omega (arith, c.loop-inst-test.false, c.loop-inst.auto.inst-end) in
    let w = trace_of c.args.cluster.now in
    let before = string_bytes c.args.text.now in
    let old = string_bytes c.loop-inst.text in
    waiting_none w c.args.server before old _
    (subst (λ n. IsWaitingTo w c.args.server n false before old) end
    (subst (λ s. IsWaitingTo w c.args.server c.loop-inst.inst s before old) c.if-not-some.true
    c.loop-inst.invariant)) c.in_ok-push_str.ensures.bytes

pub returns-else-not-some : goal.returns-else-not-some
returns-else-not-some c =
    let end : c.loop-inst.inst ≡ instance_count = omega (arith, c.loop-inst-test.false, c.loop-inst.auto.inst-end) in
    let w = trace_of c.args.cluster.now in
    let before = string_bytes c.args.text.now in
    let old = string_bytes c.loop-inst.text in
    waiting_some w c.args.server before old
    (subst (λ n. IsWaitingTo w c.args.server n true before old) end
    (subst (λ s. IsWaitingTo w c.args.server c.loop-inst.inst s before old) c.if-not-some.false
    c.loop-inst.invariant))
