use Rattle.std.proofs.Common.{◌≡◌, ℕ, ◌++◌, [], length, refl, ap, ◌∙◌, arith, string_bytes}
use Rattle.std.specs.Prelude.{slice_get}
use Rattle.mencius_cluster.specs.State.{trace_of}
use Rattle.mencius_model.specs.Trace.{sent_messages}
use Rattle.mencius_trace.specs.After.{of_message, of_messages}
use Rattle.mencius_trace.specs.LastLines.{unheard_lines}
use Rattle.mencius_trace.proofs.MessageLines.{of_messages_are}
use Rattle.mencius_trace.proofs.TextLoops.{texts_further}
use Rattle.mencius_trace.proofs.unheard.push_all.Goals as goal

pub loop-number-preserved : goal.loop-number-preserved
loop-number-preserved c =
    let w = trace_of c.args.cluster.now in
    texts_further (λ (k : ℕ). of_message (unheard_lines c.args.view.now c.args.suggested.now c.args.cluster.now.members w) k (slice_get (sent_messages w) k))
    c.loop-number.number _ _ _ c.loop-number.invariant c.in_ok-push_unheard_lines.ensures

pub returns : goal.returns
returns c =
    let w = trace_of c.args.cluster.now in
    let lines = unheard_lines c.args.view.now c.args.suggested.now c.args.cluster.now.members w in
    let all : c.loop-number.number ≡ length (sent_messages w) =
    omega (arith, c.loop-number-test.false, c.loop-number.auto.number-end, c.messages-number-end.ensures) in
    c.loop-number.invariant
    ∙ ap (λ n. string_bytes c.args.text.now ++ of_messages lines (sent_messages w) 0 n) all
    ∙ ap (λ more. string_bytes c.args.text.now ++ more)
    (of_messages_are lines (sent_messages w) [] (sent_messages w) refl)
