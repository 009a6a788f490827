use Rattle.std.proofs.Common.{◌≡◌, ℕ, [], length, refl, ap, ◌∙◌, arith}
use Rattle.std.specs.Prelude.{slice_get}
use Rattle.mencius_cluster.specs.State.{trace_of}
use Rattle.mencius_model.specs.Trace.{sent_messages}
use Rattle.mencius_trace.specs.After.{of_message, of_messages}
use Rattle.mencius_trace.specs.Suggestions.{suggested_in}
use Rattle.mencius_trace.proofs.MessageLines.{of_messages_are}
use Rattle.mencius_trace.proofs.TextLoops.{texts_further}
use Rattle.mencius_trace.proofs.suggestions.suggested_instances.Goals as goal

pub loop-number-preserved : goal.loop-number-preserved
loop-number-preserved c =
    let w = trace_of c.args.cluster.now in
    texts_further (λ (k : ℕ). of_message (suggested_in w c.args.id) k (slice_get (sent_messages w) k))
    c.loop-number.number [] _ _ c.loop-number.invariant c.in_ok-push_suggested.ensures

pub returns : goal.returns
returns c =
    let w = trace_of c.args.cluster.now in
    let found = suggested_in w c.args.id in
    let all : c.loop-number.number ≡ length (sent_messages w) =
    omega (arith, c.loop-number-test.false, c.loop-number.auto.number-end, c.messages-number-end.ensures) in
    c.loop-number.invariant
    ∙ ap (λ n. of_messages found (sent_messages w) 0 n) all
    ∙ of_messages_are found (sent_messages w) [] (sent_messages w) refl
