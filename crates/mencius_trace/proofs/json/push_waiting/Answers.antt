use Rattle.std.proofs.Common.{◌≡◌, ℕ, List, ◌++◌, ap, sym, ◌∙◌, arith, string_bytes}
use Rattle.std.specs.List.{flat_map, range_with_len}
use Rattle.mencius_base.specs.Limits.{instance_count}
use Rattle.mencius_base.specs.Members.{numbers_below}
use Rattle.mencius_cluster.specs.State.{trace_of}
use Rattle.mencius_model.specs.Server.{waiting_at}
use Rattle.mencius_model.proofs.trace.NumberLists.{instances-below}
use Rattle.mencius_trace.specs.Json.{waiting_json}
use Rattle.mencius_trace.proofs.TextLoops.{texts_further}
use Rattle.mencius_trace.proofs.json.push_waiting.Goals as goal

pub loop-inst-preserved : goal.loop-inst-preserved
loop-inst-preserved c =
    let w = trace_of c.args.cluster.now in
    texts_further (λ (i : ℕ). waiting_json w c.args.server i (waiting_at w c.args.server i)) c.loop-inst.inst _ _ _
    c.loop-inst.invariant c.in_ok-push_waiting_at.ensures

pub returns : goal.returns
unfolding numbers_below
returns c =
    let w = trace_of c.args.cluster.now in
    let line : ℕ → List ℕ = λ i. waiting_json w c.args.server i (waiting_at w c.args.server i) in
    let all : c.loop-inst.inst ≡ instance_count = omega (arith, c.loop-inst-test.false, c.loop-inst.auto.inst-end) in
    c.loop-inst.invariant
    ∙ ap (λ n. string_bytes c.args.text.now ++ flat_map line (range_with_len 0 n)) all
    ∙ ap (λ is. string_bytes c.args.text.now ++ flat_map line is) (sym instances-below)
