use Rattle.std.proofs.Common.{◌==◌, ◌<◌, ◌^◌, ◌∙◌, ◌∷◌, [], ℕ, ap, arith, length, rules, tests}
use Rattle.std.proofs.lemmas.List.{length-append}
use Rattle.std.proofs.lemmas.Iterator.Consumers.{YieldsList-at, YieldsList-end, YieldsList-turn}
use Rattle.std.proofs.lemmas.Iterator.Splits.{YieldsList-from_slice_split}
use Rattle.mencius_draw.specs.Layout.{lines_of}
use Rattle.mencius_draw.proofs.ShapeLists.{first_passed, first_shapes, is_room, passed_further, shapes_further, shapes_last}
use Rattle.mencius_draw.proofs.layout.shapes_of.Goals as goal

pub loop-after-init : goal.loop-after-init
loop-after-init c = (
  first_passed c.args.options.now (lines_of c.args.trace.now) c.start-pen.result c.start-pen.ensures,
  first_shapes c.args.options.now (lines_of c.args.trace.now) c.start-pen.result c.new-shapes.result.items
      c.start-pen.ensures c.new-shapes.ensures.items,
)

pub push_line-requires : goal.push_line-requires
push_line-requires c =
    let few : length c.args.trace.now < 2 ^ 63 =
    omega (arith, c.as_bytes.type_inv.1, ap length c.as_bytes.ensures.value) in
    let turn = YieldsList-turn (YieldsList-at c.into_iter-after-iterator.ensures.into_iter_gives
    (YieldsList-from_slice_split _ (λ (b : ℕ). b == 10) c.args.trace.now
    (c.split-after-items.ensures.rest ∙ c.as_bytes.ensures.value) c.split-after-items.ensures.done
    c.split-after-items.ensures.closure (λ x r q k. search (rules, tests))))
    c.loop-after.yielded _ c.loop-after.yielded_by _ c.next.new.self c.in-Some.after c.in-Some.is c.next.ensures.steps in
    let room = is_room c.args.trace.now (length c.loop-after.yielded) c.loop-after.pen few (omega (arith, turn.0))
    c.loop-after.invariant.0.below in
    record { free = room.free; next = room.next }

pub loop-after-preserved : goal.loop-after-preserved
loop-after-preserved c =
    let all = lines_of c.args.trace.now in
    let turn = YieldsList-turn (YieldsList-at c.into_iter-after-iterator.ensures.into_iter_gives
    (YieldsList-from_slice_split _ (λ (b : ℕ). b == 10) c.args.trace.now
    (c.split-after-items.ensures.rest ∙ c.as_bytes.ensures.value) c.split-after-items.ensures.done
    c.split-after-items.ensures.closure (λ x r q k. search (rules, tests))))
    c.loop-after.yielded _ c.loop-after.yielded_by _ c.next.new.self c.in-Some.after c.in-Some.is c.next.ensures.steps in
    let more = length-append c.loop-after.yielded (c.in-Some.after ∷ []) in (
      passed_further c.args.options.now all (length c.loop-after.yielded) _ c.loop-after.pen c.in_ok-pen.pen
          c.loop-after.line.now c.in-Some.after.now more turn c.in_ok-pen.ensures.spot c.loop-after.invariant.0,
      shapes_further c.args.options.now all (length c.loop-after.yielded) _ c.loop-after.pen c.in_ok-pen.pen
          c.loop-after.line.now c.in-Some.after.now c.loop-after.shapes.items _ more turn c.in_ok-pen.ensures.spot
          c.in_ok-pen.ensures.shapes c.loop-after.invariant.1,
    )

pub push_line-requires-2 : goal.push_line-requires-2
push_line-requires-2 c =
    let few : length c.args.trace.now < 2 ^ 63 =
    omega (arith, c.as_bytes.type_inv.1, ap length c.as_bytes.ensures.value) in
    let turn = YieldsList-end (YieldsList-at c.into_iter-after-iterator.ensures.into_iter_gives
    (YieldsList-from_slice_split _ (λ (b : ℕ). b == 10) c.args.trace.now
    (c.split-after-items.ensures.rest ∙ c.as_bytes.ensures.value) c.split-after-items.ensures.done
    c.split-after-items.ensures.closure (λ x r q k. search (rules, tests))))
    c.loop-after.yielded _ c.loop-after.yielded_by _ _ c.in-None.is c.next.ensures.steps in
    let room = is_room c.args.trace.now (length c.loop-after.yielded) c.loop-after.pen few (omega (arith, turn.1))
    c.loop-after.invariant.0.below in
    record { free = room.free; next = room.next }

pub returns : goal.returns
returns c =
    let end = YieldsList-end (YieldsList-at c.into_iter-after-iterator.ensures.into_iter_gives
    (YieldsList-from_slice_split _ (λ (b : ℕ). b == 10) c.args.trace.now
    (c.split-after-items.ensures.rest ∙ c.as_bytes.ensures.value) c.split-after-items.ensures.done
    c.split-after-items.ensures.closure (λ x r q k. search (rules, tests))))
    c.loop-after.yielded _ c.loop-after.yielded_by _ _ c.in-None.is c.next.ensures.steps in
    shapes_last c.args.options.now (lines_of c.args.trace.now) (length c.loop-after.yielded) c.loop-after.pen
    c.loop-after.line.now c.loop-after.shapes.items _ end.1 c.in_ok-push_line.ensures.shapes c.loop-after.invariant.1
