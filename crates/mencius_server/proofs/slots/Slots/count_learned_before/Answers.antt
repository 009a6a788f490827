use Rattle.std.proofs.Common.{◌≡◌, ◌+◌, ◌<◌, ◌≤◌, Bool, cond, ◌∙◌, ap, arith, rules, sym}
use Rattle.std.specs.List.{count_by}
use Rattle.mencius_server.specs.Slots.{is_learned_before}
use Rattle.mencius_model.proofs.trace.NumberLists.{instances-below}
use Rattle.mencius_server.proofs.stored.InstanceGaps.{count_gap, count_to, one_at_most}
use Rattle.mencius_server.proofs.stored.SkipLoop.{count_more, count_none}
use Rattle.mencius_server.proofs.stored.IntervalLoops.{in_here, learned_before_in, learned_before_out, learned_before_past, out_before, out_between}
use Rattle.mencius_base.specs.Limits.{instance_count}
use Rattle.mencius_server.proofs.slots.Slots.count_learned_before.Goals as goal

pub loop-inst-init : goal.loop-inst-init
loop-inst-init c = record {
  own = c.requires.interval.own;
  low = omega arith;
  counted = count_gap _ 0 _ 0 (omega arith)
      (λ j low high. learned_before_out c.args.interval c.args.skipped.now c.args.self.now j
      (out_before c.args.interval j high)) (count_none _);
  small = omega arith;
}

pub loop-inst-preserved : goal.loop-inst-preserved
loop-inst-preserved c =
    let inv = c.loop-inst.invariant in
    let within : c.loop-inst.inst < c.args.interval.stop =
    omega (arith, c.loop-inst-test.true, c.end_of-stop.ensures.within) in
    let ahead : c.loop-inst.inst + 1 ≤ c.next_owned-inst.result = c.next_owned-inst.ensures.above in
    let one : c.from-count.result ≡ cond c.is_learned_before.result 1 0 = search rules in
    let here : c.from-count.result ≡ cond
    (is_learned_before c.args.interval c.args.skipped.now c.args.self.now c.loop-inst.inst) 1 0 =
    one ∙ ap (λ (a : Bool). cond a 1 0)
    (c.is_learned_before.ensures
    ∙ sym (learned_before_in c.args.interval c.args.skipped.now c.args.self.now c.loop-inst.inst
    (in_here c.args.interval c.loop-inst.inst inv.own inv.low within))) in
    let few : c.from-count.result ≤ 1 = rw here (one_at_most _) in
    record {
      own = c.next_owned-inst.ensures.owned ∙ inv.own;
      low = omega (arith, ahead, inv.low);
      counted = count_gap _ (c.loop-inst.inst + 1) _ _ ahead
          (λ j low high. learned_before_out c.args.interval c.args.skipped.now c.args.self.now j
          (out_between c.args.interval c.loop-inst.inst c.next_owned-inst.result inv.own
          c.next_owned-inst.ensures.least j low high))
          (count_more _ c.loop-inst.inst _ c.from-count.result here inv.counted);
      small = omega (arith, few, ahead, inv.small);
    }

pub returns : goal.returns
returns c =
    (count_to _ c.loop-inst.inst instance_count c.loop-inst.count
    (λ j low high. learned_before_past c.args.interval c.args.skipped.now c.args.self.now c.end_of-stop.result
    c.end_of-stop.ensures.none j (omega (arith, low, c.loop-inst-test.false)))
    (λ j low high. learned_before_past c.args.interval c.args.skipped.now c.args.self.now c.end_of-stop.result
    c.end_of-stop.ensures.none j (omega (arith, low, c.end_of-stop.ensures.small)))
    c.loop-inst.invariant.counted).counted
    ∙ ap (count_by (is_learned_before c.args.interval c.args.skipped.now c.args.self.now)) (sym instances-below)
