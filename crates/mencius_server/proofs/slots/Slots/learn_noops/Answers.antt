use Rattle.std.proofs.Common.{◌≡◌, ◌+◌, ◌<◌, ◌≤◌, ℕ, false, true, ◌∙◌, arith, sym}
use Rattle.std.specs.Option.{option_map}
use Rattle.coord_paxos.specs.Slot.{after_learn}
use Rattle.mencius_base.specs.declared.message.Value.TheVariants.{Noop}
use Rattle.mencius_server.specs.Slots.{is_in, stored_at}
use Rattle.mencius_server.proofs.stored.IntervalLoops.{after_skip_in, after_skip_out, after_skip_past, in_here, out_before, out_between, walked_all, walked_more, walked_start, written_here, written_off}
use Rattle.mencius_server.proofs.slots.Slots.learn_noops.Goals as goal

pub loop-inst-init : goal.loop-inst-init
loop-inst-init c = record {
  own = c.requires.interval.own;
  low = omega arith;
  walked = walked_start _ _ _ (λ j low. after_skip_out c.args.interval j _ (out_before c.args.interval j low));
}

pub loop-inst-preserved : goal.loop-inst-preserved
loop-inst-preserved c =
    let inv = c.loop-inst.invariant in
    let within : c.loop-inst.inst < c.args.interval.stop =
    omega (arith, c.loop-inst-test.true, c.end_of-stop.ensures.within) in
    let here : is_in c.args.interval c.loop-inst.inst ≡ true =
    in_here c.args.interval c.loop-inst.inst inv.own inv.low within in
    let ahead : c.loop-inst.inst + 1 ≤ c.next_owned-inst.result = c.next_owned-inst.ensures.above in
    let out : (j : ℕ) → c.loop-inst.inst + 1 ≤ j → j < c.next_owned-inst.result → is_in c.args.interval j ≡ false =
    out_between c.args.interval c.loop-inst.inst c.next_owned-inst.result inv.own c.next_owned-inst.ensures.least in
    record {
      own = c.next_owned-inst.ensures.owned ∙ inv.own;
      low = omega (arith, inv.low, ahead);
      walked = walked_more _ _ (stored_at c.loop-inst.self) _ c.loop-inst.inst _ ahead
          (λ j low high. after_skip_out c.args.interval j _ (out j low high))
          (written_here (option_map (λ s. after_learn s Noop)) (stored_at c.loop-inst.self)
          (stored_at c.learn_noop.new.self) c.loop-inst.inst c.learn_noop.ensures
          ∙ sym (after_skip_in c.args.interval c.loop-inst.inst _ here))
          (written_off (option_map (λ s. after_learn s Noop)) (stored_at c.loop-inst.self)
          (stored_at c.learn_noop.new.self) c.loop-inst.inst c.learn_noop.ensures)
          inv.walked;
    }

pub returns : goal.returns
returns c = λ j small.
    walked_all _ _ _ c.loop-inst.inst
    (λ i past. after_skip_past c.args.interval c.end_of-stop.result i (stored_at c.args.self.now)
    c.end_of-stop.ensures.none (omega (arith, past, c.loop-inst-test.false)))
    c.loop-inst.invariant.walked j
