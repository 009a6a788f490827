use Rattle.std.proofs.Common.{◌≡◌, ℕ, ◌<◌, ◌≤◌, false, not, ◌∙◌, ap, sym, arith, ⊎_elim}
use Rattle.std.specs.Prelude.{is_none}
use Rattle.std.proofs.lemmas.Bool.{cases_lt}
use Rattle.mencius_base.specs.Members.{owner}
use Rattle.mencius_server.specs.Instances.{instance_slot_in}
use Rattle.mencius_server.proofs.suspicions.IntervalLeaps.{interval_put, past_closed, past_near, past_owned}
use Rattle.mencius_server.proofs.stored_instances.StoredInstances.open_from.Goals as goal

pub loop-inst-preserved : goal.loop-inst-preserved
loop-inst-preserved c =
    let inv = c.loop-inst.invariant in
    let m = c.args.self.now.members in
    let opens = λ (j : ℕ). is_none (instance_slot_in m c.args.self.now.slots c.args.self.now.skipped.items j).learned in
    let own : owner m c.next_owned.result ≡ owner m c.loop-inst.inst = c.next_owned.ensures.owned in
    let here : opens c.loop-inst.inst ≡ false =
    ap is_none (sym c.learned.ensures) ∙ ap not (sym c.is_some.ensures ∙ c.if-is_some.true) in
    record {
      owned = past_owned m c.args.learned_intervals.now c.loop-inst.inst c.next_owned.result c.past-inst.result
          c.past-inst.ensures c.next_owned.ensures.above own opens c.requires.learned_intervals ∙ inv.owned;
      near = past_near m c.args.learned_intervals.now c.loop-inst.inst c.next_owned.result c.past-inst.result
          c.past-inst.ensures c.next_owned.ensures.above own opens c.requires.learned_intervals
          (omega (arith, c.next_owned.ensures.near, c.requires.small, c.loop-inst-test.true));
      learned = λ j from less mine small. ⊎_elim
          (λ (before : j < c.loop-inst.inst). inv.learned j from before mine small)
          (λ (after : c.loop-inst.inst ≤ j). past_closed m c.args.learned_intervals.now c.loop-inst.inst
          c.next_owned.result
          c.past-inst.result c.past-inst.ensures c.next_owned.ensures.above own opens c.requires.learned_intervals
          c.next_owned.ensures.least here j after less (mine ∙ sym inv.owned) small)
          (cases_lt j c.loop-inst.inst);
    }

pub returns-then-from-stop-clause-learned_intervals : goal.returns-then-from-stop-clause-learned_intervals
returns-then-from-stop-clause-learned_intervals c =
    let m = c.args.self.now.members in
    let opens = λ (j : ℕ). is_none (instance_slot_in m c.args.self.now.slots c.args.self.now.skipped.items j).learned in
    interval_put m opens c.args.learned_intervals.now c.put.new.self c.args.from c.loop-inst.inst c.put.ensures
    c.loop-inst.invariant.owned c.loop-inst.invariant.near c.loop-inst.invariant.learned c.requires.learned_intervals
