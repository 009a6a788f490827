use Rattle.std.proofs.Common.{◌≡◌, ◌<◌, ◌≤◌, ⊎_elim, ap, subst, ◌+◌, arith, false, true, rules, sym}
use Rattle.std.specs.Prelude.{is_none}
use Rattle.std.proofs.lemmas.Bool.{cases_lt}
use Rattle.mencius_model.proofs.trace.NumberLists.{find-instances, find-instances_none}
use Rattle.mencius_server.specs.Machine.{is_free_at}
use Rattle.mencius_server.specs.State.{ServerState, slot}
use Rattle.mencius_server.proofs.stored.InstanceGaps.{before_unfree, learned_unfree, none_more, other_unfree, unowned}
use Rattle.mencius_server.proofs.Server.find_free.Goals as goal

pub returns-then-is_none-clause-place : goal.returns-then-is_none-clause-place
returns-then-is_none-clause-place c =
    let free : is_free_at c.args.self.now c.loop-inst.inst ≡ true = search rules in
    sym (find-instances (is_free_at c.args.self.now) c.loop-inst.inst (omega arith) c.loop-inst.invariant.none free)

pub returns-then-is_none-clause-fits : goal.returns-then-is_none-clause-fits
returns-then-is_none-clause-fits c = record { small = omega arith; free = search rules }

pub loop-inst-init : goal.loop-inst-init
loop-inst-init c = record {
  own = c.next_own-inst.ensures.own;
  low = omega (arith, c.next_own-inst.ensures.above, c.max-from.ensures, front);
  none = λ j high. ⊎_elim
      (λ (ahead : j < c.self.inside.front). before_unfree c.args.self.now j (omega (arith, front)))
      (λ (past : c.self.inside.front ≤ j). ⊎_elim
      (λ (noted : j < c.self.inside.notes.free_from).
      subst (λ (s : ServerState). is_free_at s j ≡ false) c.self.view_is (c.self.invariant.free j noted))
      (λ (beyond : c.self.inside.notes.free_from ≤ j).
      other_unfree c.args.self.now j (unowned c.args.self.now.members c.args.self.now.id c.max-from.result
      c.next_own-inst.result c.next_own-inst.ensures.least j (omega (arith, c.max-from.ensures, c.free_from.ensures))
      high))
      (cases_lt j c.self.inside.notes.free_from))
      (cases_lt j c.self.inside.front);
}
  where
    front : c.self.inside.front ≡ c.args.self.now.front
    front = ap (λ (s : ServerState). s.front) c.self.view_is

pub loop-inst-preserved : goal.loop-inst-preserved
loop-inst-preserved c =
    let known : is_none (slot c.args.self.now c.loop-inst.inst).learned ≡ false = search rules in
    record {
      own = c.next_own-inst-in-loop-inst.ensures.own;
      low = omega (arith, c.next_own-inst-in-loop-inst.ensures.above);
      none = none_more (is_free_at c.args.self.now) c.loop-inst.inst c.next_own-inst-in-loop-inst.result
          (learned_unfree c.args.self.now c.loop-inst.inst known)
          (λ j low high. other_unfree c.args.self.now j
          (unowned c.args.self.now.members c.args.self.now.id
          (c.loop-inst.inst
          + 1) c.next_own-inst-in-loop-inst.result c.next_own-inst-in-loop-inst.ensures.least j low high))
          c.loop-inst.invariant.none;
    }

pub returns-clause-place : goal.returns-clause-place
returns-clause-place c =
    sym (find-instances_none (is_free_at c.args.self.now) (λ j h. c.loop-inst.invariant.none j (omega arith)))
