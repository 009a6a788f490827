use Rattle.std.proofs.Common.{◌≡◌, ℕ, ◌+◌, ◌*◌, ◌<◌, false, ap, sym, ◌∙◌, arith}
use Rattle.std.specs.Prelude.{is_none}
use Rattle.mencius_base.specs.Limits.{instance_count}
use Rattle.mencius_base.specs.Members.{owner}
use Rattle.mencius_server.specs.Instances.{InstancesState, instance_slot_in}
use Rattle.mencius_server.proofs.tallies.InstanceTallies.{intervals_kept}
use Rattle.mencius_server.proofs.suspicions.SuspicionReach.{first_least, first_own, reach_nowhere, reach_there}
use Rattle.mencius_server.proofs.instances.Instances.reach.Goals.{else-first-near, then-first-near}
use Rattle.mencius_server.proofs.instances.Instances.reach.Goals as goal

pub open_from-first-requires-clause-learned_intervals : goal.open_from-first-requires-clause-learned_intervals
open_from-first-requires-clause-learned_intervals c = c.self.invariant.learned_intervals

pub invariant_of-self : goal.invariant_of-self
invariant_of-self c =
    intervals_kept c.self.inside.stored.members c.self.inside.stored.slots c.self.inside.stored.skipped.items
    c.self.inside.learned_below
    c.self.inside.tallies c.self.inside.learned_intervals _ c.open_from-first.ensures.learned_intervals c.self.invariant

pub returns-clause-reach : goal.returns-clause-reach
returns-clause-reach c =
    let m = c.self.inside.stored.members in
    let slots = c.self.inside.stored.slots in
    let rs = c.self.inside.stored.skipped.items in
    let first = c.open_from-first.result in
    let own : owner m c.from-from.result ≡ c.args.suspected =
    rw c.from-from.ensures (first_own m c.args.suspected
    (omega (arith, c.requires.suspected, ap (λ (x : InstancesState). x.members.count) c.self.view_is))) in
    let below : (j : ℕ) → j < first → owner m j ≡ c.args.suspected → j < instance_count
    → is_none (instance_slot_in m slots rs j).learned ≡ false =
    λ j less mine small.
    c.open_from-first.ensures.first.learned j (omega (arith, first_least m c.args.suspected j mine, c.from-from.ensures))
    less (mine ∙ sym own)
    small in
    elim c.if-first-near.branch [
      | then-first-near w ↦ w.result-is ∙ ap (λ n. c.args.front + 2 * n + 1) c.beta-beta.ensures.beta
          ∙ reach_there m slots rs c.args.self.now c.self.view_is c.args.suspected c.args.front c.min-near.result first
          (omega (arith, c.min-near.ensures, c.beta-beta.ensures.beta)) (c.open_from-first.ensures.first.owned ∙ own) below
          w.if-first-near.true (c.open_from-first.ensures.first.least w.if-first-near.true)
      | else-first-near w ↦ w.result-is ∙ reach_nowhere m slots rs c.args.self.now c.self.view_is
          c.args.suspected c.args.front c.min-near.result first
          (omega (arith, c.min-near.ensures, c.beta-beta.ensures.beta)) (c.open_from-first.ensures.first.owned ∙ own) below
          w.if-first-near.false
    ]
