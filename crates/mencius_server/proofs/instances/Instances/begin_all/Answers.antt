use Rattle.std.proofs.Common.{◌≡◌, ℕ, ◌<◌, ◌≤◌, ◌++◌, true, ap, arith, rules, subst, sym, ◌∙◌}
use Rattle.std.specs.List.{count_by}
use Rattle.mencius_base.specs.Members.{numbers_below}
use Rattle.mencius_server.specs.Machine.{next_round_of}
use Rattle.mencius_server.specs.Instances.{InstancesState, has_slot, instance_slot, is_open_in, prepares_in, with_first_phases}
use Rattle.mencius_server.proofs.suspicions.SuspicionBySlots.{open_count, open_sent, stored_has, suspect_is}
use Rattle.mencius_server.proofs.suspicions.OpenInstances.{open_same}
use Rattle.mencius_base.specs.Limits.{greatest_round, instance_count}
use Rattle.mencius_server.proofs.instances.Instances.begin_all.Goals as goal

pub begin_open-requires : goal.begin_open-requires
begin_open-requires c =
    let interval = c.open_interval-interval.result in
    let stored : InstancesState → Type 0 =
    λ s. (j : ℕ) → j < instance_count → is_open_in s interval j ≡ true → has_slot s j ≡ true in
    let rounds : InstancesState → Type 0 =
    λ s. (j : ℕ) → j < instance_count → is_open_in s interval j ≡ true
    → next_round_of s.members (instance_slot s j) ≤ greatest_round in
    record {
      interval = search rules;
      members = search rules;
      small = search rules;
      id = search rules;
      stored = subst stored (sym c.in_ok-store_open.ensures.ok) (stored_has _ _ _ _ c.open_interval-interval.ensures);
      rounds = subst rounds (sym c.in_ok-store_open.ensures.ok)
          (λ j l e. c.requires.rounds j l (sym (open_same _ _ _ _ c.open_interval-interval.ensures j l) ∙ e));
      room = subst (λ (s : InstancesState). count_by (is_open_in s interval) (numbers_below interval.stop)
          ≤ c.args.out.now.room) (sym c.in_ok-store_open.ensures.ok)
          (omega (arith, c.requires.room, open_count _ _ _ _ c.open_interval-interval.ensures));
    }

pub returns-clause-sent : goal.returns-clause-sent
returns-clause-sent c =
    c.begin_open.ensures.sent
    ∙ ap (λ (s : InstancesState). c.args.out.now.messages
    ++ prepares_in s c.args.id c.open_interval-interval.result) c.in_ok-store_open.ensures.ok
    ∙ ap (λ xs. c.args.out.now.messages ++ xs)
    (open_sent _ _ _ _ c.open_interval-interval.ensures c.args.id)

pub returns-clause-after : goal.returns-clause-after
returns-clause-after c =
    c.begin_open.ensures.after
    ∙ ap (λ (s : InstancesState). with_first_phases s c.args.id c.open_interval-interval.result)
    c.in_ok-store_open.ensures.ok
    ∙ suspect_is _ _ _ _ c.open_interval-interval.ensures c.args.id
