use Rattle.std.proofs.Common.{length, sym, subst, ℕ}
use Rattle.mencius_clients.specs.declared.configuration.Configuration.{Configuration}
use Rattle.mencius_clients.specs.Configurations.{Calls, waiting}
use Rattle.mencius_clients.specs.OrdersSoFar.{IsLongerTrail, IsReachable, trail_with}
use Rattle.mencius_clients.proofs.SoundSteps.{IsRenumbered, has_read_again, last_read, more_longer, reachable_more, renumbered, trail_more, with_longer, within_later}
use Rattle.mencius_clients.proofs.steps.push_new.Goals as goal

pub returns-clause-longer : goal.returns-clause-longer
returns-clause-longer c =
    more_longer c.args.work.now.configurations.items c.push.new.self.configurations.items c.in_ok-reached.reached
    c.in_ok-push.ensures

pub returns-clause-there : goal.returns-clause-there
returns-clause-there c =
    let log = c.args.log.now in
    let calls : Calls = waiting log c.args.slots.now in
    let number : ℕ = length (trail_with c.args.trail.now.items c.args.step) in
    has_read_again log calls c.push.new.self.configurations.items c.in_ok-from.from c.args.new.now
    (subst (λ (x : Configuration). IsRenumbered x c.args.new.now) (sym c.in_ok-from.ensures.number)
    (renumbered c.args.new.now c.args.step number))
    (last_read log calls c.args.work.now.configurations.items c.push.new.self.configurations.items c.in_ok-from.from
    c.in_ok-reached.reached c.in_ok-push.ensures c.in_ok-reached.ensures.read)

pub returns-clause-trail_longer : goal.returns-clause-trail_longer
returns-clause-trail_longer c =
    let old = c.args.trail.now.items in
    trail_more old c.with_step.new.trail.items c.with_read_steps.new.trail.items
    (subst (IsLongerTrail old) (sym c.in_ok-from.ensures.trail) (with_longer old c.args.step))
    c.in_ok-reached.ensures.trail_longer

pub returns-clause-sound : goal.returns-clause-sound
returns-clause-sound c cs within r h =
    let log = c.args.log.now in
    let slots = c.args.slots.now in
    let old = c.args.trail.now.items in
    let mid = c.with_step.new.trail.items in
    let from : Configuration = c.in_ok-from.from in
    let longer : IsLongerTrail old mid = subst (IsLongerTrail old) (sym c.in_ok-from.ensures.trail) (with_longer old c.args.step) in
    let first : IsReachable log slots mid cs from =
    subst (λ t. IsReachable log slots t cs from) (sym c.in_ok-from.ensures.trail)
    (subst (IsReachable log slots (trail_with old c.args.step) cs) (sym c.in_ok-from.ensures.number) r) in
    reachable_more log slots cs c.args.work.now.configurations.items c.push.new.self.configurations.items old
    c.with_read_steps.new.trail.items c.in_ok-reached.reached c.in_ok-push.ensures
    (trail_more old mid c.with_read_steps.new.trail.items longer c.in_ok-reached.ensures.trail_longer)
    (c.in_ok-reached.ensures.sound cs (within_later old mid cs longer within) first) h
