use Rattle.std.proofs.Common.{[], Some, false, get_or, slice_get, ◌≡◌, ℕ}
use Rattle.std.proofs.lemmas.Option.{slice_get-get_or}
use Rattle.mencius_clients.specs.declared.configuration.Configuration.{Configuration}
use Rattle.mencius_clients.specs.Configurations.{waiting}
use Rattle.mencius_clients.proofs.Growing.{read_all, read_more, read_none}
use Rattle.mencius_clients.proofs.SoundSteps.{none_one, reachable_at_once, trail_more, trail_same, within_later}
use Rattle.mencius_clients.proofs.steps.begun.Goals as goal

pub loop-configuration-init : goal.loop-configuration-init
loop-configuration-init c = (
  read_none c.args.log.now (waiting c.args.log.now c.args.slots.now) c.args.configurations.now
      c.new-work.result.configurations.items,
  (
    trail_same c.args.trail.now.items,
    λ within d one. none_one c.new-work.result.configurations.items d c.new-work.ensures one,
  ),
)

pub loop-configuration-preserved : goal.loop-configuration-preserved
loop-configuration-preserved c =
    let none : Configuration = record { done = record { words = [] }; text = 0; unseen = false; trail = 0 } in
    let log = c.args.log.now in
    let slots = c.args.slots.now in
    let cs = c.args.configurations.now in
    let place : ℕ = c.loop-configuration.configuration-index in
    let old = c.args.trail.now.items in
    let trail = c.loop-configuration.trail.items in
    let h = c.loop-configuration.invariant in
    let e = c.in_ok-push_new.ensures in
    let at : slice_get cs place ≡ Some (get_or cs place none) = slice_get-get_or cs place none c.loop-configuration-test.true in (
      read_more log (waiting log slots) cs c.loop-configuration.work.configurations.items
          c.push_new.new.work.configurations.items (get_or cs place none) place h.0 at e.longer e.there,
      (
        trail_more old trail c.push_new.new.trail.items h.1.0 e.trail_longer,
        λ within. e.sound cs (within_later old trail cs h.1.0 within)
            (reachable_at_once log slots trail cs (get_or cs place none) (place, at)) (h.1.1 within),
      ),
    )

pub returns-clause-begins : goal.returns-clause-begins
returns-clause-begins c =
    read_all c.args.log.now (waiting c.args.log.now c.args.slots.now) c.args.configurations.now
    c.loop-configuration.work.configurations.items c.loop-configuration.configuration-index
    c.loop-configuration.invariant.0 c.loop-configuration-test.false
