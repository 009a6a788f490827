use Rattle.std.proofs.Common.{Global, Vec, ◌+◌, List, sym, subst}
use Rattle.mencius_clients.specs.declared.configuration.Configuration.{Configuration}
use Rattle.mencius_clients.specs.declared.steps.Step.{Step}
use Rattle.mencius_clients.specs.declared.work.Work.{Work}
use Rattle.mencius_clients.specs.Configurations.{GivesWay}
use Rattle.mencius_clients.proofs.Growing.{HaveFollowed, followed_all, followed_more, given_way}
use Rattle.mencius_clients.proofs.SoundSteps.{SoStepped, reachable_later, trail_more, within_later}
use Rattle.mencius_clients.proofs.steps.push_steps.Goals as goal
use Rattle.mencius_clients.proofs.steps.push_steps.Goals.{then-not-gives_way+in_ok-push_step, else-not-gives_way}

pub loop-slot-preserved : goal.loop-slot-preserved
loop-slot-preserved c =
    let log = c.args.log.now in
    let slots = c.args.slots.now in
    let first : List Configuration = c.args.work.now.configurations.items in
    let work = c.loop-slot.work.configurations.items in
    let from = c.args.from.now in
    let slot = c.loop-slot.slot in
    let old : List Step = c.args.trail.now.items in
    let trail = c.loop-slot.trail.items in
    let h = c.loop-slot.invariant.0 in
    let s : SoStepped log slots from old trail first work = c.loop-slot.invariant.1 in
    elim c.if-not-gives_way.branch [
      | then-not-gives_way+in_ok-push_step w ↦
          let e = w.in_ok-push_step.ensures in
          let new = w.push_step.new.work.configurations.items in
          let more = w.push_step.new.trail.items in
          let next : SoStepped log slots from old more first new = (
            trail_more old trail more s.0 e.trail_longer,
            λ cs within r all. e.sound cs (within_later old trail cs s.0 within) (reachable_later log slots old trail cs from s.0 r)
                (s.1 cs within r all),
          ) in (
            subst (λ (v : Work). HaveFollowed log slots first v.configurations.items from (slot + 1)) (sym w.work-is)
                (followed_more log slots first work new from slot h e.longer e.follows),
            subst (λ (v : Work). SoStepped log slots from old c.if-not-gives_way.trail.items first v.configurations.items)
                (sym w.work-is)
                (subst (λ (v : Vec Step Global). SoStepped log slots from old v.items first new) (sym w.trail-is) next),
          )
      | else-not-gives_way w ↦
          let way : GivesWay log slots c.args.lost.now from slot = c.gives_way.ensures w.if-not-gives_way.false in (
            subst (λ (v : Work). HaveFollowed log slots first v.configurations.items from (slot + 1)) (sym w.work-is)
                (followed_more log slots first work work from slot h (λ n d e. e)
                (given_way log slots work from slot c.args.lost.now c.requires.lost way (h.each way.twin way.lower))),
            subst (λ (v : Work). SoStepped log slots from old c.if-not-gives_way.trail.items first v.configurations.items)
                (sym w.work-is)
                (subst (λ (v : Vec Step Global). SoStepped log slots from old v.items first work) (sym w.trail-is) s),
          )
    ]

pub returns-clause-follow : goal.returns-clause-follow
returns-clause-follow c =
    followed_all c.args.log.now c.args.slots.now c.args.work.now.configurations.items c.loop-slot.work.configurations.items
    c.args.from.now c.loop-slot.slot c.loop-slot.invariant.0 c.loop-slot-test.false
