use Rattle.std.proofs.Common.{None, Some, List, [], ◌∷◌, ◌++◌, length, refl, sym, ◌∙◌}
use Rattle.mencius_clients.specs.declared.configuration.Configuration.{Configuration}
use Rattle.mencius_clients.specs.declared.steps.Step.{Step}
use Rattle.mencius_clients.specs.OrdersSoFar.{AreReachable, AreWithin, IsReachable, numbered}
use Rattle.mencius_clients.proofs.SoundSteps.{reachable_step, slot_at}
use Rattle.mencius_clients.specs.Configurations.{Calls, HasRead, waiting}
use Rattle.mencius_clients.proofs.Growing.{barred, followed, on_ok, waits_at}
use Rattle.mencius_clients.proofs.steps.push_step.Goals as goal

pub returns-clause-follows : goal.returns-clause-follows
returns-clause-follows c =
    let log = c.args.log.now in
    let calls : Calls = waiting log c.args.slots.now in
    let cs = c.push_new.new.work.configurations.items in
    on_ok c.push_new.result
    (λ (h : HasRead log calls cs c.in-Some-stepped.new).
    followed log c.args.slots.now cs c.args.from.now c.in-Some-stepped.new c.args.slot
    c.in-Some-submitted_at.command.now
    (waits_at log c.args.slots.now c.args.slot c.in-Some.line None c.requires.slot c.in-Some.is
    ∙ c.in-Some-submitted_at.ensures) (c.in-Some-stepped.ensures.step calls) h) c.push_new.ensures.there

pub returns-in_default-stepped-clause-follows : goal.returns-in_default-stepped-clause-follows
returns-in_default-stepped-clause-follows c =
    barred c.args.log.now c.args.slots.now c.args.work.now.configurations.items c.args.from.now c.args.slot
    c.in-Some-submitted_at.command.now
    (waits_at c.args.log.now c.args.slots.now c.args.slot c.in-Some.line None c.requires.slot c.in-Some.is
    ∙ c.in-Some-submitted_at.ensures) c.in_default-stepped.ensures.step

pub returns-clause-sound : goal.returns-clause-sound
returns-clause-sound c =
    let log = c.args.log.now in
    let slots = c.args.slots.now in
    let from : Configuration = c.args.from.now in
    let new : Configuration = c.in-Some-stepped.new in
    let old : List Step = c.args.trail.now.items in
    let step : Step = record { line = c.in-Some.line; before = from.trail } in
    let more : List Step = old ++ step ∷ [] in
    let first = c.args.work.now.configurations.items in
    let work = c.push_new.new.work.configurations.items in
    on_ok c.push_new.result
    (λ (h : (cs : List Configuration) → AreWithin cs old → IsReachable log slots more cs (numbered new (Some step) (length more))
    → AreReachable log slots old cs first → AreReachable log slots c.push_new.new.trail.items cs work).
    λ cs within r. h cs within
    (reachable_step log slots cs old more from new (numbered new (Some step) (length more)) c.args.slot c.in-Some.line
    c.in-Some-submitted_at.command.now (slot_at slots c.args.slot c.in-Some.line None c.requires.slot c.in-Some.is)
    c.in-Some-submitted_at.ensures (sym c.has.ensures ∙ c.if-has.false) c.in-Some-stepped.ensures.sound refl refl refl refl
    within r))
    c.push_new.ensures.sound
