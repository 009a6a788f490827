use Rattle.std.proofs.Common.{rules, ◌≡◌, ap, ◌∙◌}
use Rattle.mencius_choices.specs.Order.{after_place}
use Rattle.mencius_choices.specs.Choices.{ChooserState, is_any}
use Rattle.mencius_choices.proofs.ChosenEvents.{any_left, command_chosen, event_chosen, pick_at_is}
use Rattle.mencius_choices.proofs.chooser.Chooser.choose.Goals as goal

pub returns-in-Is : goal.returns-in-Is
returns-in-Is c =
    let old = c.args.self.now in
    let mid = c.draw-words.new.self in
    let loss : c.loss.result ≡ old.plan.loss = search rules in
    let next = any_left c.find_command-next.result mid.left (λ x. (x.0.server, x.1.now))
    (λ x. after_place mid.plan mid.drawing.worker x.0) c.find_command-next.ensures.next in
    let left : c.is_some.result ≡ is_any old.left = c.is_some.ensures
    ∙ (next ∙ ap (λ (x : ChooserState). is_any x.left) c.draw-words.ensures.drawn) in
    let pick = pick_at_is old c.args.cluster.now c.loss.result c.is_some.result c.draw-words.result c.pick.result loss
    left c.draw-words.ensures.words c.pick.ensures in
    event_chosen old mid c.args.cluster.now c.in-Is.event (pick ∙ c.in-Is.is) c.draw-words.ensures.drawn

pub returns-in-NextCommand : goal.returns-in-NextCommand
returns-in-NextCommand c =
    let old = c.args.self.now in
    let mid = c.draw-words.new.self in
    let first = c.unwrap.result in
    let loss : c.loss.result ≡ old.plan.loss = search rules in
    let next = any_left c.find_command-next.result mid.left (λ x. (x.0.server, x.1.now))
    (λ x. after_place mid.plan mid.drawing.worker x.0) c.find_command-next.ensures.next in
    let left : c.is_some.result ≡ is_any old.left = c.is_some.ensures
    ∙ (next ∙ ap (λ (x : ChooserState). is_any x.left) c.draw-words.ensures.drawn) in
    let pick = pick_at_is old c.args.cluster.now c.loss.result c.is_some.result c.draw-words.result c.pick.result loss
    left c.draw-words.ensures.words c.pick.ensures in
    command_chosen c.submit.result old mid c.submit.new.self c.args.cluster.now (first.0.server, first.1.now)
    (after_place mid.plan mid.drawing.worker first.0)
    (pick ∙ c.in-NextCommand.is) c.draw-words.ensures.drawn
    (rw c.unwrap.ensures at c.find_command-next.ensures.next) c.submit.ensures
