use Rattle.std.proofs.Common.{[], Some, ◌≡◌, ◌-◌, ◌∙◌, ap, arith, false, get_or, inl, inr, length, slice_get, sym, ℕ}
use Rattle.std.proofs.lemmas.Option.{slice_get-get_or}
use Rattle.mencius_clients.specs.declared.configuration.Configuration.{Configuration}
use Rattle.mencius_clients.proofs.Fewer.{best_all, best_more, best_none}
use Rattle.mencius_clients.proofs.SoundSteps.{none_one}
use Rattle.mencius_clients.proofs.steps.best_of.Goals as goal

pub loop-count-init : goal.loop-count-init
loop-count-init c = (
  best_none c.args.log.now c.args.lost.now c.args.configurations.now c.new-best.result.configurations.items,
  λ d one. none_one c.new-best.result.configurations.items d c.new-best.ensures one,
)

pub loop-count-preserved : goal.loop-count-preserved
loop-count-preserved c =
    let none : Configuration = record { done = record { words = [] }; text = 0; unseen = false; trail = 0 } in
    let cs = c.args.configurations.now in
    let some = c.loop-count-test.true in
    let place : ℕ = length cs - 1 - c.loop-count.count in
    let at : slice_get cs place ≡ Some (get_or cs place none) = slice_get-get_or cs place none (omega (arith, some)) in
    let e = c.in_ok-push_better.ensures in (
      best_more c.args.log.now c.args.lost.now cs c.loop-count.best.configurations.items
          c.push_better.new.best.configurations.items (get_or cs place none) c.loop-count.count
          c.loop-count.invariant.0 some at e.longer e.there,
      λ d one. elim (e.within d one) [
        | inl before ↦ c.loop-count.invariant.1 d before
        | inr same ↦ (place, at ∙ ap Some (sym same))
      ],
    )

pub returns-clause-best : goal.returns-clause-best
returns-clause-best c =
    best_all c.args.log.now c.args.lost.now c.args.configurations.now c.loop-count.best.configurations.items c.loop-count.count
    c.loop-count.invariant.0 c.loop-count-test.false
