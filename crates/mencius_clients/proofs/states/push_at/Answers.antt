use Rattle.std.proofs.Common.{◌≡◌, ◌+◌, ℕ, Some, inl, inr, length, slice_get, ap, refl, sym, subst, ◌∙◌}
use Rattle.mencius_clients.specs.declared.configuration.Configuration.{Configuration}
use Rattle.mencius_clients.specs.States.{Precedes}
use Rattle.mencius_clients.proofs.DifferentStates.{more_rise}
use Rattle.mencius_clients.proofs.SoundSteps.{one_of_more}
use Rattle.mencius_clients.proofs.states.push_at.Goals as goal

pub returns-clause-rising : goal.returns-clause-rising
returns-clause-rising c h =
    let log = c.args.log.now in
    let old = c.args.rising.now.items in
    let next : Configuration = c.in-Some.next in
    more_rise log old c.push.new.self.items next c.in_ok-push.ensures.items
    (subst (λ xs. (n : ℕ) (d : Configuration) → n + 1 ≡ length xs → slice_get xs n ≡ Some d → Precedes log d next)
    c.as_slice.ensures.value (c.if-not-comes_after.ensures refl)) h

pub returns-clause-within : goal.returns-clause-within
returns-clause-within c d one =
    elim (one_of_more c.args.rising.now.items c.in-Some.next d
    (one.0, sym (ap (λ xs. slice_get xs one.0) c.in_ok-push.ensures.items) ∙ one.1)) [
      | inl before ↦ inl before
      | inr last ↦ inr (c.args.place, c.in-Some.ensures ∙ ap Some (sym last))
    ]
