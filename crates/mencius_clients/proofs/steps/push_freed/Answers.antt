use Rattle.std.proofs.Common.{[], ◌∷◌, inl, inr, length, ap, sym, subst, ◌∙◌, slice_get}
use Rattle.mencius_clients.specs.OrdersSoFar.{IsSoundlyFreed}
use Rattle.mencius_clients.proofs.SoundSteps.{one_of_more}
use Rattle.mencius_judge.proofs.observations.OrderSteps.{item_here}
use Rattle.mencius_clients.proofs.Fewer.{less_freed}
use Rattle.mencius_clients.proofs.Lacking.{get_front}
use Rattle.mencius_clients.proofs.steps.push_freed.Goals as goal

pub returns-then-has_better-clause-there : goal.returns-then-has_better-clause-there
returns-then-has_better-clause-there c calls lost =
    let log = c.args.log.now in
    let h = c.has_better.ensures c.if-has_better.true calls lost in (
      h.0,
      h.1,
      less_freed log calls c.args.slot c.args.from.now c.freed-new.result h.0 (c.freed-new.ensures.freed log calls) h.2 h.3 h.4,
    )

pub returns-clause-longer : goal.returns-clause-longer
returns-clause-longer c n d there =
    ap (λ xs. slice_get xs n) c.in_ok-push.ensures
    ∙ get_front c.args.next.now.configurations.items (c.freed-new.result ∷ []) n d there

pub returns-clause-there : goal.returns-clause-there
returns-clause-there c calls lost =
    let old = c.args.next.now.configurations.items in (
      c.freed-new.result,
      (
        length old,
        ap (λ xs. slice_get xs (length old)) c.in_ok-push.ensures ∙ item_here old [] c.freed-new.result,
      ),
      c.freed-new.ensures.freed c.args.log.now calls,
    )

pub returns-clause-sound : goal.returns-clause-sound
returns-clause-sound c took d one =
    elim (one_of_more c.args.next.now.configurations.items c.freed-new.result d
    (one.0, sym (ap (λ xs. slice_get xs one.0) c.in_ok-push.ensures) ∙ one.1)) [
      | inl before ↦ inl before
      | inr last ↦ inr (subst (IsSoundlyFreed c.args.slot c.args.from.now) (sym last) (c.freed-new.ensures.sound took))
    ]
